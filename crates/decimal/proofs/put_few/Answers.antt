-- `decimal::put_few` meets its contract. Assumes nothing.
use native.Mathlib.Omega.{arith}
use Rattle.decimal_model.proofs.Putting.{put_one, put_two, put_three, put_four}
use Rattle.decimal.proofs.put_few.Goals as goal

pub returns-in-0-to-9 : goal.returns-in-0-to-9
returns-in-0-to-9 c = let a = c.args in put_one a.out.now _ a.at a.rest (omega arith) c.put_digit.ensures

pub returns-in-10-to-99 : goal.returns-in-10-to-99
returns-in-10-to-99 c =
    let a = c.args in
    put_two a.out.now _ _ a.at a.rest (omega arith) (omega arith) c.put_digit-in-10-to-99.ensures c.put_digit-in-10-to-99-2.ensures

pub returns-in-100-to-999 : goal.returns-in-100-to-999
returns-in-100-to-999 c =
    let a = c.args in
    put_three a.out.now _ _ _ a.at a.rest (omega arith) (omega arith)
    c.put_digit-in-100-to-999.ensures c.put_digit-in-100-to-999-2.ensures c.put_digit-in-100-to-999-3.ensures

pub returns-in_default : goal.returns-in_default
returns-in_default c = let a = c.args in put_four a.out.now _ a.at a.rest (omega arith) c.requires c.put_four.ensures
