-- `decimal::put_four` meets its contract. Assumes nothing.
use Rattle.decimal_model.proofs.Putting.{put-digits}
use Rattle.decimal.proofs.put_four.Goals as goal

pub returns : goal.returns
returns c =
    let fourth = c in
    let third = c in
    let second = c in
    let first = c in
    let a = c.args in
    put-digits a.out.now _ _ _ _ a.at a.k a.n
    c.put_digit.ensures c.put_digit-2.ensures c.put_digit-3.ensures c.put_digit-4.ensures
