-- `report_length::spaced_length` meets its contract. Assumes nothing.
use mathlib.Core.Path.{refl}
use mathlib.Core.List.{◌∷◌}
use native.Mathlib.Omega.{arith}
use lib.ListN.{get_or, take, length-append}
use Rattle.decimal_model.specs.Decimal.{decimal}
use Rattle.decimal_model.proofs.Writing.{at-most-twenty}
use Rattle.report_model.specs.Inner.{spaced}
use Rattle.report_model.proofs.LineText.{spaced_more}
use Rattle.report_length.proofs.spaced_length.Goals as goal

pub loop-number-init : goal.loop-number-init
unfolding spaced
loop-number-init c = (omega arith, refl)

pub overflow_add-length : goal.overflow_add-length
overflow_add-length c =
    let k = c.loop-number.number-index in
    omega (arith, (at-most-twenty (get_or c.args.numbers.now k 0) (c.type_inv.numbers k).fits).1)

pub overflow_add-length-in-loop-number : goal.overflow_add-length-in-loop-number
overflow_add-length-in-loop-number c =
    let k = c.loop-number.number-index in
    omega (arith, (at-most-twenty (get_or c.args.numbers.now k 0) (c.type_inv.numbers k).fits).1)

pub loop-number-preserved : goal.loop-number-preserved
loop-number-preserved c =
    let l = c.loop-number in
    let ns = c.args.numbers.now in
    let n = get_or ns l.number-index 0 in (
      omega (arith, (at-most-twenty n (c.type_inv.numbers l.number-index).fits).1),
      rw (spaced_more ns l.number-index c.loop-number-test.true) (omega (arith, length-append (spaced (take l.number-index ns)) (32 ∷ decimal n))),
    )
