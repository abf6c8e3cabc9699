-- `report::line::put_spaced` meets its contract. Assumes nothing.
use mathlib.Core.Path.{refl}
use mathlib.Core.List.{◌∷◌}
use native.Mathlib.Omega.{arith}
use lib.ListN.{get_or}
use Rattle.decimal_model.specs.Decimal.{decimal}
use Rattle.report_model.specs.Inner.{spaced}
use Rattle.report_model.proofs.LineText.{spaced_more}
use Rattle.buffer.proofs.Behind.{put-behind}
use Rattle.report.proofs.line.put_spaced.Goals as goal

pub loop-number-init : goal.loop-number-init
unfolding spaced
loop-number-init c = (omega arith, record { ends = omega arith; leaves = refl })

pub loop-number-preserved : goal.loop-number-preserved
loop-number-preserved c =
    let l = c.loop-number in
    let ns = c.args.numbers.now in
    let w = c.put_one-end.ensures in (
      omega (arith, l.invariant.0, w.upper_bound),
      rw (spaced_more ns l.number-index c.loop-number-test.true) (put-behind (32 ∷ decimal (get_or ns l.number-index 0)) l.invariant.1 w.value w.out_after),
    )
