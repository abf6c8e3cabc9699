-- `line_table::put_numbers` meets its contract. Assumes nothing.
use mathlib.Core.Path.{◌∙◌}
use native.Mathlib.Omega.{arith}
use Rattle.line_table_model.proofs.Numbers.{set-lowered, numbers-next}
use Rattle.line_table.proofs.put_numbers.Goals as goal

pub loop-k-preserved : goal.loop-k-preserved
loop-k-preserved c =
    let a = c.args in
    let l = c.loop-k in
    c.put_number.ensures
    ∙ set-lowered l.table _ _ _ _ (omega arith) c.saturating_add.ensures
    ∙ rw l.invariant (numbers-next a.table.now a.at a.numbers.now l.k c.loop-k-test.true)
