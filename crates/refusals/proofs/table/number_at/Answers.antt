-- `refusals::table::number_at` meets its contract. Assumes nothing.
use mathlib.Core.Path.{ap}
use Prim.Native.Nat.{ℕ}
use Rattle.std.proofs.Common.{Option, Some, None}
use Rattle.refusals.specs.Table.{table}
use Rattle.refusals.proofs.Rows.{row-got}
use Rattle.refusals.proofs.table.number_at.Goals as goal

pub returns-in-Some : goal.returns-in-Some
unfolding table
returns-in-Some c = ap (λ (p : ℕ × Option ℕ). p.0) (row-got c.args.sort (Some c.in-Some.field-0) c.in-Some.ensures.lookup)

pub returns-in-None : goal.returns-in-None
unfolding table
returns-in-None c = ap (λ (p : ℕ × Option ℕ). p.0) (row-got c.args.sort None c.in-None.ensures.lookup)
