-- `refusals::table::place_at` meets its contract. Assumes nothing.
use mathlib.Core.Path.{ap, ◌∙◌, sym}
use Prim.Native.Nat.{ℕ}
use Rattle.std.proofs.Common.{Option, Some, None, unwrap_or}
use Rattle.refusals.specs.Table.{table, sort_at}
use Rattle.refusals.proofs.Rows.{row-got, place-said}
use Rattle.refusals.proofs.table.place_at.Goals as goal

pub returns-in-Some : goal.returns-in-Some
unfolding table
returns-in-Some c =
    c.unwrap_or.ensures
    ∙ ap (λ (p : ℕ × Option ℕ). unwrap_or p.1 0) (row-got c.args.sort (Some c.in-Some.field-0) c.in-Some.ensures.lookup)
    ∙ sym (place-said (sort_at c.args.sort).place)

pub returns-in-None : goal.returns-in-None
unfolding table
returns-in-None c =
    ap (λ (p : ℕ × Option ℕ). unwrap_or p.1 0) (row-got c.args.sort None c.in-None.ensures.lookup) ∙ sym (place-said (sort_at c.args.sort).place)
