-- What is decided of a surveyed tree: the lines that stand in a table. Assumes nothing.
use Rattle.std.specs.Prelude.{Ok}
use mathlib.Core.Path.{◌≡◌, ap, sym, ◌∙◌}
use mathlib.Core.List.{List}
use Prim.Native.Nat.{ℕ, ◌*◌, ◌/◌, ◌≤◌}
use native.Mathlib.Omega.{arith}
use lib.ListN.{length}
use lib.Seq.{sets}
use Rattle.refusals.specs.Outcome.{Planned}
use Rattle.plan_model.specs.Plans.{answer, written}
use Rattle.line_table_model.proofs.Decided.{decided-back}
use Rattle.node_table_model.specs.NodeRows.{tree_table, nodes_in}
use Rattle.node_table_model.proofs.NodeLaws.{nodes-length, nodes-back}
use Rattle.tree_model.specs.Outcome.{TreeOutcome}

counted : (n : ℕ) → 10 * n ≤ 2540 → (10 * n) / 10 ≡ n
counted n h = omega arith

-- planned: ten numbers for each node, which are its lines
pub planned-nodes : (o : TreeOutcome) (n : ℕ) (e table : List ℕ) → Ok n ≡ answer tree_table o → n ≤ 2540 → 2540 ≤ length e
    → table ≡ sets e 0 (written tree_table o) → o ≡ Planned (nodes_in table (n / 10))
planned-nodes o n e table a low room t =
    let g = decided-back 10 2540 tree_table nodes_in (λ k. k / 10) nodes-length nodes-back counted o n e table a low room t in
    sym g.planned ∙ ap Planned (sym g.back)
