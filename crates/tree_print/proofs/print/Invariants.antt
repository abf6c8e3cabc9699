-- What the loop of `tree_print::print` keeps: the text of the lines so far stands at the front, and `end` is behind it. Assumes nothing.
use mathlib.Core.Path.{◌≡◌}
use Prim.Native.Nat.{◌+◌, ◌*◌, ◌≤◌}
use lib.ListN.{length}
use lib.Seq.{sets}
use Rattle.report_model.specs.TreeText.{tree_text}
use Rattle.node_table_model.specs.NodeRows.{nodes_in}
use Rattle.tree_print.proofs.print.Given as goal

abbrev pub invariant-loop-v : goal.invariant-loop-v
invariant-loop-v l =
    (l.end ≤ 62 + 191 * l.v) × (l.end ≡ length (tree_text (nodes_in l.table l.v)))
    × (l.out ≡ sets l.fn.out 0 (tree_text (nodes_in l.table l.v)))
