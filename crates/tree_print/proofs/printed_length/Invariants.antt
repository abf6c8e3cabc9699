-- What the loop of `tree_print::printed_length` keeps: `end` is the length of the text of the lines so far. Assumes nothing.
use mathlib.Core.Path.{◌≡◌}
use Prim.Native.Nat.{◌+◌, ◌*◌, ◌≤◌}
use lib.ListN.{length}
use Rattle.report_model.specs.TreeText.{tree_text}
use Rattle.node_table_model.specs.NodeRows.{nodes_in}
use Rattle.tree_print.proofs.printed_length.Given as goal

abbrev pub invariant-loop-v : goal.invariant-loop-v
invariant-loop-v l = (l.end ≤ 62 + 191 * l.v) × (l.end ≡ length (tree_text (nodes_in l.table l.v)))
