-- What the loops of `tree_decide::node_lines::put_lines` keep. Assumes nothing.
use mathlib.Core.Path.{◌≡◌}
use Prim.Native.Nat.{◌-◌}
use lib.Seq.{sets}
use Rattle.node_table_model.specs.NodeRows.{tree_table}
use Rattle.tree_plan_model.specs.Tables.{lines_in}
use Rattle.tree_decide.proofs.node_lines.put_lines.Given as goal

-- the lines of the nodes before v are put
abbrev pub invariant-loop-v : goal.invariant-loop-v
invariant-loop-v l = l.table ≡ sets l.initial.table 0 (tree_table (lines_in l.t l.parents l.notes l.sink (l.v - 1)))
