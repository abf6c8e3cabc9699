-- What the loops of `tree_list::lists::read_nodes` keep. Assumes nothing.
use Prim.Native.Nat.{◌-◌}
use lib.ListN.{length}
use Rattle.tree_list.proofs.Reading.{Turn}
use Rattle.tree_list.proofs.lists.read_nodes.Given as goal

abbrev pub invariant-loop-line : goal.invariant-loop-line
invariant-loop-line l = Turn l.input l.fn.from.at l.k l.cursor.at l.parents l.bursts l.rates

abbrev pub decreases-loop-line : goal.decreases-loop-line
decreases-loop-line l = length l.input - l.cursor.at
