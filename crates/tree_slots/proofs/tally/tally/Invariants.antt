-- What the loops of `tree_slots::tally::tally` keep. Assumes nothing.
use Prim.Native.Nat.{◌-◌}
use Rattle.tree_slots.proofs.Passing.{PassedTo}
use Rattle.tree_slots.proofs.tally.tally.Given as goal

-- the links of the nodes before v are counted
abbrev pub invariant-loop-v : goal.invariant-loop-v
invariant-loop-v l = PassedTo l.t l.parents l.notes l.sink (l.v - 1) l.counts l.used
