-- What the loops of `tree_ways::ways::set_up` keep. Assumes nothing.
use mathlib.Core.Path.{◌≡◌}
use Prim.Native.Nat.{◌-◌}
use lib.ListN.{length}
use Rattle.tree_plan_model.specs.Filled.{UpTo}
use Rattle.tree_ways.proofs.ways.set_up.Given as goal

-- the ways of the nodes before v are set
abbrev pub invariant-loop-v : goal.invariant-loop-v
invariant-loop-v l = (length l.ways ≡ 256) × UpTo l.t l.parents l.notes l.sink (l.v - 1) l.ways
