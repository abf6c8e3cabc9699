-- What the loops of `tree_ways::depths::set_depths` keep. Assumes nothing.
use mathlib.Core.Path.{◌≡◌}
use Prim.Native.Nat.{◌-◌}
use lib.ListN.{length}
use Rattle.tree_plan_model.specs.Filled.{DepthsTo}
use Rattle.tree_ways.proofs.depths.set_depths.Given as goal

-- the depths of the nodes before v are set
abbrev pub invariant-loop-v : goal.invariant-loop-v
invariant-loop-v l = (length l.depths ≡ 256) × DepthsTo l.parents (l.v - 1) l.depths
