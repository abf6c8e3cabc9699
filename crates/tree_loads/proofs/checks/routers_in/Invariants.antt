-- What the loops of `tree_loads::checks::routers_in` keep. Assumes nothing.
use mathlib.Core.Path.{◌≡◌}
use Prim.Native.Nat.{◌-◌, ◌<◌}
use Rattle.network.specs.Counting.{bit}
use Rattle.tree_model.specs.Tree.{sum_to, is_router}
use Rattle.tree_plan_model.specs.Inner.{shape}
use Rattle.tree_loads.proofs.checks.routers_in.Given as goal

abbrev pub invariant-loop-v : goal.invariant-loop-v
invariant-loop-v l = (l.count < l.v) × (l.count ≡ sum_to (λ u. bit (is_router (shape l.parents) u)) (l.v - 1))
