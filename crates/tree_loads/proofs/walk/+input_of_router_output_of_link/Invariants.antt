-- The measure of the cycle of calls {input_of_router, output_of_link}: the nodes that remain away from the sink, twice, and one more for the
-- link. What the loop over a router's neighbours keeps. Assumes nothing.
use mathlib.Core.List.{List}
use Prim.Native.Nat.{ℕ, ◌+◌, ◌-◌, ◌*◌, ◌≤◌, ◌<◌}
use lib.ListN.{length, take}
use Rattle.links.specs.declared.Load.{Load}
use Rattle.links.specs.declared.Timing.{Timing}
use Rattle.tree_model.specs.Tree.{tree_of}
use Rattle.tree_model.proofs.Steps as steps
use Rattle.tree_plan_model.specs.Children.{Beside}
use Rattle.tree_plan_model.specs.Inner.{tree_up_to}
use Rattle.tree_loads.proofs.Neighbours.{before, left, Upto}
use Rattle.tree_loads.proofs.walk.+input_of_router_output_of_link.Given as goal

-- the next neighbour is w: those before it are taken
pub record Turn (a : Timing) (ps bs rs : List ℕ) (v from : ℕ) (ns ns' : List ℕ) (total : Load) (w : ℕ) : Type 0 where
  pub known : w < length ps
  pub beside : 1 ≤ w → Beside ps v w
  pub upto : Upto a (tree_of ps bs rs) v from ns total ns' (before (length ps - 1) w)

abbrev pub decreases-input_of_router : goal.decreases-input_of_router
decreases-input_of_router l = 2 * steps.remaining (tree_up_to l.nodes l.kin.now l.bursts.now l.rates.now) l.v l.from

abbrev pub decreases-output_of_link : goal.decreases-output_of_link
decreases-output_of_link l = 2 * steps.remaining (tree_up_to l.nodes l.kin.now l.bursts.now l.rates.now) l.w l.v + 1

abbrev pub invariant-input_of_router-loop-w : goal.invariant-input_of_router-loop-w
invariant-input_of_router-loop-w l =
    Turn l.fn.t (take (l.nodes + 1) l.kin) (take (l.nodes + 1) l.bursts) (take (l.nodes + 1) l.rates) l.v l.from l.initial.notes l.notes l.total l.w

abbrev pub decreases-input_of_router-loop-w : goal.decreases-input_of_router-loop-w
decreases-input_of_router-loop-w l = left (length (take (l.nodes + 1) l.kin)) l.w
