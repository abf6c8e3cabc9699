-- What the loops of `tree_hops::hops::put_hops` keep. Assumes nothing.
use mathlib.Core.Path.{◌≡◌}
use Prim.Native.Nat.{◌-◌}
use lib.Seq.{sets}
use Rattle.tree_plan_model.specs.Hops.{hops_by}
use Rattle.tree_hops.proofs.hops.put_hops.Given as goal

-- those of the nodes before v are put
abbrev pub invariant-loop-v : goal.invariant-loop-v
invariant-loop-v l = l.hops ≡ sets l.initial.hops 0 (hops_by l.parents l.notes l.sink (l.v - 1))
