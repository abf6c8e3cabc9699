-- What the loops of `tree_children::link_children` keep. Assumes nothing.
use mathlib.Core.Path.{◌≡◌}
use Prim.Native.Nat.{◌-◌, ◌≤◌}
use lib.ListN.{length}
use Rattle.tree_plan_model.specs.Children.{LinkedFrom}
use Rattle.tree_children.proofs.link_children.Given as goal

abbrev pub invariant-loop-w : goal.invariant-loop-w
invariant-loop-w l = (length l.kin ≡ 768) × (length l.parents ≤ 256 → LinkedFrom l.parents (l.w - 1) l.kin)
