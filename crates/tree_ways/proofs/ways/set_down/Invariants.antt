-- What the loops of `tree_ways::ways::set_down` keep. Assumes nothing.
use mathlib.Core.Path.{◌≡◌}
use Prim.Native.Nat.{◌≤◌}
use lib.ListN.{length}
use Rattle.tree_plan_model.specs.Filled.{DownFrom}
use Rattle.tree_ways.proofs.ways.set_down.Given as goal

-- the ways of the nodes from v on are set
abbrev pub invariant-loop-v : goal.invariant-loop-v
invariant-loop-v l = (1 ≤ l.v) × (length l.ways ≡ 256) × DownFrom l.t l.parents l.notes l.sink l.v l.ways
