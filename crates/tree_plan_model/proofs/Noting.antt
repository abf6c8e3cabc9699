-- The notes of a walk, as they are read. Assumes nothing.
use mathlib.Core.Path.{◌≡◌}
use mathlib.Core.Bool.{cond}
use mathlib.Core.List.{List}
use Prim.Native.Nat.{ℕ, ◌<◌}
use lib.Dec.{ltb}
use lib.ListN.{get_or}
use borrow.Author.Tests.{lt-ltb}
use Rattle.tree_plan_model.specs.Tables.{superframe_in}
use Rattle.tree_plan_model.specs.Inner.{load_in, towards_in, load_noted, towards_noted}

module _ (ns : List ℕ) (v : ℕ) where
  pub load-noted : v < 256 → load_noted ns v ≡ load_in ns v
  unfolding load_noted
  load-noted h = rw (lt-ltb v 256 h)

  pub towards-noted : v < 256 → towards_noted ns v ≡ towards_in ns v
  unfolding towards_noted
  towards-noted h = rw (lt-ltb v 256 h)

-- the router whose superframe it is
pub superframe-read : (ps ns : List ℕ) (v r : ℕ) → v < 256 → r ≡ cond (ltb v (towards_noted ns v)) v (get_or ps v 0) → r ≡ superframe_in ps ns v
unfolding superframe_in
superframe-read ps ns v r h e = rw (← towards-noted ns v h) e
