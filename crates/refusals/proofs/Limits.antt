-- One condition that a number passes a limit. Assumes nothing.
use Rattle.std.specs.Prelude.{Ok, Err}
use mathlib.Core.Path.{◌≡◌}
use mathlib.Core.List.{[], ◌∷◌}
use Prim.Native.Nat.{ℕ, ◌≤◌, ◌<◌}
use lib.Dec.{ltb}
use borrow.Author.Tests.{lt-ltb, le-ltb}
use Rattle.refusals.specs.declared.Refusal.{Refusal}
use Rattle.refusals.specs.Conditions.{condition, first_broken, verdict}

pub over-limit : (l n : ℕ) (r : Refusal) → l < n → Err r ≡ verdict (condition (ltb l n) r ∷ [])
unfolding first_broken
over-limit l n r h = rw (lt-ltb l n h)

pub in-limit : (l n : ℕ) (r : Refusal) → n ≤ l → (Ok tt) ≡ verdict (condition (ltb l n) r ∷ [])
unfolding first_broken
in-limit l n r h = rw (le-ltb l n h)
