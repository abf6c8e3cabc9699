-- A table of which some entries are right, and one more once it is put. Assumes nothing.
use mathlib.Core.Path.{◌≡◌, ◌∙◌}
use mathlib.Core.List.{List}
use Prim.Native.Nat.{ℕ, ◌<◌}
use native.Mathlib.Decide.{ℕ_discrete}
use lib.ListN.{length, get_or, set}
use lib.Seq.{get_or-set_same, get_or-set_other}

-- entry n has been put right: any other is right where it was
pub entry-put : (f : ℕ → ℕ) (xs : List ℕ) (n x : ℕ) → n < length xs → x ≡ f n → (v : ℕ) → ((v ≡ n → ⊥) → get_or xs v 0 ≡ f v) → get_or (set xs n x) v 0 ≡ f v
entry-put f xs n x l e v h = by (ℕ_discrete v n)
  where
    by : Dec (v ≡ n) → get_or (set xs n x) v 0 ≡ f v
    by (yes q) = rw q (get_or-set_same xs n x 0 l ∙ e)
    by (no m) = get_or-set_other xs n v x 0 m ∙ h m
