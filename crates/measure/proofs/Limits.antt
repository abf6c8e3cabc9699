-- Answers where a number may pass 64 bits. Assumes nothing.
use mathlib.Core.Path.{◌≡◌}
use Prim.Native.Nat.{ℕ, ◌^◌, ◌≤◌, ◌<◌}
use borrow.Author.Tests.{lt-ltb, le-ltb}
use native.Mathlib.Omega.{arith}
use Rattle.measure.specs.Measures.{up_to_64, within}

-- where the number fits, it is the answer
pub up_to_fits : {n : ℕ} → n < 2 ^ 64 → up_to_64 n ≡ n
up_to_fits h = omega arith

-- where the number on the way fits, the definition's value is the answer
pub within-fits : {A : Type 0} (n : ℕ) (a b : A) → n < 2 ^ 64 → within n a b ≡ a
within-fits n a b h = rw (lt-ltb n (2 ^ 64) h)

-- and else the named answer
pub within-past : {A : Type 0} (n : ℕ) (a b : A) → 2 ^ 64 ≤ n → within n a b ≡ b
within-past n a b h = rw (le-ltb n (2 ^ 64) h)
