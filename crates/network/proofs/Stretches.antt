-- A symbol, and two symbols, in a stretch of symbols: what readings in a few symbols make in any t consecutive ones. Assumes nothing.
use mathlib.Core.Path.{◌≡◌, refl, ap, ◌∙◌}
use mathlib.Core.List.{[], ◌∷◌}
use mathlib.Core.Bool.{Bool, true, false, cond, ◌&&◌}
use Prim.Native.Nat.{ℕ, ◌+◌, ◌*◌, ◌≤◌, ◌<◌}
use native.Mathlib.Decide.{dec_le}
use native.Mathlib.Omega.{arith}
use lib.Dec.{eqb, ltb}
use borrow.Author.Tests.{lt-ltb, le-ltb}
use Rattle.network.specs.Counting.{total, bit, All, each}
use Rattle.network.specs.Model.{Frame}
use Rattle.network.specs.Readings.{made}
use Rattle.network.specs.Examples.{reading, soon_from}
use Rattle.network.proofs.Sums.{total-ap, total-add, total-zero, total-shift, total-pick}
use Rattle.network.proofs.Answers.{eqb-sym, bit_le}

-- 1 if symbol a is one of the t symbols from x on, else 0
unfoldable pub stretch : ℕ → ℕ → ℕ → ℕ
stretch a x t = total (λ i. bit (eqb a (x + i))) t

stretch-is : (a x t : ℕ) → bit (ltb a x) + stretch a x t ≡ bit (ltb a (x + t))
unfolding stretch
stretch-is a x t = omega (arith, total-shift (λ i. bit (eqb a i)) x t, till x, till (x + t))
  where
    till : (u : ℕ) → total (λ i. bit (eqb a i)) u ≡ bit (ltb a u)
    till u = total-ap (λ i. bit (eqb a i)) (λ i. bit (eqb i a) * 1) u (λ i h. ap bit (eqb-sym a i) ∙ omega arith) ∙ total-pick (λ i. 1) a u ∙ omega arith

pub stretch-le : (a x t : ℕ) → stretch a x t ≤ 1
stretch-le a x t = omega (arith, stretch-is a x t, bit_le (ltb a (x + t)))

-- a stretch that ends before a symbol, and one that begins after it
stretch-before : (a x t : ℕ) → x + t ≤ a → stretch a x t ≡ 0
unfolding bit
stretch-before a x t h = let e = rw (le-ltb a (x + t) h) at (stretch-is a x t) in omega arith

stretch-after : (a x t : ℕ) → a < x → stretch a x t ≡ 0
unfolding bit
stretch-after a x t h = let e = rw (lt-ltb a x h, lt-ltb a (x + t) (omega arith)) at (stretch-is a x t) in omega arith

-- of two symbols that lie t or more apart, at most one is in t symbols
pub apart : (a b x t : ℕ) → a + t ≤ b → stretch a x t + stretch b x t ≤ 1
apart a b x t h = by (dec_le x a)
  where
    by : Dec (x ≤ a) → stretch a x t + stretch b x t ≤ 1
    by (yes l) = omega (arith, stretch-le a x t, stretch-before b x t (omega arith))
    by (no l) = omega (arith, stretch-le b x t, stretch-after a x t (omega arith))

-- ---- three frames, each as soon as a token bucket of 960 + 2 × t has room for it

soon-made : (a t : ℕ) → made (soon_from a) t 1 ≡ bit (eqb a t) + (bit (eqb (a + 479) t) + bit (eqb (a + 959) t))
unfolding made soon_from reading bit
soon-made a t = omega (arith, one (eqb a t), one (eqb (a + 479) t), one (eqb (a + 959) t))
  where
    one : (b : Bool) → cond {A = ℕ} (b && true) 1 0 ≡ bit b
    one true = refl
    one false = refl

soon-few : (a x t : ℕ) → (stretch a x t + (stretch (a + 479) x t + stretch (a + 959) x t)) * 960 ≤ 960 + 2 * t
soon-few a x t = by (dec_le 960 t) (dec_le 480 t)
  where
    by : Dec (960 ≤ t) → Dec (480 ≤ t) → (stretch a x t + (stretch (a + 479) x t + stretch (a + 959) x t)) * 960 ≤ 960 + 2 * t
    by (yes h) k = omega (arith, stretch-le a x t, stretch-le (a + 479) x t, stretch-le (a + 959) x t)
    by (no h) (yes k) = omega (arith, apart a (a + 959) x t (omega arith), stretch-le (a + 479) x t)
    by (no h) (no k) = omega (arith, apart a (a + 479) x t (omega arith), apart (a + 479) (a + 959) x t (omega arith), apart a (a + 959) x t (omega arith))

-- so node 1 keeps to that bucket, and node 0 makes none
pub soon-makes : (a x n : ℕ) → total (λ j. made (soon_from a) (x + j) 1) n * 960 ≤ 960 + 2 * n
unfolding stretch
soon-makes a x n = omega (
  arith,
  soon-few a x n,
  total-ap (λ j. made (soon_from a) (x + j) 1) (λ j. bit (eqb a (x + j)) + (bit (eqb (a + 479) (x + j)) + bit (eqb (a + 959) (x + j)))) n (λ j h. soon-made a (x + j)),
  total-add (λ j. bit (eqb a (x + j))) (λ j. bit (eqb (a + 479) (x + j)) + bit (eqb (a + 959) (x + j))) n,
  total-add (λ j. bit (eqb (a + 479) (x + j))) (λ j. bit (eqb (a + 959) (x + j))) n,
)

none_made : (a t : ℕ) → made (soon_from a) t 0 ≡ 0
unfolding made soon_from reading
none_made a t = omega (arith, never (eqb a t), never (eqb (a + 479) t), never (eqb (a + 959) t))
  where
    never : (b : Bool) → cond {A = ℕ} (b && false) 1 0 ≡ 0
    never true = refl
    never false = refl

pub soon-none : (a x n : ℕ) → total (λ j. made (soon_from a) (x + j) 0) n ≡ 0
soon-none a x n = omega (arith, total-ap (λ j. made (soon_from a) (x + j) 0) (λ j. 0) n (λ j h. none_made a (x + j)), total-zero n)

-- Of the frames that are made in symbols 0, 479 and 959, the first is sent in 960 and the second in 1920, so that the third is still there at the
-- end of 2400: 1441 symbols after it was made.
unfoldable pub third-frame : Frame
third-frame = record { sensor = 1; made = 959; came = 959 }

pub too-late : All (λ f. 2400 ≤ f.made + 1440) (third-frame ∷ []) → ⊥
unfolding third-frame
too-late (each h t) = omega (arith, h)
