-- Laws of sums. Assumes nothing.
use mathlib.Core.Path.{◌≡◌, refl, sym, ap, ap₂, ◌∙◌}
use Prim.Native.Nat.{ℕ, zero, suc, ◌+◌, ◌*◌, ◌≤◌, ◌<◌, min}
use native.Mathlib.Nat.{le_refl, add-zero, add-suc, zero-min}
use lib.Dec.{ltb, eqb}
use borrow.Author.Tests.{lt-ltb, le-ltb, eq-eqb, ne_eqb}
use Rattle.network.specs.Counting.{total, bit}
use native.Mathlib.Decide.{le_ind, dec_le, ℕ_discrete}
use native.Mathlib.Omega.{arith}

pub total-ap : (f g : ℕ → ℕ) (u : ℕ) → ((i : ℕ) → i < u → f i ≡ g i) → total f u ≡ total g u
unfolding total
total-ap f g zero h = refl
total-ap f g (suc u) h = ap₂ ◌+◌ (total-ap f g u (λ i k. h i (omega arith))) (h u (le_refl (suc u)))

pub total-add : (f g : ℕ → ℕ) (u : ℕ) → total (λ i. f i + g i) u ≡ total f u + total g u
unfolding total
total-add f g zero = refl
total-add f g (suc u) = omega (arith, total-add f g u)

pub total_mono : (f g : ℕ → ℕ) (u : ℕ) → ((i : ℕ) → i < u → f i ≤ g i) → total f u ≤ total g u
unfolding total
total_mono f g zero h = le_refl 0
total_mono f g (suc u) h = omega (arith, total_mono f g u (λ i k. h i (omega arith)), h u (le_refl (suc u)))

pub total-zero : (u : ℕ) → total (λ i. 0) u ≡ 0
unfolding total
total-zero zero = refl
total-zero (suc u) = omega (arith, total-zero u)

-- the order of two sums may be changed
pub total-swap : (f : ℕ → ℕ → ℕ) (u n : ℕ) → total (λ i. total (λ j. f i j) n) u ≡ total (λ j. total (λ i. f i j) u) n
unfolding total
total-swap f zero n = sym (total-zero n)
total-swap f (suc u) n = ap (λ (x : ℕ). x + total (λ j. f u j) n) (total-swap f u n) ∙ sym (total-add (λ j. total (λ i. f i j) u) (λ j. f u j) n)

pub total-le : (f : ℕ → ℕ) (s u : ℕ) → s ≤ u → total f s ≤ total f u
unfolding total
total-le f s u h = le_ind (λ (m : ℕ). total f s ≤ total f m) (le_refl (total f s)) (λ m k e. omega arith) u h

pub total-mul : (f : ℕ → ℕ) (k u : ℕ) → total (λ i. f i * k) u ≡ total f u * k
unfolding total
total-mul f k zero = omega arith
total-mul f k (suc u) = omega (arith, total-mul f k u)

-- the sum from x on
pub total-shift : (f : ℕ → ℕ) (x t : ℕ) → total f x + total (λ i. f (x + i)) t ≡ total f (x + t)
unfolding total
total-shift f x zero = rw (add-zero x) (omega arith)
total-shift f x (suc t) = rw (add-suc x t) (omega (arith, total-shift f x t))

-- the sum as far as c
pub total-cut : (f : ℕ → ℕ) (c u : ℕ) → total (λ i. bit (ltb i c) * f i) u ≡ total f (min u c)
unfolding total bit
total-cut f c zero = rw (zero-min c)
total-cut f c (suc u) = by (dec_le (suc u) c) (total-cut f c u)
  where
    by : Dec (u < c) → total (λ i. bit (ltb i c) * f i) u ≡ total f (min u c) → total (λ i. bit (ltb i c) * f i) u + bit (ltb u c) * f u ≡ total f (min (suc u) c)
    by (yes h) e =
        let now : min (suc u) c ≡ suc u = omega arith in
        let was : min u c ≡ u = omega arith in
        let e' : total (λ i. bit (ltb i c) * f i) u ≡ total f u = rw was at e in
        rw (now, lt-ltb u c h) (omega arith)
    by (no h) e =
        let now : min (suc u) c ≡ c = omega arith in
        let was : min u c ≡ c = omega arith in
        let e' : total (λ i. bit (ltb i c) * f i) u ≡ total f c = rw was at e in
        rw (now, le-ltb u c (omega arith)) (omega arith)

-- one summand picked out
pub total-pick : (f : ℕ → ℕ) (a n : ℕ) → total (λ i. bit (eqb i a) * f i) n ≡ bit (ltb a n) * f a
unfolding total bit
total-pick f a zero = rw (le-ltb a 0 (omega arith)) (omega arith)
total-pick f a (suc n) = by (ℕ_discrete n a) (total-pick f a n)
  where
    by : Dec (n ≡ a) → total (λ i. bit (eqb i a) * f i) n ≡ bit (ltb a n) * f a → total (λ i. bit (eqb i a) * f i) n + bit (eqb n a) * f n ≡ bit (ltb a (suc n)) * f a
    by (yes e) h =
        let before : total (λ i. bit (eqb i a) * f i) n ≡ 0 * f a = rw (le-ltb a n (omega arith)) at h in
        rw (eq-eqb n a e, lt-ltb a (suc n) (omega arith)) (omega (arith, ap f e))
    by (no d) h = rw (ne_eqb n a d) (side (dec_le (suc a) n))
      where
        side : Dec (a < n) → total (λ i. bit (eqb i a) * f i) n + 0 * f n ≡ bit (ltb a (suc n)) * f a
        side (yes k) = let h' = rw (lt-ltb a n k) at h in rw (lt-ltb a (suc n) (omega arith)) (omega arith)
        side (no k) = let h' = rw (le-ltb a n (omega arith)) at h in rw (le-ltb a (suc n) (omega (arith, d))) (omega arith)
