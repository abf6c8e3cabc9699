-- Facts about tests that several proofs use. Assumes nothing.
use mathlib.Core.Path.{◌≡◌, refl, sym}
use mathlib.Core.Bool.{Bool, true, false}
use Prim.Native.Nat.{ℕ, ◌+◌, ◌≤◌}
use native.Mathlib.Omega.{arith}
use lib.Dec.{eqb, lit≤}
use borrow.Author.Tests.{eqb-true, eqb-false, eq-eqb, ne_eqb}
use Rattle.network.specs.Counting.{bit}

pub eqb-sym : (a b : ℕ) → eqb a b ≡ eqb b a
eqb-sym a b = by (eqb b a) refl
  where
    by : (c : Bool) → eqb b a ≡ c → eqb a b ≡ c
    by true e = eq-eqb a b (sym (eqb-true b a e))
    by false e = ne_eqb a b (λ d. eqb-false b a e (sym d))

pub eqb-add : (a i x : ℕ) → eqb (a + x) (i + x) ≡ eqb a i
eqb-add a i x = by (eqb a i) refl
  where
    by : (b : Bool) → eqb a i ≡ b → eqb (a + x) (i + x) ≡ b
    by true e = eq-eqb (a + x) (i + x) (omega (arith, eqb-true a i e))
    by false e = ne_eqb (a + x) (i + x) (λ h. eqb-false a i e (omega arith))

pub bit_le : (b : Bool) → bit b ≤ 1
unfolding bit
bit_le true = lit≤ tt
bit_le false = lit≤ tt
