-- Digits and what they spell, byte by byte. Assumes nothing.
use Rattle.std.specs.Prelude.{Option, Some, None}
use mathlib.Core.Path.{◌≡◌, refl, ap, sym}
use mathlib.Core.Bool.{Bool, true, false, not, cond, ◌&&◌, and-eq-true_iff, and-false, false≢true}
use mathlib.Core.List.{List, [], ◌∷◌}
use Prim.Native.Nat.{ℕ, ◌+◌, ◌-◌, ◌*◌, ◌^◌, ◌≤◌, ◌<◌}
use native.Mathlib.Omega.{arith}
use native.Mathlib.Numerals.{add-one}
use native.Mathlib.Nat.{pow-suc, pow-le-pow_right}
use lib.Dec.{leb, eqb}
use lib.ListN.{length, get_or, drop}
use lib.Seq.{drop-cons}
use borrow.Author.Tests.{leb-true, le-leb}
use Rattle.decimal_model.specs.Number.{digit, digits, zero_led, shaped, readable, spelled_after, spelled, number_in}

-- a digit is one of the bytes 48 to 57
pub digit-range : (b : ℕ) → digit b ≡ true → (48 ≤ b) × (b ≤ 57)
digit-range b e =
    let h = (and-eq-true_iff (leb 48 b) (leb b 57)).0 e in (leb-true 48 b h.0, leb-true b 57 h.1)

pub digits_step : (s : List ℕ) (i : ℕ) → i < length s → digits (drop i s) ≡ (digit (get_or s i 0) && digits (drop (i + 1) s))
unfolding digits
digits_step s i h = rw (drop-cons s i 0 h, add-one)

pub spelled_step : (s : List ℕ) (i v : ℕ) → i < length s
    → spelled_after v (drop i s) ≡ spelled_after (10 * v + (get_or s i 0 - 48)) (drop (i + 1) s)
unfolding spelled_after
spelled_step s i v h = rw (drop-cons s i 0 h, add-one)

-- one digit more
pub ten-more : (i v d : ℕ) → v < 10 ^ i → d ≤ 9 → 10 * v + d < 10 ^ (i + 1)
ten-more i v d h g = rw (add-one, pow-suc) (omega arith)

pub ten-small : (i : ℕ) → i < 4 → 10 ^ i ≤ 1000
ten-small i h =
    let l : i ≤ 3 = omega arith in
    let z : 0 < 10 = omega arith in
    pow-le-pow_right z l

-- a byte alone is shaped as a number
pub shaped-one : (s : List ℕ) → length s ≡ 1 → true ≡ shaped s
unfolding shaped zero_led
shaped-one [] e = absurd (omega arith)
shaped-one (b ∷ []) e = refl
shaped-one (b ∷ c ∷ cs) e = absurd (omega arith)

-- among several bytes the first decides
pub shaped-several : (s : List ℕ) → 1 < length s → length s ≤ 4 → not (eqb (get_or s 0 0) 48) ≡ shaped s
unfolding shaped zero_led
shaped-several [] h g = absurd (omega arith)
shaped-several (b ∷ []) h g = absurd (omega arith)
shaped-several (b ∷ c ∷ cs) h g =
    rw (le-leb 1 (length (b ∷ c ∷ cs)) (omega arith), le-leb (length (b ∷ c ∷ cs)) 4 g)

pub shaped-length : (s : List ℕ) → shaped s ≡ true → (1 ≤ length s) × (length s ≤ 4)
unfolding shaped
shaped-length s e =
    let h = (and-eq-true_iff (leb 1 (length s) && leb (length s) 4) (not (zero_led s))).0 e in
    let g = (and-eq-true_iff (leb 1 (length s)) (leb (length s) 4)).0 h.0 in
    (leb-true 1 (length s) g.0, leb-true (length s) 4 g.1)

-- what is not shaped as a number is none
pub unshaped : (s : List ℕ) → shaped s ≡ false → number_in s ≡ None
unfolding number_in readable
unshaped s e = rw e

-- a byte that is no digit
pub undigit : (s : List ℕ) (i : ℕ) → i < length s → digit (get_or s i 0) ≡ false → digits (drop i s) ≡ digits s → number_in s ≡ None
unfolding number_in readable
undigit s i h e d =
    let f : digits s ≡ false = let q = digits_step s i h in let q' = rw e at q in cc in
    rw (f, and-false)

-- digits alone
pub spells : (s : List ℕ) (v : ℕ) → shaped s ≡ true → digits s ≡ true → v ≡ spelled s → Some v ≡ number_in s
unfolding number_in readable
spells s v e d q = rw (e, d, q)

-- bytes that give a number are readable and spell it
pub number_read : (s : List ℕ) (v : ℕ) → number_in s ≡ Some v → (readable s ≡ true) × (v ≡ spelled s)
unfolding number_in
number_read s v = by (readable s) where
  value : Option ℕ → ℕ
  value (Some n) = n
  value None = 0

  read : Option ℕ → Bool
  read (Some n) = true
  read None = false

  by : (b : Bool) → cond b (Some (spelled s)) None ≡ Some v → (b ≡ true) × (v ≡ spelled s)
  by true e = (refl, sym (ap value e))
  by false e = (ap read e, absurd (false≢true (ap read e)))

-- bytes that give none are not readable
pub number-none : (s : List ℕ) → number_in s ≡ None → readable s ≡ false
unfolding number_in
number-none s = by (readable s) where
  read : Option ℕ → Bool
  read (Some n) = true
  read None = false

  by : (b : Bool) → cond b (Some (spelled s)) None ≡ None → b ≡ false
  by true e = ap read e
  by false e = refl
