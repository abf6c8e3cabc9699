-- Two texts of the same number are the same text, if each is proper: at least one digit, digits alone, and no leading zero except 0
-- itself. Assumes nothing.
use mathlib.Core.Path.{◌≡◌, refl}
use mathlib.Core.Bool.{true, false, not, ◌&&◌, and-eq-true_iff}
use mathlib.Core.List.{List, [], ◌∷◌}
use Prim.Native.Nat.{ℕ, ◌+◌, ◌-◌, ◌*◌, ◌^◌, ◌≤◌, ◌<◌}
use native.Mathlib.Omega.{arith}
use native.Mathlib.Decide.{dec_le}
use native.Mathlib.Nat.{pow-suc, pow-le-pow_right, pow-zero, mul-le-mul_right}
use lib.Dec.{leb}
use lib.ListN.{length}
use borrow.Author.Tests.{eqb-false, not-true}
use Rattle.decimal_model.specs.Number.{digit, digits, zero_led, shaped, readable, spelled_after, spelled}
use Rattle.decimal_model.proofs.Spelling.{digit-range, shaped-length}

-- a text that spells a number as it is written, of any length
pub record Proper (s : List ℕ) : Type 0 where
  pub some : 1 ≤ length s
  pub only_digits : digits s ≡ true
  pub no_leading_zero : zero_led s ≡ false

pub digits-head : (b : ℕ) (bs : List ℕ) → digits (b ∷ bs) ≡ true → (48 ≤ b) × (b ≤ 57) × (digits bs ≡ true)
unfolding digits
digits-head b bs e =
    let h = (and-eq-true_iff (digit b) (digits bs)).0 e in
    let r = digit-range b h.0 in (r.0, r.1, h.1)

-- digits after v spell at least v with as many zeros behind it, and less than v + 1 with as many
pub spelled-bounds : (v : ℕ) (s : List ℕ) → digits s ≡ true
    → (v * 10 ^ length s ≤ spelled_after v s) × (spelled_after v s < (v + 1) * 10 ^ length s)
unfolding spelled_after
spelled-bounds v [] e = rw pow-zero (omega arith)
spelled-bounds v (b ∷ bs) e =
    let h = digits-head b bs e in
    let g = spelled-bounds (10 * v + (b - 48)) bs h.2 in
    rw pow-suc (omega (
      arith,
      g,
      h,
      mul-le-mul_right (10 ^ length bs) (let z : 10 * v ≤ 10 * v + (b - 48) = omega arith in z),
      mul-le-mul_right (10 ^ length bs) (let z : 10 * v + (b - 48) + 1 ≤ 10 * v + 10 = omega (arith, h) in z),
    ))

-- a last digit and what stands before it are known from the number
last-digit : (v w b c : ℕ) → 48 ≤ b → b ≤ 57 → 48 ≤ c → c ≤ 57 → 10 * v + (b - 48) ≡ 10 * w + (c - 48) → (v ≡ w) × (b ≡ c)
last-digit v w b c low high low' high' e = (omega arith, omega arith)

-- texts of the same length: digit by digit
same_length : (v w : ℕ) (s t : List ℕ) → digits s ≡ true → digits t ≡ true → length s ≡ length t → spelled_after v s ≡ spelled_after w t
    → (v ≡ w) × (s ≡ t)
unfolding spelled_after
same_length v w [] [] d e l q = (q, refl)
same_length v w [] (c ∷ cs) d e l q = absurd (omega arith)
same_length v w (b ∷ bs) [] d e l q = absurd (omega arith)
same_length v w (b ∷ bs) (c ∷ cs) d e l q =
    let h = digits-head b bs d in
    let g = digits-head c cs e in
    let r = same_length (10 * v + (b - 48)) (10 * w + (c - 48)) bs cs h.2 g.2 (omega arith) q in
    let x = last-digit v w b c h.0 h.1 g.0 g.1 r.0 in
    let y = x.1 in
    let z = r.1 in
    (x.0, cc)

-- the longer of two proper texts spells the larger number
longer : (s t : List ℕ) → Proper s → Proper t → length s < length t → spelled s < spelled t
unfolding zero_led spelled_after
longer s [] p q l = absurd (omega arith)
longer s (c ∷ []) p q l = absurd (omega (arith, p.some))
longer s (c ∷ x ∷ xs) p q l =
    let r = digits-head c (x ∷ xs) q.only_digits in
    let n = eqb-false c 48 q.no_leading_zero in
    let d : 1 ≤ 10 * 0 + (c - 48) = omega (arith, r) in
    let k : length s ≤ length (x ∷ xs) = omega arith in
    let ten : 0 < 10 = omega arith in
    let low : (10 * 0 + (c - 48)) * 10 ^ length (x ∷ xs) ≤ spelled (c ∷ x ∷ xs) = (spelled-bounds (10 * 0 + (c - 48)) (x ∷ xs) r.2).0 in
    let high = (spelled-bounds 0 s p.only_digits).1 in
    omega (arith, low, high, mul-le-mul_right (10 ^ length (x ∷ xs)) d, pow-le-pow_right ten k)

-- two proper texts of the same number are the same
pub one-proper : (s t : List ℕ) → Proper s → Proper t → spelled s ≡ spelled t → s ≡ t
one-proper s t p q e = by (dec_le (length s) (length t)) (dec_le (length t) (length s)) where
  by : Dec (length s ≤ length t) → Dec (length t ≤ length s) → s ≡ t
  by (yes a) (yes b) = (same_length 0 0 s t p.only_digits q.only_digits (omega arith) e).1
  by (no a) c = absurd (omega (arith, longer t s q p (omega arith)))
  by (yes a) (no b) = absurd (omega (arith, longer s t p q (omega arith)))

-- a readable text is proper
readable-proper : (s : List ℕ) → readable s ≡ true → Proper s
unfolding readable shaped
readable-proper s e =
    let h = (and-eq-true_iff (shaped s) (digits s)).0 e in
    let g = (and-eq-true_iff (leb 1 (length s) && leb (length s) 4) (not (zero_led s))).0 h.0 in
    record { some = (shaped-length s h.0).0; only_digits = h.1; no_leading_zero = not-true (zero_led s) g.1 }

-- two readable texts of the same number are the same
pub one-spelling : (s t : List ℕ) → readable s ≡ true → readable t ≡ true → spelled s ≡ spelled t → s ≡ t
one-spelling s t d e q = one-proper s t (readable-proper s d) (readable-proper t e) q
