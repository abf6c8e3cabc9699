-- A number in decimal: its digits, its length, that no other text is one, and that it is read back. Assumes nothing.
use mathlib.Core.Path.{◌≡◌, refl, ap, sym, ◌∙◌}
use mathlib.Core.Bool.{true, false, ◌&&◌, and_assoc}
use mathlib.Core.List.{List, [], ◌∷◌, ◌++◌}
use Prim.Native.Nat.{ℕ, zero, suc, ◌+◌, ◌-◌, ◌*◌, ◌/◌, ◌%◌, ◌^◌, ◌≤◌, ◌<◌}
use native.Mathlib.Omega.{arith}
use native.Mathlib.Decide.{dec_le}
use native.Mathlib.Nat.{pow-suc}
use lib.Dec.{ltb}
use lib.ListN.{length, length-append, get_or}
use borrow.Author.Tests.{lt-ltb, le-ltb, le-leb, ne_eqb}
use Rattle.decimal_model.specs.Number.{digit, digits, zero_led, shaped, spelled_after, spelled}
use Rattle.decimal_model.specs.Decimal.{digits_by, decimal}
use Rattle.decimal_model.specs.Laws.{WrittenInDecimal, OneWriting, WrittenApart, ReadBack, AtMostTwenty}
use Rattle.decimal_model.proofs.Spelling.{spells}
use Rattle.decimal_model.proofs.OneSpelling.{one-proper}

digits-by-small : (f n : ℕ) → n < 10 → digits_by f (ltb n 10) n ≡ (48 + n) ∷ []
unfolding digits_by
digits-by-small zero n h = rw (lt-ltb n 10 h)
digits-by-small (suc f) n h = rw (lt-ltb n 10 h)

digits-by-step : (f n : ℕ) → 10 ≤ n → digits_by (suc f) (ltb n 10) n ≡ digits_by f (ltb (n / 10) 10) (n / 10) ++ (48 + n % 10) ∷ []
unfolding digits_by
digits-by-step f n h = rw (le-ltb n 10 h)

-- steps beyond the number change nothing
steps-enough : (f g n : ℕ) → n ≤ f → n ≤ g → digits_by f (ltb n 10) n ≡ digits_by g (ltb n 10) n
steps-enough zero g n k l = digits-by-small zero n (omega arith) ∙ sym (digits-by-small g n (omega arith))
steps-enough (suc f) zero n k l = digits-by-small (suc f) n (omega arith) ∙ sym (digits-by-small zero n (omega arith))
steps-enough (suc f) (suc g) n k l =
    elim (dec_le 10 n) [
      | yes h ↦
          digits-by-step f n h
          ∙ ap (λ (s : List ℕ). s ++ (48 + n % 10) ∷ []) (steps-enough f g (n / 10) (omega arith) (omega arith))
          ∙ sym (digits-by-step g n h)
      | no h ↦ digits-by-small (suc f) n (omega arith) ∙ sym (digits-by-small (suc g) n (omega arith))
    ]

-- a number below 10 is one digit
pub decimal-small : (n : ℕ) → n < 10 → decimal n ≡ (48 + n) ∷ []
unfolding decimal
decimal-small n h = digits-by-small n n h

-- another is that of n / 10 and its last digit
pub decimal_step : (n : ℕ) → 10 ≤ n → decimal n ≡ decimal (n / 10) ++ (48 + n % 10) ∷ []
unfolding decimal
decimal_step n h =
    steps-enough n (suc (n - 1)) n (omega arith) (omega arith)
    ∙ digits-by-step (n - 1) n h
    ∙ ap (λ (s : List ℕ). s ++ (48 + n % 10) ∷ []) (steps-enough (n - 1) (n / 10) (n / 10) (omega arith) (omega arith))

-- what holds of the numbers below 10, and of n if of n / 10, holds of all
pub by_digits : (P : ℕ → Type 0) → ((n : ℕ) → n < 10 → P n) → ((n : ℕ) → 10 ≤ n → P (n / 10) → P n) → (n : ℕ) → P n
by_digits P small step n = up_to n n (omega arith) where
  up_to : (m n : ℕ) → n ≤ m → P n
  up_to zero n l = small n (omega arith)
  up_to (suc m) n l =
      elim (dec_le 10 n) [
        | yes h ↦ step n h (up_to m (n / 10) (omega arith))
        | no h ↦ small n (omega arith)
      ]

-- its length by the same step
pub decimal-step-length : (n : ℕ) → 10 ≤ n → length (decimal n) ≡ length (decimal (n / 10)) + 1
decimal-step-length n h = ap length (decimal_step n h) ∙ length-append (decimal (n / 10)) ((48 + n % 10) ∷ [])

-- a number has a digit
pub decimal-length-pos : (n : ℕ) → 1 ≤ length (decimal n)
decimal-length-pos = by_digits (λ n. 1 ≤ length (decimal n)) small step where
  small : (n : ℕ) → n < 10 → 1 ≤ length (decimal n)
  small n h = rw (decimal-small n h) (omega arith)

  step : (n : ℕ) → 10 ≤ n → 1 ≤ length (decimal (n / 10)) → 1 ≤ length (decimal n)
  step n h e = omega (arith, decimal-step-length n h)

-- a number below 10 ^ (k + 1) has at most k + 1 digits
pub decimal-length-le : (k n : ℕ) → n < 10 ^ suc k → length (decimal n) ≤ suc k
decimal-length-le zero n l = rw (decimal-small n (omega arith)) (omega arith)
decimal-length-le (suc k) n l =
    elim (dec_le 10 n) [
      | yes h ↦
          let m : n / 10 < 10 ^ suc k = omega (arith, pow-suc 10 (suc k)) in
          omega (arith, decimal-step-length n h, decimal-length-le k (n / 10) m)
      | no h ↦ rw (decimal-small n (omega arith)) (omega arith)
    ]

-- 2 ^ 64 is below 10 ^ 20
pub at-most-twenty : AtMostTwenty
at-most-twenty n h = (decimal-length-pos n, decimal-length-le 19 n (omega arith))

digit-of : (d : ℕ) → d < 10 → digit (48 + d) ≡ true
digit-of d h = rw (le-leb 48 (48 + d) (omega arith), le-leb (48 + d) 57 (omega arith))

-- two texts are digits alone if each is
pub digits_append : (s t : List ℕ) → digits (s ++ t) ≡ (digits s && digits t)
unfolding digits
digits_append [] t = refl
digits_append (b ∷ bs) t = rw (digits_append bs t) (sym (and_assoc (digit b) (digits bs) (digits t)))

-- a number is digits alone
pub decimal-digits : (n : ℕ) → digits (decimal n) ≡ true
unfolding digits
decimal-digits = by_digits (λ n. digits (decimal n) ≡ true) small step where
  small : (n : ℕ) → n < 10 → digits (decimal n) ≡ true
  small n h = rw (decimal-small n h, digit-of n h)

  step : (n : ℕ) → 10 ≤ n → digits (decimal (n / 10)) ≡ true → digits (decimal n) ≡ true
  step n h e = rw (decimal_step n h, digits_append (decimal (n / 10)) ((48 + n % 10) ∷ []), e, digit-of (n % 10) (omega arith))

first-append : (s t : List ℕ) → 1 ≤ length s → get_or (s ++ t) 0 0 ≡ get_or s 0 0
first-append [] t h = absurd (omega arith)
first-append (b ∷ bs) t h = refl

-- a number's first digit is a zero only in 0
pub decimal-first : (n : ℕ) → get_or (decimal n) 0 0 ≡ 48 → n ≡ 0
decimal-first = by_digits (λ n. get_or (decimal n) 0 0 ≡ 48 → n ≡ 0) small step where
  small : (n : ℕ) → n < 10 → get_or (decimal n) 0 0 ≡ 48 → n ≡ 0
  small n h e = let e' = rw (decimal-small n h) at e in omega arith

  step : (n : ℕ) → 10 ≤ n → (get_or (decimal (n / 10)) 0 0 ≡ 48 → n / 10 ≡ 0) → get_or (decimal n) 0 0 ≡ 48 → n ≡ 0
  step n h z e =
      let f = first-append (decimal (n / 10)) ((48 + n % 10) ∷ []) (decimal-length-pos (n / 10)) in
      let e' = rw (decimal_step n h, f) at e in
      omega (arith, z e')

not-zero-led : (s : List ℕ) → (get_or s 0 0 ≡ 48 → ⊥) → zero_led s ≡ false
unfolding zero_led
not-zero-led [] h = refl
not-zero-led (b ∷ []) h = refl
not-zero-led (b ∷ c ∷ cs) h = ne_eqb b 48 h

-- a number has no leading zero but 0 itself
pub decimal-zero-led : (n : ℕ) → zero_led (decimal n) ≡ false
unfolding zero_led
decimal-zero-led n =
    elim (dec_le 1 n) [
      | yes h ↦ not-zero-led (decimal n) (λ e. absurd (omega (arith, decimal-first n e)))
      | no h ↦ rw (decimal-small n (omega arith))
    ]

-- a digit behind others
pub spelled-snoc : (v : ℕ) (s : List ℕ) (b : ℕ) → spelled_after v (s ++ b ∷ []) ≡ 10 * spelled_after v s + (b - 48)
unfolding spelled_after
spelled-snoc v [] b = refl
spelled-snoc v (c ∷ cs) b = spelled-snoc (10 * v + (c - 48)) cs b

-- a number's text spells it
pub decimal-spells : (n : ℕ) → spelled (decimal n) ≡ n
unfolding spelled_after
decimal-spells = by_digits (λ n. spelled (decimal n) ≡ n) small step where
  small : (n : ℕ) → n < 10 → spelled (decimal n) ≡ n
  small n h = rw (decimal-small n h) (omega arith)

  step : (n : ℕ) → 10 ≤ n → spelled (decimal (n / 10)) ≡ n / 10 → spelled (decimal n) ≡ n
  step n h e = rw (decimal_step n h, spelled-snoc 0 (decimal (n / 10)) (48 + n % 10), e) (omega arith)

pub written-in-decimal : WrittenInDecimal
written-in-decimal n = record {
  some = decimal-length-pos n;
  only_digits = decimal-digits n;
  no_leading_zero = decimal-zero-led n;
  spells = decimal-spells n;
}

-- both texts spell the same number, and such a text is the only one
pub one-writing : OneWriting
one-writing t l d z =
    let w = written-in-decimal (spelled t) in
    one-proper
    t
    (decimal (spelled t))
    (record { some = l; only_digits = d; no_leading_zero = z })
    (record { some = w.some; only_digits = w.only_digits; no_leading_zero = w.no_leading_zero })
    (sym w.spells)

pub written_apart : WrittenApart
written_apart m n e = sym (decimal-spells m) ∙ ap spelled e ∙ decimal-spells n

-- a number of up to four digits is shaped as one that is read
pub decimal-shaped : (n : ℕ) → n < 10000 → shaped (decimal n) ≡ true
unfolding shaped
decimal-shaped n h =
    rw (
      le-leb 1 (length (decimal n)) (decimal-length-pos n),
      le-leb (length (decimal n)) 4 (decimal-length-le 3 n h),
      decimal-zero-led n,
    )

pub read_back : ReadBack
read_back n h = sym (spells (decimal n) n (decimal-shaped n h) (decimal-digits n) (sym (decimal-spells n)))
