-- Words: numbers and columns' names are words, and a word ends where no byte of one follows. Assumes nothing.
use Rattle.std.specs.Prelude.{Option, Some, None}
use mathlib.Core.Path.{◌≡◌, refl, ap, sym, ◌∙◌}
use mathlib.Core.Bool.{Bool, true, false, not, cond, ◌&&◌, and-eq-true_iff, false≢true}
use mathlib.Core.List.{List, [], ◌∷◌, ◌++◌}
use Prim.Native.Nat.{ℕ, suc, ◌+◌, ◌-◌, ◌*◌, ◌^◌, ◌≤◌, ◌<◌}
use native.Mathlib.Omega.{arith}
use lib.Dec.{leb, ltb, eqb}
use Rattle.std.specs.List.{prefix_len}
use lib.Pointwise.{pointwise}
use lib.ListN.{length, get_or, drop, drop_of_length-le}
use borrow.Author.Tests.{leb-true, le-leb, lt-ltb, le-ltb, not-true}
use Rattle.decimal_model.specs.Number.{digit, digits, zero_led, spelled_after, spelled}
use Rattle.decimal_model.specs.Decimal.{decimal}
use Rattle.decimal_model.proofs.Spelling.{spelled_step}
use Rattle.decimal_model.proofs.Writing.{written-in-decimal, one-writing}
use Rattle.lines.specs.Text.{same}
use Rattle.reason_model.specs.Reading.{word_byte, word_length, numeral, place_in}

-- every byte is of a word
unfoldable pub is_word : List ℕ → Bool
is_word [] = true
is_word (b ∷ bs) = word_byte b && is_word bs

-- a text goes on with no byte of a word
unfoldable pub goes_on : List ℕ → Bool
goes_on [] = true
goes_on (b ∷ bs) = not (word_byte b)

-- a word before such a text is the text's first
pub word-length : (w t : List ℕ) → is_word w ≡ true → goes_on t ≡ true → word_length (w ++ t) ≡ length w
unfolding is_word goes_on word_length
word-length [] [] e f = refl
word-length [] (b ∷ bs) e f = rw (not-true (word_byte b) f)
word-length (b ∷ bs) t e f =
    let h = (and-eq-true_iff (word_byte b) (is_word bs)).0 e in
    rw (h.0, word-length bs t h.1 f)

-- the word's bytes are those in front that are of a word
pub word_front : (t : List ℕ) → word_length t ≡ prefix_len word_byte t
unfolding word_length
word_front [] = refl
word_front (b ∷ bs) = let e : suc (word_length bs) ≡ 1 + prefix_len word_byte bs = omega (arith, word_front bs) in rw e

digits-words : (w : List ℕ) → digits w ≡ true → is_word w ≡ true
unfolding is_word digits word_byte
digits-words [] e = refl
digits-words (b ∷ bs) e =
    let h = (and-eq-true_iff (digit b) (digits bs)).0 e in
    rw (h.0, digits-words bs h.1)

-- a number is a word
pub decimal-word : (n : ℕ) → is_word (decimal n) ≡ true
decimal-word n = digits-words (decimal n) (written-in-decimal n).only_digits

-- ---- numbers

pub numeral-decimal : (n : ℕ) → numeral (decimal n) ≡ true
unfolding numeral
numeral-decimal n =
    let w = written-in-decimal n in
    rw (le-leb 1 (length (decimal n)) w.some, w.only_digits, w.no_leading_zero)

numeral-parts : (w : List ℕ) → numeral w ≡ true → (1 ≤ length w) × (digits w ≡ true) × (zero_led w ≡ false)
unfolding numeral
numeral-parts w e =
    let h = (and-eq-true_iff (leb 1 (length w) && digits w) (not (zero_led w))).0 e in
    let g = (and-eq-true_iff (leb 1 (length w)) (digits w)).0 h.0 in
    (leb-true 1 (length w) g.0, g.1, not-true (zero_led w) h.1)

-- a word that is a number is written as that number is
pub numeral-writes : (w : List ℕ) → numeral w ≡ true → decimal (spelled w) ≡ w
numeral-writes w e = let p = numeral-parts w e in sym (one-writing w p.0 p.1 p.2)

pub place-decimal : (p : ℕ) → p < 2 ^ 32 → place_in (decimal p) ≡ Some p
unfolding place_in
place-decimal p h = rw (numeral-decimal p, (written-in-decimal p).spells, lt-ltb p (2 ^ 32) h)

-- a place that was read
pub no_place : {A : Type 0} (p : ℕ) → None ≡ Some p → A
no_place p e = absurd (false≢true (ap found e)) where
  found : Option ℕ → Bool
  found (Some q) = true
  found None = false

pub same_place : (p q : ℕ) → Some p ≡ Some q → p ≡ q
same_place p q e = cc

pub place-writes : (w : List ℕ) (p : ℕ) → place_in w ≡ Some p → decimal p ≡ w
unfolding place_in
place-writes w p e = by (numeral w) refl (ltb (spelled w) (2 ^ 32)) e where
  by : (b : Bool) → numeral w ≡ b → (c : Bool) → cond (b && c) (Some (spelled w)) None ≡ Some p → decimal p ≡ w
  by true f true q = let z = same_place (spelled w) p q in rw (sym z) (numeral-writes w f)
  by true f false q = no_place p q
  by false f true q = no_place p q
  by false f false q = no_place p q

-- what code tells of two texts by `==`
pub told_same : (s t : List ℕ) → pointwise eqb s t ≡ same s t
unfolding same
told_same [] [] = refl
told_same [] (c ∷ cs) = refl
told_same (b ∷ bs) [] = refl
told_same (b ∷ bs) (c ∷ cs) = rw (told_same bs cs)

-- ---- numbers, digit by digit

-- digits behind a number spell no smaller one
spelled_grows : (v : ℕ) (s : List ℕ) → v ≤ spelled_after v s
unfolding spelled_after
spelled_grows v [] = omega arith
spelled_grows v (b ∷ bs) = omega (arith, spelled_grows (10 * v + (b - 48)) bs)

-- a word that is a number within 32 bits, above them, and one that is none
module _ (w : List ℕ) where
  place-within : numeral w ≡ true → spelled w < 2 ^ 32 → Some (spelled w) ≡ place_in w
  unfolding place_in
  place-within n h = rw (n, lt-ltb (spelled w) (2 ^ 32) h)

  place-above : numeral w ≡ true → 2 ^ 32 ≤ spelled w → None ≡ place_in w
  unfolding place_in
  place-above n h = rw (n, le-ltb (spelled w) (2 ^ 32) h)

  pub no-numeral : numeral w ≡ false → None ≡ place_in w
  unfolding place_in
  no-numeral n = rw n

  -- the digits up to one of them gave v
  module _ (n : numeral w ≡ true) (k v : ℕ) (l : spelled_after v (drop k w) ≡ spelled w) where
    -- with that digit it is above 32 bits, and stays so
    pub place-over : k < length w → 2 ^ 32 ≤ 10 * v + (get_or w k 0 - 48) → None ≡ place_in w
    place-over h o =
        let x : ℕ = 10 * v + (get_or w k 0 - 48) in
        let e = sym (spelled_step w k v h) ∙ l in
        place-above n (omega (arith, o, e, spelled_grows x (drop (k + 1) w)))

    -- that was the last digit
    pub place-whole : length w ≤ k → v < 2 ^ 32 → Some v ≡ place_in w
    unfolding spelled_after
    place-whole h o =
        let e : v ≡ spelled w = rw (drop_of_length-le w h) at l in
        rw e (place-within n (omega (arith, e)))
