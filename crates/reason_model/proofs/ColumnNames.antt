-- A column's name is read as its number, and nothing else is. Assumes nothing.
use Rattle.std.specs.Prelude.{Option, Some, None}
use mathlib.Core.Path.{◌≡◌, refl, ap, sym, ◌∙◌}
use mathlib.Core.Bool.{Bool, true, false, not, cond, ◌&&◌, and-eq-true_iff, false≢true}
use mathlib.Core.List.{List, [], ◌∷◌}
use Prim.Native.Nat.{ℕ, zero, suc, ◌+◌, ◌-◌, ◌^◌, ◌≤◌, ◌<◌}
use native.Mathlib.Omega.{arith}
use native.Mathlib.Decide.{dec_le}
use native.Mathlib.Numerals.{add-one}
use lib.Dec.{leb, eqb}
use lib.ListN.{length, get_or, drop, drop_of_length-le}
use borrow.Author.Tests.{leb-true, le-leb, eqb-true, not-true}
use Rattle.decimal_model.specs.Ascii.{ascii}
use Rattle.decimal_model.specs.Number.{digits}
use Rattle.decimal_model.specs.Decimal.{decimal}
use Rattle.decimal_model.proofs.Writing.{written-in-decimal, at-most-twenty}
use Rattle.lines.specs.Text.{same}
use Rattle.lines.proofs.Sameness.{same-equal, same-itself}
use Rattle.settings_model.specs.Columns.{Column, column, twelve, every_column, column_at}
use Rattle.settings_model.proofs.Ranging.{table_step}
use Rattle.reason_model.specs.Reasons.{named, column_name}
use Rattle.reason_model.specs.Reading.{word_byte, place_in, column_from, unnamed, column_in}
use Rattle.reason_model.proofs.Words.{is_word, decimal-word, place-decimal, place-writes, no_place, same_place}

-- ---- a test of the named columns, one by one

-- a test holds of all numbers below n
unfoldable pub all_below : (ℕ → Bool) → ℕ → Bool
all_below f zero = true
all_below f (suc n) = all_below f n && f n

pub each_below : (f : ℕ → Bool) (n : ℕ) → all_below f n ≡ true → (k : ℕ) → k < n → f k ≡ true
unfolding all_below
each_below f zero e k h = absurd (omega arith)
each_below f (suc n) e k h =
    let g = (and-eq-true_iff (all_below f n) (f n)).0 e in
    elim (dec_le n k) [
      | yes l ↦ let z : k ≡ n = omega arith in rw z g.1
      | no l ↦ each_below f n g.0 k (omega arith)
    ]

is_at : Option ℕ → ℕ → Bool
is_at (Some p) q = eqb p q
is_at None q = false

is-at : (m : Option ℕ) (q : ℕ) → is_at m q ≡ true → m ≡ Some q
unfolding is_at
is-at (Some p) q e = ap Some (eqb-true p q e)
is-at None q e = absurd (false≢true e)

-- a column with a name is one of the thirteen
named-range : (k : ℕ) → named k ≡ true → (1 ≤ k) × (k ≤ 13)
unfolding named twelve every_column
named-range k e = let h = (and-eq-true_iff (leb 1 k) (leb k 13)).0 e in (leb-true 1 k h.0, leb-true k 13 h.1)

named-read : (k : ℕ) → named k ≡ true → column_in (column_name k) ≡ Some k
unfolding all_below is_at ascii digits same twelve every_column column_at named column_name column_from column_in
named-read k e =
    let r = named-range k e in
    let z : suc (k - 1) ≡ k = omega (arith, r.0) in
    rw z at (is-at (column_in (column_name (suc (k - 1)))) (suc (k - 1)) (each_below (λ j. is_at (column_in (column_name (suc j))) (suc j)) 13 refl (k - 1) (omega (arith, r.0, r.1))))

-- ---- a number is no name

-- these columns' names are not of digits
unfoldable lettered : List Column → Bool
lettered [] = true
lettered (c ∷ cs) = not (digits (ascii c.name)) && lettered cs

digits-apart : (w n : List ℕ) → digits w ≡ true → digits n ≡ false → same w n ≡ false
digits-apart w n d e = by (same w n) refl where
  by : (b : Bool) → same w n ≡ b → b ≡ false
  by true f = let z = same-equal w n f in absurd (false≢true (sym e ∙ ap digits (sym z) ∙ d))
  by false f = refl

numbers_apart : (other : Option ℕ) (k : ℕ) (cs : List Column) (w : List ℕ) → lettered cs ≡ true → digits w ≡ true → column_from other k cs w ≡ other
unfolding lettered column_from
numbers_apart other k [] w l d = refl
numbers_apart other k (c ∷ cs) w l d =
    let h = (and-eq-true_iff (not (digits (ascii c.name))) (lettered cs)).0 l in
    rw (digits-apart w (ascii c.name) d (not-true (digits (ascii c.name)) h.0)) (numbers_apart other (suc k) cs w h.1 d)

unnamed-read : (k : ℕ) → k < 2 ^ 32 → named k ≡ false → column_in (column_name k) ≡ Some k
unfolding column_in column_name unnamed lettered ascii digits twelve every_column
unnamed-read k h e =
    let d = (written-in-decimal k).only_digits in
    rw (e, place-decimal k h, e) (numbers_apart (Some k) 1 every_column (decimal k) refl d)

-- a column's name is read as its number
pub column-read : (k : ℕ) → k < 2 ^ 32 → column_in (column_name k) ≡ Some k
column-read k h = by (named k) refl where
  by : (b : Bool) → named k ≡ b → column_in (column_name k) ≡ Some k
  by true e = named-read k e
  by false e = unnamed-read k h e

-- and is a word
named-word : (k : ℕ) → named k ≡ true → is_word (column_name k) ≡ true
unfolding all_below ascii twelve every_column column_at named column_name is_word word_byte
named-word k e =
    let r = named-range k e in
    let z : suc (k - 1) ≡ k = omega (arith, r.0) in
    rw z at (each_below (λ j. is_word (column_name (suc j))) 13 refl (k - 1) (omega (arith, r.0, r.1)))

pub column-word : (k : ℕ) → is_word (column_name k) ≡ true
unfolding column_name
column-word k = by (named k) refl where
  by : (b : Bool) → named k ≡ b → is_word (column_name k) ≡ true
  by true e = named-word k e
  by false e = rw e (decimal-word k)

-- of at most 20 bytes
named-short : (k : ℕ) → named k ≡ true → length (column_name k) ≤ 20
unfolding all_below ascii twelve every_column column_at named column_name
named-short k e =
    let r = named-range k e in
    let z : suc (k - 1) ≡ k = omega (arith, r.0) in
    rw z at (leb-true (length (column_name (suc (k - 1)))) 20 (each_below (λ j. leb (length (column_name (suc j))) 20) 13 refl (k - 1) (omega (arith, r.0, r.1))))

pub column-short : (k : ℕ) → k < 2 ^ 64 → length (column_name k) ≤ 20
unfolding column_name
column-short k h = by (named k) refl where
  by : (b : Bool) → named k ≡ b → length (column_name k) ≤ 20
  by true e = named-short k e
  by false e = rw e (at-most-twenty k h).1

-- ---- what is read as a column is its name

-- it is the name of one of these columns, or what else it may be
pub data Whose (other : Option ℕ) (k : ℕ) (cs : List Column) (w : List ℕ) (p : ℕ) : Type 0 where
  its : (j : ℕ) → j < length cs → p ≡ k + j → ascii (get_or cs j (column "" 0 0)).name ≡ w → Whose other k cs w p
  else : other ≡ Some p → Whose other k cs w p

whose : (other : Option ℕ) (k : ℕ) (cs : List Column) (w : List ℕ) (p : ℕ) → column_from other k cs w ≡ Some p → Whose other k cs w p
unfolding column_from
whose other k [] w p e = else e
whose other k (c ∷ cs) w p e = by (same w (ascii c.name)) refl e (whose other (suc k) cs w p) where
  later : Whose other (suc k) cs w p → Whose other k (c ∷ cs) w p
  later (its j h q n) = its (suc j) (omega arith) (omega arith) n
  later (else f) = else f

  by : (b : Bool) → same w (ascii c.name) ≡ b → cond b (Some k) (column_from other (suc k) cs w) ≡ Some p
      → (column_from other (suc k) cs w ≡ Some p → Whose other (suc k) cs w p) → Whose other k (c ∷ cs) w p
  by true s f g = its zero (omega arith) (let z = same_place k p f in omega arith) (sym (same-equal w (ascii c.name) s))
  by false s f g = later (g f)

-- a number that is read for a column without a name
unnamed-writes : (w : List ℕ) (p : ℕ) → unnamed (place_in w) ≡ Some p → column_name p ≡ w
unfolding column_name unnamed
unnamed-writes w p e = by (place_in w) refl e where
  with : (q : ℕ) → place_in w ≡ Some q → (b : Bool) → named q ≡ b → cond b None (Some q) ≡ Some p → column_name p ≡ w
  with q f true n g = no_place p g
  with q f false n g =
      let z = same_place q p g in
      rw (sym z, n) (place-writes w q f)

  by : (m : Option ℕ) → place_in w ≡ m → unnamed m ≡ Some p → column_name p ≡ w
  by (Some q) f g = with q f (named q) refl g
  by None f g = no_place p g

-- a name that is one of the table's
name-writes : (w : List ℕ) (p j : ℕ) → j < length every_column → p ≡ 1 + j → ascii (get_or every_column j (column "" 0 0)).name ≡ w → column_name p ≡ w
unfolding column_name named column_at twelve every_column
name-writes w p j h q n =
    let z : p - 1 ≡ j = omega (arith, q) in
    rw (le-leb 1 p (omega (arith, q)), le-leb p 13 (omega (arith, q, h)), z) n

pub column-writes : (w : List ℕ) (p : ℕ) → column_in w ≡ Some p → column_name p ≡ w
unfolding column_in
column-writes w p e = by (whose (unnamed (place_in w)) 1 every_column w p e) where
  by : Whose (unnamed (place_in w)) 1 every_column w p → column_name p ≡ w
  by (its j h q n) = name-writes w p j h q n
  by (else f) = unnamed-writes w p f

-- ---- columns one by one, as code looks for them

not-same : (s t : List ℕ) → (s ≡ t → ⊥) → same s t ≡ false
not-same s t f = by (same s t) refl where
  by : (b : Bool) → same s t ≡ b → b ≡ false
  by true e = absurd (f (same-equal s t e))
  by false e = refl

-- the name of the column behind the first k
pub name-at : (k : ℕ) → k < 13 → column_name (suc k) ≡ ascii (column_at k).name
unfolding column_name named twelve every_column
name-at k h = let z : suc k - 1 ≡ k = omega arith in rw (le-leb 1 (suc k) (omega arith), le-leb (suc k) 13 h, z)

-- column k is that one, or one of those behind it
module _ (other : Option ℕ) (w : List ℕ) (k : ℕ) (low : 1 ≤ k) (high : k ≤ 13) where
  column-next : drop (k - 1) every_column ≡ column_at (k - 1) ∷ drop k every_column
  column-next = let z : suc (k - 1) ≡ k = omega arith in rw z at (table_step (k - 1) (omega arith))

  own-name : column_name k ≡ ascii (column_at (k - 1)).name
  own-name = let z : suc (k - 1) ≡ k = omega arith in rw z at (name-at (k - 1) (omega arith))

  pub column-found : column_name k ≡ w → column_from other k (drop (k - 1) every_column) w ≡ Some k
  unfolding column_from
  column-found e = rw (column-next, sym own-name, e, same-itself w)

  pub column-later : (column_name k ≡ w → ⊥) → column_from other k (drop (k - 1) every_column) w ≡ column_from other (k + 1) (drop (k + 1 - 1) every_column) w
  unfolding column_from
  column-later f =
      let z : k + 1 - 1 ≡ k = omega arith in
      let d : same w (column_name k) ≡ false = not-same w (column_name k) (λ q. f (sym q)) in
      rw (column-next, sym own-name, d, z, add-one)

-- none is left
pub column-none : (other : Option ℕ) (w : List ℕ) (k : ℕ) → 13 < k → column_from other k (drop (k - 1) every_column) w ≡ other
unfolding column_from twelve every_column
column-none other w k h = rw (drop_of_length-le every_column {i = k - 1} (omega arith))
