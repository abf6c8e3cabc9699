-- What stands after the first k values of a row were taken: `cs` are the columns. Assumes nothing.
use Rattle.refusals.specs.Conditions.{verdict}
use Rattle.std.specs.Prelude.{Option, Some, None, Ok, Err}
use mathlib.Core.Path.{◌≡◌, ap, sym, ◌∙◌}
use mathlib.Core.List.{List, [], ◌∷◌, ◌++◌, map, tail, append-nil}
use Prim.Native.Nat.{ℕ, suc, ◌+◌, ◌≤◌, ◌<◌}
use native.Mathlib.Omega.{arith}
use native.Mathlib.Decide.{dec_le}
use native.Mathlib.Numerals.{add-one}
use lib.ListN.{length, get_or, take, drop, set, length-set, length-take, replicate, get_or-replicate, get_or-eq_default}
use lib.Seq.{take-suc-set, append_snoc, get_or-set_other, get_or-take}
use Rattle.decimal_model.specs.Number.{spelled, number_in}
use Rattle.decimal_model.proofs.Spelling.{number_read}
use Rattle.refusals.specs.declared.Refusal.TheVariants.{Unreadable, TextAfter}
use Rattle.lines.specs.Text.{fields}
use Rattle.settings_model.specs.Columns.{Column}
use Rattle.row_read_model.specs.Rows.{columns_read, values_in, settings_of}
use Rattle.row_read_model.proofs.Writing.{written-missing, written_none, written-value, written_after, written_all}

-- settings of the same values at every column
pub same-settings : (vs ws : List ℕ) → ((i : ℕ) → get_or vs i 0 ≡ get_or ws i 0) → settings_of vs ≡ settings_of ws
unfolding settings_of
same-settings vs ws e = rw (e 0, e 1, e 2, e 3, e 4, e 5, e 6, e 7, e 8, e 9, e 10, e 11, e 12)

-- in an array of zeros
pub zeros-read : (i : ℕ) → ◌≡◌ {A = ℕ} (get_or (replicate 13 0) i 0) 0
zeros-read i = by (dec_le (suc i) 13)
  where
    by : Dec (suc i ≤ 13) → ◌≡◌ {A = ℕ} (get_or (replicate 13 0) i 0) 0
    by (yes l) = get_or-replicate 13 i 0 0 l
    by (no f) = let long : length (replicate {A = ℕ} 13 0) ≤ i = omega arith in get_or-eq_default (replicate 13 0) 0 long

-- the number that the first of some values spells, if there is one and it can be read
abbrev pub next_number : List (List ℕ) → Option ℕ
next_number [] = None
next_number (f ∷ fs) = number_in f

-- the first k values of a row are in numbers and 0 is behind them, others are left, and what is left of number 2 are the conditions of the columns
-- behind the first k
pub record Taken (cs : List Column) (row numbers : List ℕ) (others : List (List ℕ)) (k : ℕ) : Type 0 where
  pub few : k ≤ length cs
  pub size : length numbers ≡ 13
  pub left : verdict (columns_read 1 cs (fields row)) ≡ verdict (columns_read (suc k) (drop k cs) others)
  pub values : take k numbers ++ map spelled others ≡ values_in row
  pub rest : (i : ℕ) → k ≤ i → get_or numbers i 0 ≡ 0

pub taken_none : (cs : List Column) (row numbers : List ℕ) (others : List (List ℕ)) → others ≡ fields row → length numbers ≡ 13 → ((i : ℕ) → get_or numbers i 0 ≡ 0)
    → Taken cs row numbers others 0
unfolding values_in
taken_none cs row numbers others e l z = record {
  few = omega arith;
  size = l;
  left = rw e;
  values = rw e;
  rest = λ i h. z i;
}

module _ (cs : List Column) (row numbers : List ℕ) (k : ℕ) where
  -- the next value is missing or cannot be read
  pub taken-unreadable : (others : List (List ℕ)) → Taken cs row numbers others k → k < length cs → next_number others ≡ None
      → verdict (columns_read 1 cs (fields row)) ≡ Err (Unreadable (k + 1))
  taken-unreadable [] t h n = rw (t.left, add-one k) (written-missing cs k h)
  taken-unreadable (f ∷ fs) t h n = rw (t.left, add-one k) (written_none cs k h f fs n)

  -- it is read
  pub taken-value : (others : List (List ℕ)) → Taken cs row numbers others k → length cs ≤ 13 → k < length cs → (v : ℕ) → next_number others ≡ Some v
      → Taken cs row (set numbers k v) (tail others) (k + 1)
  taken-value [] t l h v n = cc
  taken-value (f ∷ fs) t l h v n = record {
    few = omega arith;
    size = length-set numbers k v ∙ t.size;
    left = rw (add-one k) (t.left ∙ written-value cs k h f fs v n);
    values =
        let w = t.values in
        let w' = rw (sym (number_read f v n).1) at w in
        rw (add-one k, take-suc-set numbers k v (omega (arith, t.size)), append_snoc (take k numbers) v (map spelled fs)) w';
    rest = λ i q. get_or-set_other numbers k i v 0 (λ z. absurd (omega (arith, z))) ∙ t.rest i (omega arith);
  }

  -- text follows the last value
  pub taken-after : (others : List (List ℕ)) → Taken cs row numbers others k → 0 < length others → k ≡ length cs
      → verdict (columns_read 1 cs (fields row)) ≡ Err (TextAfter (length cs + 1))
  taken-after [] t l z = absurd (omega (arith, l))
  taken-after (f ∷ fs) t l z =
      let w = t.left in
      let w' = rw z at w in
      rw (add-one (length cs)) (w' ∙ written_after cs _ f fs)

  -- the row ends with its last value
  module _ (others : List (List ℕ)) (t : Taken cs row numbers others k) (e : others ≡ []) (z : k ≡ length cs) where
    pub taken-all : verdict (columns_read 1 cs (fields row)) ≡ Ok tt
    taken-all =
        let w = t.left in
        let w' = rw (e, z) at w in
        w' ∙ written_all cs _

    all-values : take k numbers ≡ values_in row
    all-values =
        let v = t.values in
        let v' = rw (e, append-nil (take k numbers)) at v in
        v'

    pub taken-settings : settings_of numbers ≡ settings_of (values_in row)
    taken-settings = same-settings numbers (values_in row) (λ i. by i (dec_le (suc i) k))
      where
        by : (i : ℕ) → Dec (suc i ≤ k) → get_or numbers i 0 ≡ get_or (values_in row) i 0
        by i (yes l) = sym (get_or-take k numbers i 0 l) ∙ ap (λ (vs : List ℕ). get_or vs i 0) all-values
        by i (no f) =
            let short : length (take k numbers) ≤ i = omega (arith, length-take k numbers) in
            t.rest i (omega arith) ∙ sym (get_or-eq_default (take k numbers) 0 short) ∙ ap (λ (vs : List ℕ). get_or vs i 0) all-values
