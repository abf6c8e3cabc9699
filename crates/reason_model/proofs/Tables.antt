-- The phrases and the columns' names, had again from tables in which they stand one after another. Assumes nothing.
use mathlib.Core.Path.{◌≡◌, sym, ap, ◌∙◌}
use mathlib.Core.Bool.{true, false, and-false}
use mathlib.Core.List.{List, [], map}
use Prim.Native.Nat.{ℕ, suc, ◌-◌, ◌≤◌, ◌<◌}
use native.Mathlib.Omega.{arith}
use lib.ListN.{length, get_or, get_or-map, get_or-eq_default}
use denote.Bor.{Bor}
use borrow.Author.Tests.{le-leb, lt-leb}
use Rattle.decimal_model.specs.Ascii.{ascii}
use Rattle.decimal_model.specs.Decimal.{decimal}
use Rattle.refusals.specs.Table.{Always, Sort, sort, table, sort_at}
use Rattle.settings_model.specs.Columns.{Column, column, twelve, every_column, column_at}
use Rattle.reason_model.specs.Reasons.{named, column_name, phrase_at}
use Rattle.reason_model.specs.Inner.{phrases, names}
use Rattle.reason_model.proofs.ColumnNames.{name-at}

-- a text of a table of references to texts
pub text-listed : (xs : List (Bor (List ℕ))) (k : ℕ) (d : Bor (List ℕ)) → (get_or xs k d).now ≡ get_or (map (λ (r : Bor (List ℕ)). r.now) xs) k d.now
text-listed xs k d = sym (get_or-map (λ (r : Bor (List ℕ)). r.now) xs k d)

-- the phrase of a sort; a sort that the table does not have has none
pub phrase-listed : (k : ℕ) → get_or phrases k [] ≡ phrase_at k
unfolding phrases phrase_at sort_at ascii
phrase-listed k = get_or-map (λ (s : Sort). ascii s.phrase) table k (sort 0 (Always 0) "")

pub phrase-else : (k : ℕ) → length table ≤ k → phrase_at k ≡ []
unfolding phrase_at sort_at ascii
phrase-else k h = ap (λ (s : Sort). ascii s.phrase) (get_or-eq_default table (sort 0 (Always 0) "") h)

-- the name of a column that has one
pub name-listed : (k : ℕ) → 1 ≤ k → k ≤ 13 → get_or names (k - 1) [] ≡ column_name k
unfolding names column_at ascii
name-listed k low high =
    let z : suc (k - 1) ≡ k = omega arith in
    let h : k - 1 < 13 = omega arith in
    get_or-map (λ (c : Column). ascii c.name) every_column (k - 1) (column "" 0 0) ∙ sym (name-at (k - 1) h) ∙ ap column_name z

-- a column has a name if it is one of the thirteen
pub named-inside : (k : ℕ) → 1 ≤ k → k ≤ 13 → named k ≡ true
unfolding named twelve every_column
named-inside k low high = rw (le-leb 1 k low, le-leb k 13 high)

pub named-below : (k : ℕ) → k < 1 → named k ≡ false
unfolding named
named-below k h = rw (lt-leb 1 k h)

pub named-above : (k : ℕ) → 13 < k → named k ≡ false
unfolding named twelve every_column
named-above k h = rw (lt-leb k 13 h, and-false)

-- without one it is called by its number
pub name-otherwise : (k : ℕ) → named k ≡ false → column_name k ≡ decimal k
unfolding column_name
name-otherwise k e = rw e
