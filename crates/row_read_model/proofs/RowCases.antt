-- What a row is, by the verdict on number 2. Assumes nothing.
use Rattle.std.specs.Prelude.{Ok, Err}
use mathlib.Core.Path.{◌≡◌, refl, ap, sym, ◌∙◌}
use mathlib.Core.Bool.{Bool, true, false, not, cond}
use mathlib.Core.List.{List, [], ◌∷◌}
use Prim.Native.Nat.{ℕ, suc}
use lib.ListN.{length, length-map}
use Rattle.decimal_model.specs.Number.{readable, spelled}
use Rattle.lines.specs.Text.{fields}
use Rattle.refusals.specs.declared.Refusal.{Refusal}
use Rattle.refusals.specs.declared.Refusal.TheVariants.{Names, Unreadable, TextAfter}
use Rattle.refusals.specs.Conditions.{first_broken, verdict}
use Rattle.refusals.proofs.Answering.{broken-kept, answer-broken, answer-kept}
use Rattle.settings_model.specs.Columns.{Column}
use Rattle.row_read_model.specs.declared.Heading.{Heading}
use Rattle.row_read_model.specs.Names.{is_other, columns_under}
use Rattle.row_read_model.specs.Rows.{headed, columns_read, values_in, settings_of, conditions, row_under}

-- where number 2 is kept, there are as many values as columns
pub written-length : (k : ℕ) (cs : List Column) (fs : List (List ℕ)) → verdict (columns_read k cs fs) ≡ Ok tt → length fs ≡ length cs
unfolding columns_read first_broken
written-length k [] [] e = refl
written-length k [] (f ∷ fs) e = broken-kept (TextAfter k) e
written-length k (c ∷ cs) [] e = broken-kept (Unreadable k) e
written-length k (c ∷ cs) (f ∷ fs) e = by (readable f) e (written-length (suc k) cs fs) where
  by : (b : Bool) → cond (not b) (Err (Unreadable k)) (verdict (columns_read (suc k) cs fs)) ≡ Ok tt
      → (verdict (columns_read (suc k) cs fs) ≡ Ok tt → length fs ≡ length cs) → suc (length fs) ≡ suc (length cs)
  by true g f = ap suc (f g)
  by false g f = broken-kept (Unreadable k) g

module _ (heading : Heading) (row : List ℕ) where
  abbrev cs : List Column
  cs = columns_under heading

  pub values_length : verdict (columns_read 1 (columns_under heading) (fields row)) ≡ Ok tt → length (values_in row) ≡ length (columns_under heading)
  unfolding values_in
  values_length e = length-map (fields row) spelled ∙ written-length 1 cs (fields row) e

  -- under other names
  pub row-unnamed : is_other heading ≡ true → Err Names ≡ row_under heading row
  unfolding row_under conditions headed first_broken
  row-unnamed e = rw e

  module _ (n : is_other heading ≡ false) where
    by_names : first_broken Err (Ok (settings_of (values_in row))) (columns_read 1 cs (fields row)) ≡ row_under heading row
    unfolding row_under conditions headed first_broken
    by_names = rw n

    pub row-unwritten : (x : Refusal) → verdict (columns_read 1 (columns_under heading) (fields row)) ≡ Err x → Err x ≡ row_under heading row
    row-unwritten x e = sym (answer-broken Err _ (columns_read 1 cs (fields row)) x e) ∙ by_names

    pub row_read : verdict (columns_read 1 (columns_under heading) (fields row)) ≡ Ok tt → Ok (settings_of (values_in row)) ≡ row_under heading row
    row_read w = sym (answer-kept Err _ (columns_read 1 cs (fields row)) w) ∙ by_names
