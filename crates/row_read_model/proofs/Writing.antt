-- Conditions of number 2, column by column: `cs` are the columns. Assumes nothing.
use Rattle.std.specs.Prelude.{Some, None, Ok, Err}
use mathlib.Core.Path.{◌≡◌, refl}
use mathlib.Core.List.{List, [], ◌∷◌}
use Prim.Native.Nat.{ℕ, suc, ◌<◌}
use lib.ListN.{length, drop}
use lib.Seq.{drop-cons, drop-length}
use Rattle.decimal_model.specs.Number.{number_in}
use Rattle.decimal_model.proofs.Spelling.{number_read, number-none}
use Rattle.refusals.specs.declared.Refusal.TheVariants.{Unreadable, TextAfter}
use Rattle.refusals.specs.Conditions.{first_broken, verdict}
use Rattle.settings_model.specs.Columns.{Column, column}
use Rattle.row_read_model.specs.Rows.{columns_read}

module _ (cs : List Column) where
  module _ (k : ℕ) (h : k < length cs) where
    -- a value is missing
    pub written-missing : verdict (columns_read (suc k) (drop k cs) []) ≡ Err (Unreadable (suc k))
    unfolding columns_read first_broken
    written-missing = rw (drop-cons cs k (column "" 0 0) h)

    -- a value that cannot be read
    pub written_none : (f : List ℕ) (fs : List (List ℕ)) → number_in f ≡ None → verdict (columns_read (suc k) (drop k cs) (f ∷ fs)) ≡ Err (Unreadable (suc k))
    unfolding columns_read first_broken
    written_none f fs e = rw (drop-cons cs k (column "" 0 0) h, number-none f e)

    -- a value that can
    pub written-value : (f : List ℕ) (fs : List (List ℕ)) (v : ℕ) → number_in f ≡ Some v
        → verdict (columns_read (suc k) (drop k cs) (f ∷ fs)) ≡ verdict (columns_read (suc (suc k)) (drop (suc k) cs) fs)
    unfolding columns_read first_broken
    written-value f fs v e = rw (drop-cons cs k (column "" 0 0) h, (number_read f v e).0)

  -- text after the last value, and none
  pub written_after : (k : ℕ) (f : List ℕ) (fs : List (List ℕ)) → verdict (columns_read k (drop (length cs) cs) (f ∷ fs)) ≡ Err (TextAfter k)
  unfolding columns_read first_broken
  written_after k f fs = rw (drop-length cs) refl

  pub written_all : (k : ℕ) → verdict (columns_read k (drop (length cs) cs) []) ≡ Ok tt
  unfolding columns_read first_broken
  written_all k = rw (drop-length cs) refl
