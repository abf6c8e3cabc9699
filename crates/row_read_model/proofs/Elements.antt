-- A list of as many numbers as columns is the list of its elements, and of the values of its settings. Assumes nothing.
use mathlib.Core.Path.{◌≡◌, ap, sym}
use mathlib.Core.List.{List, [], ◌∷◌}
use Prim.Native.Nat.{ℕ, zero, suc, ◌+◌, ◌≤◌}
use native.Mathlib.Omega.{arith}
use lib.ListN.{length, get_or, take, drop, drop_of_length-le}
use lib.Seq.{drop-cons}
use Rattle.settings_model.specs.Columns.{twelve, every_column}
use Rattle.settings_model.specs.Checks.{values_of}
use Rattle.row_read_model.specs.declared.Heading.{Heading}
use Rattle.row_read_model.specs.declared.Heading.TheVariants.{Twelve, Thirteen, Other}
use Rattle.row_read_model.specs.Names.{columns_under}
use Rattle.row_read_model.specs.Rows.{settings_of}

-- the n elements from position k on
unfoldable elements : ℕ → ℕ → List ℕ → List ℕ
elements zero k vs = []
elements (suc n) k vs = get_or vs k 0 ∷ elements n (suc k) vs

drop-elements : (n k : ℕ) (vs : List ℕ) → length vs ≡ k + n → drop k vs ≡ elements n k vs
unfolding elements
drop-elements zero k vs l = let h : length vs ≤ k = omega arith in drop_of_length-le vs h
drop-elements (suc n) k vs l =
    rw (drop-cons vs k 0 (omega arith)) (ap (λ (r : List ℕ). get_or vs k 0 ∷ r) (drop-elements n (suc k) vs (omega arith)))

-- settings have all values of a row
pub values-of-settings : (heading : Heading) (vs : List ℕ) → length vs ≡ length (columns_under heading) → take (length (columns_under heading)) (values_of (settings_of vs)) ≡ vs
unfolding elements values_of settings_of columns_under twelve every_column
values-of-settings Twelve vs l = sym (drop-elements 12 0 vs l)
values-of-settings Thirteen vs l = sym (drop-elements 13 0 vs l)
values-of-settings Other vs l = sym (drop-elements 0 0 vs l)
