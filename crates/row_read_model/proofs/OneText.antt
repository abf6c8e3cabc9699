-- Readable values of the same numbers are the same texts. Assumes nothing.
use mathlib.Core.Path.{◌≡◌, refl, ap, sym}
use mathlib.Core.Bool.{false≢true}
use mathlib.Core.List.{List, [], ◌∷◌, map, tail}
use Prim.Native.Nat.{ℕ, suc}
use lib.ListN.{get_or}
use borrow.Author.Tests.{not-false}
use Rattle.decimal_model.specs.Number.{readable, spelled}
use Rattle.decimal_model.proofs.OneSpelling.{one-spelling}
use Rattle.settings_model.specs.Columns.{Column}
use Rattle.refusals.specs.Conditions.{Unbroken}
use Rattle.row_read_model.specs.Rows.{columns_read}

-- readable values of the same numbers are the same
pub same-values : (k : ℕ) (cs : List Column) (fs gs : List (List ℕ)) → Unbroken (columns_read k cs fs) → Unbroken (columns_read k cs gs)
    → map spelled fs ≡ map spelled gs → fs ≡ gs
unfolding columns_read
same-values k [] [] [] u w e = refl
same-values k [] [] (g ∷ gs) u w e = absurd (false≢true (sym w.0))
same-values k [] (f ∷ fs) gs u w e = absurd (false≢true (sym u.0))
same-values k (c ∷ cs) [] gs u w e = absurd (false≢true (sym u.0))
same-values k (c ∷ cs) (f ∷ fs) [] u w e = absurd (false≢true (sym w.0))
same-values k (c ∷ cs) (f ∷ fs) (g ∷ gs) u w e =
    let h = one-spelling f g (not-false (readable f) u.0) (not-false (readable g) w.0) (ap (λ (l : List ℕ). get_or l 0 0) e) in
    let t = same-values (suc k) cs fs gs u.1 w.1 (ap tail e) in
    cc
