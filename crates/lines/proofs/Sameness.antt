-- `same` decides whether two texts are equal. Assumes nothing.
use mathlib.Core.Path.{◌≡◌, refl, sym, ◌∙◌}
use mathlib.Core.Bool.{Bool, true, false, and-eq-true_iff, false≢true}
use mathlib.Core.List.{List, [], ◌∷◌}
use Prim.Native.Nat.{ℕ}
use lib.Dec.{eqb}
use borrow.Author.Tests.{eqb-true, eq-eqb}
use Rattle.lines.specs.Text.{same}

pub same-equal : (s t : List ℕ) → same s t ≡ true → s ≡ t
unfolding same
same-equal [] [] e = refl
same-equal [] (c ∷ cs) e = absurd (false≢true e)
same-equal (b ∷ bs) [] e = absurd (false≢true e)
same-equal (b ∷ bs) (c ∷ cs) e =
    let p = (and-eq-true_iff (eqb b c) (same bs cs)).0 e in
    let h = eqb-true b c p.0 in
    let t = same-equal bs cs p.1 in
    cc

pub same-itself : (s : List ℕ) → same s s ≡ true
unfolding same
same-itself [] = refl
same-itself (b ∷ bs) = rw (eq-eqb b b refl) (same-itself bs)

-- a test that tells equal texts from others is `same`
pub same-decided : (r : Bool) (s t : List ℕ) → (r ≡ true → s ≡ t) → (s ≡ t → r ≡ true) → r ≡ same s t
same-decided r s t f g = by r (same s t) refl f g where
  by : (r b : Bool) → same s t ≡ b → (r ≡ true → s ≡ t) → (s ≡ t → r ≡ true) → r ≡ b
  by true true e f g = refl
  by false false e f g = refl
  by true false e f g = absurd (false≢true (sym e ∙ (let q = f refl in rw q (same-itself t))))
  by false true e f g = absurd (false≢true (g (same-equal s t e)))
