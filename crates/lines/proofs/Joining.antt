-- A line can be put together again from its values. Assumes nothing.
use mathlib.Core.Path.{◌≡◌, refl, ap, ◌∙◌}
use mathlib.Core.Bool.{Bool, true, false}
use mathlib.Core.List.{List, [], ◌∷◌, cons≢nil}
use Prim.Native.Nat.{ℕ}
use lib.Dec.{eqb}
use borrow.Author.Tests.{eqb-true}
use Rattle.lines.specs.Text.{before, pieces, fields, joined}
use Rattle.lines.specs.Laws.{LineOfValues}

-- one byte in front of some pieces
join-before : (b : ℕ) (p : List ℕ) (ps : List (List ℕ)) → joined (before (eqb b 32) b (p ∷ ps)) ≡ b ∷ joined (p ∷ ps)
unfolding before joined
join-before b p ps = by (eqb b 32) refl ps where
  by : (c : Bool) → eqb b 32 ≡ c → (qs : List (List ℕ)) → joined (before c b (p ∷ qs)) ≡ b ∷ joined (p ∷ qs)
  by true e qs = let z = eqb-true b 32 e in rw z
  by false e [] = refl
  by false e (q ∷ qs) = refl

-- there is always a first value
pub fields-some : (s : List ℕ) → fields s ≡ [] → ⊥
unfolding fields pieces before
fields-some [] e = cons≢nil e
fields-some (b ∷ bs) e = by (eqb b 32) (pieces 32 ([] ∷ []) bs) e where
  by : (c : Bool) (ps : List (List ℕ)) → before c b ps ≡ [] → ⊥
  by true ps q = cons≢nil q
  by false [] q = cons≢nil q
  by false (p ∷ ps) q = cons≢nil q

pub joined-fields : LineOfValues
unfolding fields pieces joined
joined-fields [] = refl
joined-fields (b ∷ bs) = by (fields bs) refl (joined-fields bs) where
  by : (ps : List (List ℕ)) → fields bs ≡ ps → joined ps ≡ bs → joined (before (eqb b 32) b ps) ≡ b ∷ bs
  by [] e q = absurd (fields-some bs e)
  by (p ∷ ps) e q = join-before b p ps ∙ ap (λ (r : List ℕ). b ∷ r) q
