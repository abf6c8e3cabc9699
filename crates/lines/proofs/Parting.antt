-- Texts put together from values or lines are parted into them again. Assumes nothing.
use mathlib.Core.Path.{◌≡◌, refl, ap, ◌∙◌}
use mathlib.Core.Bool.{Bool, true, false, not, and-eq-true_iff}
use mathlib.Core.List.{List, [], ◌∷◌, ◌++◌}
use Prim.Native.Nat.{ℕ, ◌≤◌, ◌<◌}
use native.Mathlib.Omega.{arith}
use lib.Dec.{eqb}
use lib.ListN.{length}
use borrow.Author.Tests.{eq-eqb, ne_eqb, not-true}
use Rattle.lines.specs.Text.{before, pieces, fields, joined, lines, ended}
use Rattle.lines.specs.Laws.{lacks, all_lack, ValuesOfLine, OneValueMore, LinesOfText}

-- the first byte is no cut, and there is none among the others
pub lacks-head : (c b : ℕ) (bs : List ℕ) → lacks c (b ∷ bs) ≡ true → (eqb b c ≡ false) × (lacks c bs ≡ true)
unfolding lacks
lacks-head c b bs e = let h = (and-eq-true_iff (not (eqb b c)) (lacks c bs)).0 e in (not-true (eqb b c) h.0, h.1)

-- the first text has no cut, and none of the others has
pub all-lack-head : (c : ℕ) (t : List ℕ) (ts : List (List ℕ)) → all_lack c (t ∷ ts) ≡ true → (lacks c t ≡ true) × (all_lack c ts ≡ true)
unfolding all_lack
all-lack-head c t ts e = (and-eq-true_iff (lacks c t) (all_lack c ts)).0 e

-- a larger byte in front
pub lacks-above : (c b : ℕ) (bs : List ℕ) → c < b → lacks c bs ≡ true → lacks c (b ∷ bs) ≡ true
unfolding lacks
lacks-above c b bs h e = rw (ne_eqb b c (λ q. absurd (omega (arith, q))), e)

pub lacks_both : (c : ℕ) (s t : List ℕ) → lacks c s ≡ true → lacks c t ≡ true → lacks c (s ++ t) ≡ true
unfolding lacks
lacks_both c [] t d e = e
lacks_both c (b ∷ bs) t d e = let h = lacks-head c b bs d in rw (h.0, lacks_both c bs t h.1 e)

-- a byte below the space that no value has is not in their line
pub joined-lacks : (c : ℕ) (fs : List (List ℕ)) → c < 32 → all_lack c fs ≡ true → lacks c (joined fs) ≡ true
unfolding joined lacks
joined-lacks c [] h e = refl
joined-lacks c (f ∷ []) h e = (all-lack-head c f [] e).0
joined-lacks c (f ∷ g ∷ gs) h e =
    let r = all-lack-head c f (g ∷ gs) e in
    lacks_both c f (32 ∷ joined (g ∷ gs)) r.0 (lacks-above c 32 (joined (g ∷ gs)) h (joined-lacks c (g ∷ gs) h r.1))

-- a piece up to the first cut
pub cut-behind : (c : ℕ) (rest : List (List ℕ)) (p t : List ℕ) → lacks c p ≡ true → pieces c rest (p ++ c ∷ t) ≡ p ∷ pieces c rest t
unfolding pieces before
cut-behind c rest [] t e = rw (eq-eqb c c refl)
cut-behind c rest (b ∷ bs) t e = let h = lacks-head c b bs e in rw (h.0, cut-behind c rest bs t h.1)

-- a last piece, behind which no cut stands
pub cut-nowhere : (c : ℕ) (p : List ℕ) → lacks c p ≡ true → pieces c ([] ∷ []) p ≡ p ∷ []
unfolding pieces before
cut-nowhere c [] e = refl
cut-nowhere c (b ∷ bs) e = let h = lacks-head c b bs e in rw (h.0, cut-nowhere c bs h.1)

-- the values of a line that is made of them: each but the last has a space behind it
pub values-of-line : ValuesOfLine
unfolding fields joined
values-of-line f [] e = cut-nowhere 32 f (all-lack-head _ f [] e).0
values-of-line f (g ∷ gs) e =
    let h = all-lack-head _ f (g ∷ gs) e in
    cut-behind 32 ([] ∷ []) f (joined (g ∷ gs)) h.0 ∙ ap (λ (ts : List (List ℕ)). f ∷ ts) (values-of-line g gs h.1)

-- a byte in front of pieces, at least one of which there is, is in front of the first
before_more : (b : Bool) (c : ℕ) (ps qs : List (List ℕ)) → 1 ≤ length ps → before b c (ps ++ qs) ≡ before b c ps ++ qs
unfolding before
before_more true c ps qs h = refl
before_more false c [] qs h = absurd (omega arith)
before_more false c (p ∷ ps) qs h = refl

before-some : (b : Bool) (c : ℕ) (ps : List (List ℕ)) → 1 ≤ length (before b c ps)
unfolding before
before-some true c ps = omega arith
before-some false c [] = omega arith
before-some false c (p ∷ ps) = omega arith

-- a line has a value
fields-some : (line : List ℕ) → 1 ≤ length (fields line)
unfolding fields pieces
fields-some [] = omega arith
fields-some (b ∷ bs) = before-some (eqb b 32) b (fields bs)

pub one-value-more : OneValueMore
unfolding fields pieces before
one-value-more [] f e = rw (cut-nowhere 32 f e)
one-value-more (b ∷ bs) f e =
    let t : fields (bs ++ 32 ∷ f) ≡ fields bs ++ f ∷ [] = one-value-more bs f e in
    rw t (before_more (eqb b 32) b (fields bs) (f ∷ []) (fields-some bs))

-- the lines of a text that is made of them: each has an LF behind it
pub lines-of-text : LinesOfText
unfolding lines pieces ended
lines-of-text [] e = refl
lines-of-text (l ∷ ls) e =
    let h = all-lack-head _ l ls e in
    cut-behind 10 [] l (ended ls) h.0 ∙ ap (λ (ts : List (List ℕ)). l ∷ ts) (lines-of-text ls h.1)
