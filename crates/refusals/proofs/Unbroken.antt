-- Lists of conditions of which none is broken. Assumes nothing.
use Rattle.std.specs.Prelude.{Ok, Err}
use mathlib.Core.Path.{◌≡◌, refl}
use mathlib.Core.Bool.{Bool, true, false, cond}
use mathlib.Core.List.{List, [], ◌∷◌, ◌++◌}
use Rattle.refusals.specs.declared.Refusal.{Refusal}
use Rattle.refusals.specs.Conditions.{Condition, first_broken, Unbroken, verdict}
use Rattle.refusals.proofs.Answering.{broken-kept}

-- where none is broken, the answer is the one for that
pub unbroken-first : {R A : Type 0} (f : R → A) (a : A) (cs : List (Condition R)) → Unbroken cs → first_broken f a cs ≡ a
unfolding first_broken
unbroken-first f a [] u = refl
unbroken-first f a (c ∷ cs) u = rw u.0 (unbroken-first f a cs u.1)

-- where the answer is one that no refusal makes, none is broken, and it is the answer for that
pub first-unbroken : {R A : Type 0} (f : R → A) (a b : A) → ((r : R) → f r ≡ b → ⊥) → (cs : List (Condition R))
    → first_broken f a cs ≡ b → Unbroken cs × (a ≡ b)
unfolding first_broken
first-unbroken f a b other [] e = (tt, e)
first-unbroken f a b other (c ∷ cs) e = by c.broken refl e (first-unbroken f a b other cs) where
  by : (t : Bool) → c.broken ≡ t → cond t (f c.refusal) (first_broken f a cs) ≡ b
      → (first_broken f a cs ≡ b → Unbroken cs × (a ≡ b)) → ((c.broken ≡ false) × Unbroken cs) × (a ≡ b)
  by true q g h = absurd (other c.refusal g)
  by false q g h = let u = h g in ((q, u.0), u.1)

-- a verdict that all is kept: none is broken
pub kept-unbroken : (cs : List (Condition Refusal)) → verdict cs ≡ Ok tt → Unbroken cs
kept-unbroken cs e = (first-unbroken Err (Ok tt) (Ok tt) broken-kept cs e).0

pub unbroken-append : {R : Type 0} (xs ys : List (Condition R)) → Unbroken xs → Unbroken ys → Unbroken (xs ++ ys)
unbroken-append [] ys u v = v
unbroken-append (x ∷ xs) ys u v = (u.0, unbroken-append xs ys u.1 v)

pub unbroken-left : {R : Type 0} (xs ys : List (Condition R)) → Unbroken (xs ++ ys) → Unbroken xs
unbroken-left [] ys u = tt
unbroken-left (x ∷ xs) ys u = (u.0, unbroken-left xs ys u.1)

pub unbroken-right : {R : Type 0} (xs ys : List (Condition R)) → Unbroken (xs ++ ys) → Unbroken ys
unbroken-right [] ys u = u
unbroken-right (x ∷ xs) ys u = unbroken-right xs ys u.1
