-- The first broken condition of lists that follow one another, and the verdict on a list. Assumes nothing.
use Rattle.std.specs.Prelude.{Result, Ok, Err, ⊤}
use mathlib.Core.Path.{◌≡◌, refl, ap, sym, ◌∙◌}
use mathlib.Core.Bool.{Bool, true, false, cond}
use mathlib.Core.List.{List, [], ◌∷◌, ◌++◌}
use Rattle.refusals.specs.declared.Refusal.{Refusal}
use Rattle.refusals.specs.Conditions.{Condition, condition, first_broken, verdict}

-- where no condition of the first list is broken, the second list answers
pub first-append : {R A : Type 0} (f : R → A) (a : A) (xs ys : List (Condition R))
    → first_broken f a (xs ++ ys) ≡ first_broken f (first_broken f a ys) xs
unfolding first_broken
first-append f a [] ys = refl
first-append f a (x ∷ xs) ys = ap (cond x.broken (f x.refusal)) (first-append f a xs ys)

module _ (r : Refusal) (b : Bool) (cs : List (Condition Refusal)) where
  -- a condition that is kept is passed over, and one that is broken answers
  pub passed_over : b ≡ false → verdict (condition b r ∷ cs) ≡ verdict cs
  unfolding first_broken
  passed_over e = rw e

  pub broken-answers : b ≡ true → verdict (condition b r ∷ cs) ≡ Err r
  unfolding first_broken
  broken-answers e = rw e

-- and where none is left, all are kept
pub none_left : verdict [] ≡ Ok tt
unfolding first_broken
none_left = refl

-- the first of two verdicts where it is a refusal, as `?` hands it out, and else the second
abbrev pub either_verdict : Result ⊤ Refusal → Result ⊤ Refusal → Result ⊤ Refusal
either_verdict (Ok t) v = v
either_verdict (Err r) v = Err r

-- which is the verdict on two lists that follow one another: `using` this one lemma, a function that asks for one part after another by
-- `?` has no proof of its own to be written
pub two_verdicts : (xs ys : List (Condition Refusal)) → verdict (xs ++ ys) ≡ either_verdict (verdict xs) (verdict ys)
unfolding first_broken
two_verdicts [] ys = refl
two_verdicts (x ∷ xs) ys = by x.broken (two_verdicts xs ys) where
  by : (b : Bool) → verdict (xs ++ ys) ≡ either_verdict (verdict xs) (verdict ys)
      → cond b (Err x.refusal) (verdict (xs ++ ys)) ≡ either_verdict (cond b (Err x.refusal) (verdict xs)) (verdict ys)
  by true e = refl
  by false e = e

-- a refusal is not the answer that all is kept
pub broken-kept : {A : Type 0} (r : Refusal) → (λ (v : Result ⊤ Refusal). v ≡ Ok tt) (Err r) → A
broken-kept r e = cc

-- the answer that a verdict makes
unfoldable by_verdict : {A : Type 0} → (Refusal → A) → A → Result ⊤ Refusal → A
by_verdict f a (Ok tt) = a
by_verdict f a (Err r) = f r

first-verdict : {A : Type 0} (f : Refusal → A) (a : A) (xs : List (Condition Refusal))
    → first_broken f a xs ≡ by_verdict f a (verdict xs)
unfolding first_broken by_verdict
first-verdict f a [] = refl
first-verdict f a (x ∷ xs) = by x.broken (first-verdict f a xs) where
  by : (b : Bool) → first_broken f a xs ≡ by_verdict f a (verdict xs)
      → cond b (f x.refusal) (first_broken f a xs) ≡ by_verdict f a (cond b (Err x.refusal) (verdict xs))
  by true e = refl
  by false e = e

module _ {A : Type 0} (f : Refusal → A) (a : A) (xs : List (Condition Refusal)) where
  -- the answer where a refusal is the verdict, and where all is kept
  pub answer-broken : (r : Refusal) → verdict xs ≡ Err r → first_broken f a xs ≡ f r
  unfolding by_verdict
  answer-broken r e = first-verdict f a xs ∙ ap (by_verdict f a) e

  pub answer-kept : verdict xs ≡ Ok tt → first_broken f a xs ≡ a
  unfolding by_verdict
  answer-kept e = first-verdict f a xs ∙ ap (by_verdict f a) e

module _ {A : Type 0} (f : Refusal → A) (a : A) (xs ys : List (Condition Refusal)) where
  -- the answer of two lists where the first has a refusal, and where it is kept
  pub first-part-answers : (r : Refusal) → verdict xs ≡ Err r → f r ≡ first_broken f a (xs ++ ys)
  first-part-answers r e = sym (first-append f a xs ys ∙ answer-broken f (first_broken f a ys) xs r e)

  pub second-part-answers : verdict xs ≡ Ok tt → first_broken f a ys ≡ first_broken f a (xs ++ ys)
  second-part-answers e = sym (first-append f a xs ys ∙ answer-kept f (first_broken f a ys) xs e)
