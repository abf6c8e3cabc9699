-- Outcomes, whatever the sort of plan. Assumes nothing.
use mathlib.Core.Path.{◌≡◌, sym}
use mathlib.Core.Bool.{Bool, true, false, cond}
use mathlib.Core.List.{List, [], ◌∷◌}
use Rattle.refusals.specs.declared.Refusal.{Refusal}
use Rattle.refusals.specs.Conditions.{Condition, first_broken, Unbroken}
use Rattle.refusals.specs.Outcome.{Outcome, Planned, Refused}
use Rattle.refusals.proofs.Unbroken.{unbroken-first, first-unbroken}

module _ {P : Type 0} where
  -- a refusal is no plan
  pub no-plan : (p : P) (r : Refusal) → Refused r ≡ Planned p → ⊥
  no-plan p r e = cc

  -- and a plan is known by what it holds
  pub same-plan : (p q : P) → Planned p ≡ Planned q → p ≡ q
  same-plan p q e = cc

  -- planned: no condition is broken, and the plan is the one that was to be had
  pub planned-unbroken : (own p : P) (cs : List (Condition Refusal)) → first_broken Refused (Planned own) cs ≡ Planned p → Unbroken cs × (own ≡ p)
  planned-unbroken own p cs e = let u = first-unbroken Refused (Planned own) (Planned p) (no-plan p) cs e in (u.0, same-plan own p u.1)

  pub unbroken-planned : (own : P) (cs : List (Condition Refusal)) → Unbroken cs → first_broken Refused (Planned own) cs ≡ Planned own
  unbroken-planned own cs u = unbroken-first Refused (Planned own) cs u

  -- a refusal stays, whatever would be answered without it
  pub refused-stays : (p : P) (o : Outcome P) (r : Refusal) (cs : List (Condition Refusal)) → first_broken Refused (Planned p) cs ≡ Refused r
      → first_broken Refused o cs ≡ Refused r
  unfolding first_broken
  refused-stays p o r [] e = absurd (no-plan p r (sym e))
  refused-stays p o r (c ∷ cs) e = by c.broken e (refused-stays p o r cs)
    where
      by : (t : Bool) → cond t (Refused c.refusal) (first_broken Refused (Planned p) cs) ≡ Refused r
          → (first_broken Refused (Planned p) cs ≡ Refused r → first_broken Refused o cs ≡ Refused r)
          → cond t (Refused c.refusal) (first_broken Refused o cs) ≡ Refused r
      by true q f = q
      by false q f = f q
