-- Outcomes with a lent buffer: number 8 comes after the other conditions. Assumes nothing.
use mathlib.Core.Path.{◌≡◌, ◌∙◌}
use mathlib.Core.List.{List, ◌++◌}
use Prim.Native.Nat.{ℕ, ◌≤◌, ◌<◌}
use lib.ListN.{length}
use borrow.Author.Tests.{lt-ltb, le-ltb, ltb-false}
use Rattle.refusals.specs.declared.Refusal.{Refusal}
use Rattle.refusals.specs.declared.Refusal.TheVariants.{LentTooShort}
use Rattle.refusals.specs.Conditions.{Condition, first_broken, Unbroken}
use Rattle.refusals.specs.Outcome.{Planned, Refused}
use Rattle.refusals.proofs.Answering.{first-append}
use Rattle.refusals.proofs.Unbroken.{unbroken-first, unbroken-left, unbroken-right}
use Rattle.refusals.proofs.Outcomes.{planned-unbroken, refused-stays}
use Rattle.calls_model.specs.Calls.{room, outcome_within}

module _ {P : Type 0} (text : P → List ℕ) (own : P) (cs : List (Condition Refusal)) where
  before-room : (before : List ℕ) → outcome_within text own cs before ≡ first_broken Refused (first_broken Refused (Planned own) (room before (text own))) cs
  unfolding outcome_within
  before-room before = first-append Refused _ cs _

  pub roomed-refused : (before : List ℕ) (r : Refusal) → first_broken Refused (Planned own) cs ≡ Refused r → outcome_within text own cs before ≡ Refused r
  roomed-refused before r e = before-room before ∙ refused-stays own _ r cs e

  module _ (p : P) (e : first_broken Refused (Planned own) cs ≡ Planned p) where
    -- no other condition is broken, and the plan is the one that was to be had
    room-decides : (before : List ℕ) → outcome_within text own cs before ≡ first_broken Refused (Planned p) (room before (text p))
    room-decides before = let u = planned-unbroken own p cs e in before-room before ∙ unbroken-first Refused _ cs u.0 ∙ rw u.1

    pub roomed-planned : (before : List ℕ) → length (text p) ≤ length before → outcome_within text own cs before ≡ Planned p
    unfolding first_broken room
    roomed-planned before h = room-decides before ∙ rw (le-ltb (length before) (length (text p)) h)

    pub roomed-short : (before : List ℕ) → length before < length (text p) → outcome_within text own cs before ≡ Refused LentTooShort
    unfolding first_broken room
    roomed-short before h = room-decides before ∙ rw (lt-ltb (length before) (length (text p)) h)

  -- planned: no condition is broken, the plan is the one that was to be had, and its text fits the buffer
  module _ (before : List ℕ) (p : P) (e : outcome_within text own cs before ≡ Planned p) where
    all-unbroken : Unbroken (cs ++ room before (text own)) × (own ≡ p)
    unfolding outcome_within
    all-unbroken = planned-unbroken own p (cs ++ room before (text own)) e

    pub roomed-unbroken : Unbroken cs
    roomed-unbroken = unbroken-left cs (room before (text own)) all-unbroken.0

    pub roomed-own : own ≡ p
    roomed-own = all-unbroken.1

    pub roomed-fits : length (text p) ≤ length before
    unfolding room
    roomed-fits =
        let f = (unbroken-right cs (room before (text own)) all-unbroken.0).0 in
        rw all-unbroken.1 at (ltb-false (length before) (length (text own)) f)
