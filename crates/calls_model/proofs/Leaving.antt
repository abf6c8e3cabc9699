-- What a call leaves, by the plan that it was answered. Assumes nothing.
use Rattle.std.specs.Prelude.{Result, IfOk}
use mathlib.Core.Path.{◌≡◌, refl, ap, subst, ◌∙◌}
use mathlib.Core.List.{List, ◌++◌}
use Prim.Native.Nat.{ℕ, ◌≤◌, ◌<◌}
use native.Mathlib.Omega.{arith}
use lib.ListN.{length, drop}
use lib.Seq.{sets}
use Rattle.buffer.proofs.Putting.{sets-front}
use Rattle.refusals.specs.declared.Refusal.{Refusal}
use Rattle.refusals.specs.declared.Refusal.TheVariants.{LentTooShort}
use Rattle.refusals.specs.Conditions.{Condition, first_broken}
use Rattle.refusals.specs.Outcome.{Outcome, Planned, Refused}
use Rattle.plan_model.specs.Plans.{answer, written}
use Rattle.calls_model.specs.declared.Answer.{Answer}
use Rattle.calls_model.specs.Calls.{answer_to_refusal, answer_to, buffer_after, left, leaves}
use Rattle.calls_model.specs.Inner.{answer_of}
use Rattle.calls_model.proofs.Rooms.{roomed-refused, roomed-planned, roomed-short}

module _ {P : Type 0} (text : P → List ℕ) where
  -- the answer to an outcome's plan is what is told of it
  told_of : (o : Outcome P) → answer_of (answer text o) ≡ answer_to text o
  unfolding answer_of answer answer_to
  told_of (Planned p) = refl
  told_of (Refused r) = refl

  -- and as long as what is put
  told-length : (o : Outcome P) → (answer_to text o).length ≡ length (written text o)
  unfolding answer_to_refusal answer_to written
  told-length (Planned p) = refl
  told-length (Refused r) = refl

  -- what is put is within what bounds the length that is answered
  put-within : (o : Outcome P) (most : ℕ) → IfOk (answer text o) (λ n. n ≤ most) → length (written text o) ≤ most
  unfolding answer written
  put-within (Planned p) most h = h
  put-within (Refused r) most h = omega arith

  module _ (o : Outcome P) (plan : Result ℕ Refusal) (e : plan ≡ answer text o) where
    -- what the plan answers
    pub plan-told : (a : Answer) → a ≡ answer_of plan → a ≡ answer_to text o
    plan-told a q = q ∙ ap answer_of e ∙ told_of o

    -- what is put is within what bounds its length; a refusal puts nothing
    plan-within : (most : ℕ) → IfOk plan (λ n. n ≤ most) → length (written text o) ≤ most
    plan-within most h = put-within o most (subst (λ (r : Result ℕ Refusal). IfOk r (λ n. n ≤ most)) e h)

    pub told-short : (most : ℕ) (a : Answer) → a ≡ answer_of plan → IfOk plan (λ n. n ≤ most) → a.length ≤ most
    told-short most a q h = omega (arith, ap (λ (x : Answer). x.length) (plan-told a q), told-length o, plan-within most h)

  -- a call that writes
  module _ (own : P) (cs : List (Condition Refusal)) (plan : Result ℕ Refusal) (e : plan ≡ answer text (first_broken Refused (Planned own) cs)) (before : List ℕ) where
    abbrev all : Outcome P
    all = first_broken Refused (Planned own) cs

    -- what is put stands in front of what was there
    left_is : (o : Outcome P) → all ≡ o → length (written text o) ≤ length before → (a : Answer) (after : List ℕ) → a ≡ answer_to text o
        → after ≡ written text o ++ drop (length (written text o)) before → left a after ≡ leaves text own cs before
    unfolding leaves buffer_after written
    left_is (Planned p) q h a after ea ew = rw (roomed-planned text own cs p q before h, ea, ew) refl
    left_is (Refused r) q h a after ea ew = rw (roomed-refused text own cs before r q, ea, ew) refl

    -- a buffer that is long enough
    pub plan-left : (a : Answer) (after : List ℕ) → length (written text all) ≤ length before → a ≡ answer_of plan → after ≡ sets before 0 (written text all)
        → left a after ≡ leaves text own cs before
    plan-left a after h q w = left_is all refl h a after (plan-told all plan e a q) (w ∙ sets-front before (written text all) h)

    -- one that is too short
    short-is : (o : Outcome P) → all ≡ o → length before < length (written text o) → (a : Answer) → a ≡ answer_to_refusal LentTooShort
        → left a before ≡ leaves text own cs before
    unfolding leaves answer_to buffer_after written
    short-is (Planned p) q h a ea = rw (roomed-short text own cs p q before h, ea) refl
    short-is (Refused r) q h a ea = absurd (omega arith)

    pub plan-short : (a : Answer) → length before < length (written text all) → a ≡ answer_to_refusal LentTooShort → left a before ≡ leaves text own cs before
    plan-short a h q = short-is all refl h a q
