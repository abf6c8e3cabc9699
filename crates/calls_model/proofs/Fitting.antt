-- What a call that writes leaves, by a text that was put whole or not at all. Assumes nothing.
use Rattle.std.specs.Prelude.{Result, Ok, Err}
use mathlib.Core.Path.{◌≡◌, refl, sym, ap, ◌∙◌}
use mathlib.Core.Bool.{cond}
use mathlib.Core.List.{List}
use Prim.Native.Nat.{ℕ, ◌≤◌, ◌<◌}
use native.Mathlib.Omega.{arith}
use lib.Dec.{leb}
use lib.ListN.{length}
use lib.Seq.{sets}
use Rattle.refusals.specs.declared.Refusal.{Refusal}
use Rattle.refusals.specs.declared.Refusal.TheVariants.{LentTooShort}
use Rattle.refusals.specs.Conditions.{Condition, first_broken}
use Rattle.refusals.specs.Outcome.{Outcome, Planned, Refused}
use Rattle.plan_model.specs.Plans.{answer, written}
use Rattle.plan_model.proofs.Answered.{answered-length, answer-refused}
use Rattle.calls_model.specs.declared.Answer.{Answer}
use Rattle.calls_model.specs.Calls.{answer_to_refusal, left, leaves}
use Rattle.calls_model.specs.Inner.{answer_of}
use Rattle.calls_model.proofs.Leaving.{plan-left, plan-short}
use Rattle.calls_model.proofs.Telling.{within-room, no_room}

module _ {P : Type 0} (text : P → List ℕ) (own : P) (cs : List (Condition Refusal)) where
  abbrev all : Outcome P
  all = first_broken Refused (Planned own) cs

  module _ (plan : Result ℕ Refusal) (e : plan ≡ answer text all) (before after : List ℕ)
      (w : after ≡ cond (leb (length (written text all)) (length before)) (sets before 0 (written text all)) before) where
    -- the text that was answered is too long
    pub short-left : (n : ℕ) → plan ≡ Ok n → length before < n → (a : Answer) → a ≡ answer_to_refusal LentTooShort → left a after ≡ leaves text own cs before
    short-left n q h a ea =
        let l = answered-length text all n (sym e ∙ q) in
        let kept = no_room before _ after (length (written text all)) w (omega (arith, l)) in
        ap (λ (b : List ℕ). left a b) kept ∙ plan-short text own cs plan e before a (omega (arith, l)) ea

    -- it fits, or nothing was planned
    fits : (r : Result ℕ Refusal) → plan ≡ r → ((n : ℕ) → plan ≡ Ok n → n ≤ length before) → length (written text all) ≤ length before
    unfolding written
    fits (Ok n) q f = omega (arith, answered-length text all n (sym e ∙ q), f n q)
    fits (Err r) q f = rw (answer-refused text all r (sym e ∙ q)) (omega arith)

    pub whole-left : ((n : ℕ) → plan ≡ Ok n → n ≤ length before) → (a : Answer) → a ≡ answer_of plan → left a after ≡ leaves text own cs before
    whole-left f a ea =
        let h = fits plan refl f in
        plan-left text own cs plan e before a after h ea (within-room before _ after (length (written text all)) w h)
