-- What is printed, by the plan that was answered. Assumes nothing.
use Rattle.std.specs.Prelude.{Result, Ok, Err}
use mathlib.Core.Path.{◌≡◌, refl, sym, ap, ◌∙◌}
use mathlib.Core.List.{List, []}
use Prim.Native.Nat.{ℕ}
use lib.ListN.{length}
use Rattle.refusals.specs.declared.Refusal.{Refusal}
use Rattle.refusals.specs.Outcome.{Outcome, Planned, Refused}
use Rattle.report_model.specs.Text.{refusal_text}
use Rattle.plan_model.specs.Plans.{answer, written}
use Rattle.plan_model.proofs.Answered.{answer-refused, answer-planned, answered-length}
use Rattle.program_model.specs.Printed.{printed}

module _ {P : Type 0} (text : P → List ℕ) (o : Outcome P) (plan : Result ℕ Refusal) (e : plan ≡ answer text o) where
  -- refused: nothing was put, and the refusal is printed
  pub refused-printed : (r : Refusal) → plan ≡ Err r → (refusal_text r ≡ printed text o) × (written text o ≡ [])
  unfolding printed written
  refused-printed r v = let q = answer-refused text o r (sym e ∙ v) in (rw q refl, rw q refl)

  -- planned: all that is printed was put
  pub planned-printed : (n : ℕ) → plan ≡ Ok n → (n ≡ length (printed text o)) × (written text o ≡ printed text o)
  unfolding printed written
  planned-printed n v =
      let q = answer-planned text o n (sym e ∙ v) in
      let same : written text o ≡ printed text o = rw q.1 refl in
      (answered-length text o n (sym e ∙ v) ∙ ap length same, same)

-- ---- the same in a form that a check uses by itself

-- what was put where it is planned, and the refusal's line where it is not
abbrev pub put_or_refusal : Result ℕ Refusal → List ℕ → List ℕ
put_or_refusal (Ok n) put = put
put_or_refusal (Err r) put = refusal_text r

-- what was put; nothing where it is refused
abbrev pub put_by : Result ℕ Refusal → List ℕ → List ℕ
put_by (Ok n) put = put
put_by (Err r) put = []

-- the length that was answered
abbrev pub length_by : Result ℕ Refusal → ℕ → ℕ
length_by (Ok n) k = n
length_by (Err r) k = k

module _ {P : Type 0} (text : P → List ℕ) where
  pub printed_found : (o : Outcome P) → printed text o ≡ put_or_refusal (answer text o) (written text o)
  unfolding printed answer written
  printed_found (Planned p) = refl
  printed_found (Refused r) = refl

  pub written_found : (o : Outcome P) → written text o ≡ put_by (answer text o) (written text o)
  unfolding answer written
  written_found (Planned p) = refl
  written_found (Refused r) = refl

  pub length_found : (o : Outcome P) → length (written text o) ≡ length_by (answer text o) (length (written text o))
  unfolding answer written
  length_found (Planned p) = refl
  length_found (Refused r) = refl

-- all that a function asks for that plans, and puts the line of a refusal where there is no plan
pub ruleset answered = (printed_found, written_found, length_found)
