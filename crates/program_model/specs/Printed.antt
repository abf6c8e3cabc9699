-- The limit of an input, and what a program prints of an outcome (document 01, 'The printed plan' and 'Rows of settings'). Assumes nothing:
-- these are definitions.
use Rattle.std.specs.Prelude.{ℕ, List, [], ◌∷◌, ltb, length}
use Rattle.refusals.specs.declared.Refusal.{Refusal}
use Rattle.refusals.specs.declared.Refusal.TheVariants.{InputTooLong}
use Rattle.refusals.specs.Conditions.{Condition, condition}
use Rattle.refusals.specs.Outcome.{Outcome, Planned, Refused}
use Rattle.report_model.specs.Text.{refusal_text}

-- number 9: "program's input over 65,536 bytes"
unfoldable pub too_long : List ℕ → List (Condition Refusal)
too_long input = condition (ltb 65536 (length input)) InputTooLong ∷ []

-- the text of a plan; "A refused row prints `R`, number and place instead"
unfoldable pub printed : {P : Type 0} → (P → List ℕ) → Outcome P → List ℕ
printed text (Planned p) = text p
printed text (Refused r) = refusal_text r
