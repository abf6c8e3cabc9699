-- Demand 3 of the text in the lent buffer. Assumes nothing: these are definitions.
use Rattle.std.specs.Prelude.{ℕ, List}
use Rattle.plan_model.specs.declared.Line.{Line}
use Rattle.row_model.specs.Promise.{Keeps}
use Rattle.row_answer_model.specs.Outcomes.{spelled_settings}
use Rattle.report_model.specs.Text.{text}
use Rattle.calls_model.specs.declared.Answer.{Answer}
use Rattle.calls_model.specs.Calls.{IsPlanned, StandsIn}

-- Where a row is answered as planned, demand 3 holds of the row and of ANY lines whose text stands in the buffer afterwards.
abbrev pub Promised : List ℕ → Answer → List ℕ → Type 0
Promised row r after = IsPlanned r → (p : List Line) → StandsIn text p r after → Keeps (spelled_settings row) p
