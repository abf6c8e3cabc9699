-- What the calls that plan a row answer and leave (document 01, 'Rows of settings'; document 02, E1): from bytes to bytes. Assumes nothing:
-- these are definitions.
use Rattle.std.specs.Prelude.{ℕ, List}
use Rattle.row_read_model.specs.Names.{heading_of}
use Rattle.row_model.specs.Lines.{lines}
use Rattle.row_answer_model.specs.Outcomes.{spelled_settings, row_conditions, named_outcome}
use Rattle.report_model.specs.Text.{text}
use Rattle.calls_model.specs.declared.Answer.{Answer}
use Rattle.calls_model.specs.Calls.{answer_to, Left, leaves}
use Rattle.calls_model.specs.Reasons.{line_left}
use Rattle.plan_model.specs.Plans.{answer}
use Rattle.reason_model.specs.Reasons.{verdict_line}

-- the entry that writes: from the name line's, the row's and the lent buffer's bytes to the answer and the buffer's bytes. Numbers 1 to 8 in
-- their order, the first failure answering.
unfoldable pub plan_row : List ℕ → List ℕ → List ℕ → Left
plan_row names row before = leaves text (lines (spelled_settings row)) (row_conditions (heading_of names) row) before

-- the entry that writes nothing: numbers 1 to 7
unfoldable pub check_row : List ℕ → List ℕ → Answer
check_row names row = answer_to text (named_outcome names row)

-- the line of a row under a name line: why it is refused with one of numbers 1 to 7, or that it is planned
unfoldable pub row_line : List ℕ → List ℕ → List ℕ
row_line names row = verdict_line (answer text (named_outcome names row))

-- the entry that puts the line of a row: it answers number and place of the refusal, 0 and 0 where the row is planned
unfoldable pub explain_row : List ℕ → List ℕ → List ℕ → Left
explain_row names row before = line_left (answer_to text (named_outcome names row)).number (answer_to text (named_outcome names row)).place (row_line names row) before
