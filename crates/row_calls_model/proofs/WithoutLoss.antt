-- A row of twelve values and the same row with LOSS 0: every call answers and leaves the same. Assumes nothing.
use mathlib.Core.Path.{◌≡◌, ap, sym, ◌∙◌}
use mathlib.Core.List.{List}
use Prim.Native.Nat.{ℕ}
use lib.ListN.{length}
use Rattle.lines.specs.Text.{fields}
use Rattle.refusals.specs.Conditions.{first_broken}
use Rattle.refusals.specs.Outcome.{Outcome, Planned, Refused}
use Rattle.refusals.proofs.Answering.{first-append}
use Rattle.settings_model.specs.Columns.{twelve, every_column}
use Rattle.row_read_model.specs.declared.Heading.TheVariants.{Twelve, Thirteen}
use Rattle.row_read_model.specs.Names.{name_line}
use Rattle.row_read_model.specs.Laws.{with_zero}
use Rattle.plan_model.specs.declared.Line.{Line}
use Rattle.row_model.specs.Lines.{lines}
use Rattle.report_model.specs.Text.{text}
use Rattle.row_answer_model.specs.Outcomes.{spelled_settings, row_conditions}
use Rattle.row_read_model.proofs.WithoutLoss.{names-of-twelve, names-of-thirteen}
use Rattle.row_answer_model.proofs.WithoutLoss as answers
use Rattle.calls_model.specs.Calls.{answer_to, buffer_after, room, outcome_within, left, leaves}
use Rattle.row_calls_model.specs.Entries.{plan_row, check_row, row_line, explain_row}
use Rattle.row_calls_model.specs.Laws.{SameWithoutLoss}

-- with number 8 behind the others
roomed-same : (row before : List ℕ) → length (fields row) ≡ 12
    → outcome_within text (lines (spelled_settings (with_zero row))) (row_conditions Thirteen (with_zero row)) before ≡ outcome_within text (lines (spelled_settings row)) (row_conditions Twelve row) before
unfolding outcome_within
roomed-same row before e =
    let p = lines (spelled_settings row) in
    let r = room before (text p) in
    let a : Outcome (List Line) = first_broken Refused (Planned p) r in
    rw (answers.settings-same row e)
    (first-append Refused (Planned p) (row_conditions Thirteen (with_zero row)) r
    ∙ answers.conditions-same Refused a row e
    ∙ sym (first-append Refused (Planned p) (row_conditions Twelve row) r))

plans-same : (row before : List ℕ) → length (fields row) ≡ 12 → plan_row (name_line every_column) (with_zero row) before ≡ plan_row (name_line twelve) row before
unfolding plan_row leaves
plans-same row before e =
    rw (names-of-thirteen, names-of-twelve) (ap (λ (o : Outcome (List Line)). left (answer_to text o) (buffer_after text before o)) (roomed-same row before e))

pub same-without-loss : SameWithoutLoss
unfolding check_row explain_row row_line
same-without-loss = record {
  plans = plans-same;
  checks = λ row e. ap (answer_to text) ((answers.same-without-loss).named row e);
  explains = λ row before e. rw ((answers.same-without-loss).named row e);
}
