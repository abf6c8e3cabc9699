-- The examples of specs/Examples, computed. Assumes nothing.
use mathlib.Core.Path.{refl}
use Rattle.lines.specs.Text.{ended}
use Rattle.plan_model.specs.Plans as plans
use Rattle.report_model.specs.Text as report
use Rattle.reason_model.proofs.Computing.{worded}
use Rattle.row_answer_model.proofs.Computing.{answered}
use Rattle.calls_model.specs.Calls.{answer_to_refusal, answer_to, buffer_after, room, outcome_within, leaves}
use Rattle.calls_model.specs.Reasons.{line_left}
use Rattle.calls_model.specs.Examples.{lent, line}
use Rattle.row_calls_model.specs.Entries.{plan_row, check_row, row_line, explain_row}
use Rattle.row_calls_model.specs.Examples.{text, call, planned, refused, lossy_call, lossy_text, Examples, explained, Spoken}

pub examples-hold : Examples
unfolding answered worded ended report.header report.numbers report.line_text report.text answer_to_refusal answer_to buffer_after room outcome_within leaves plan_row check_row lent text call planned refused lossy_call lossy_text
examples-hold = record {
  check = refl;
  exact = refl;
  one_more = refl;
  more = refl;
  one_less = refl;
  ten = refl;
  none = refl;
  seven = refl;
  seven_before_eight = refl;
  one_before_eight = refl;
  lossy = refl;
  lossy_short = refl;
  loss_missing = refl;
  loss_behind = refl;
  loss_outside = refl;
  unacknowledged = refl;
}

pub spoken-hold : Spoken
unfolding answered worded answer_to_refusal answer_to plans.answer line_left row_line explain_row lent line explained
spoken-hold = record {
  exact = refl;
  more = refl;
  one_less = refl;
  none = refl;
  planned = refl;
  planned_short = refl;
  no_names = refl;
}
