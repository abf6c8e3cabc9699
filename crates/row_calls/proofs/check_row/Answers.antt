-- `row_calls::check_row` meets its contract. Assumes nothing.
use Rattle.row_answer_model.specs.Outcomes.{named_outcome}
use Rattle.report_model.specs.Text.{text}
use Rattle.row_calls_model.specs.Entries.{check_row}
use Rattle.calls_model.proofs.Leaving.{plan-told, told-short}
use Rattle.row_calls.proofs.check_row.Goals as goal

pub returns-clause-value : goal.returns-clause-value
unfolding check_row
returns-clause-value c =
    let a = c.args in
    let w = c.plan_named_row in
    let o = named_outcome a.names.now a.row.now in plan-told text o w.result w.ensures.value _ c.answer_of.ensures

pub returns-clause-length_bound : goal.returns-clause-length_bound
unfolding check_row
returns-clause-length_bound c =
    let a = c.args in
    let w = c.plan_named_row in
    let o = named_outcome a.names.now a.row.now in told-short text o w.result w.ensures.value 4476 _ c.answer_of.ensures w.ensures.length_bound
