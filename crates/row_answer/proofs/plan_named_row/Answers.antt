-- `row_answer::plan_named_row` meets its contract. Assumes nothing.
use Rattle.std.proofs.lemmas.Result.{err_from_is_err_and}
use mathlib.Core.Path.{ap, ◌∙◌}
use Rattle.line_table_model.proofs.Decided.{refused-within}
use Rattle.report_model.specs.Text.{text}
use Rattle.plan_model.specs.Plans.{answer}
use Rattle.plan_model.proofs.Answered.{refused-answer}
use Rattle.row_answer_model.proofs.Reading.{named_read, named_refused}
use Rattle.row_answer.proofs.plan_named_row.Goals as goal

pub returns-in_err-read_named_row-clause-value : goal.returns-in_err-read_named_row-clause-value
returns-in_err-read_named_row-clause-value c =
    let p = err_from_is_err_and c.from_residual.result c.from_residual.ensures.1 in
    rw (p.1, p.2) (refused-answer text _ _ (named_refused c.args.names.now c.args.row.now _ c.in_err-read_named_row.ensures))

pub returns-in_err-read_named_row-clause-out_after : goal.returns-in_err-read_named_row-clause-out_after
returns-in_err-read_named_row-clause-out_after c =
    refused-within text _ _ c.args.out.now _ (named_refused c.args.names.now c.args.row.now _ c.in_err-read_named_row.ensures)

pub returns-clause-value : goal.returns-clause-value
returns-clause-value c =
    c.plan_within.ensures.value ∙ ap (answer text) (named_read c.args.names.now c.args.row.now _ c.in_ok-read_named_row.ensures)

pub returns-clause-out_after : goal.returns-clause-out_after
returns-clause-out_after c =
    let e = named_read c.args.names.now c.args.row.now _ c.in_ok-read_named_row.ensures in
    rw e at c.plan_within.ensures.out_after
