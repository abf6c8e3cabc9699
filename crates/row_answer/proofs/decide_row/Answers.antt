-- `row_answer::decide_row` meets its contract. Assumes nothing.
use Rattle.std.proofs.lemmas.Result.{err_from_is_err_and}
use mathlib.Core.Path.{ap, ◌∙◌}
use Rattle.line_table_model.specs.Rows.{row_table}
use Rattle.plan_model.specs.Plans.{answer}
use Rattle.plan_model.proofs.Answered.{refused-answer, refused-put}
use Rattle.row_answer_model.proofs.Reading.{row_read, row_refused}
use Rattle.row_answer.proofs.decide_row.Goals as goal

pub returns-in_err-read_row-clause-value : goal.returns-in_err-read_row-clause-value
returns-in_err-read_row-clause-value c =
    let p = err_from_is_err_and c.from_residual.result c.from_residual.ensures.1 in
    rw (p.1, p.2) (refused-answer row_table _ _ (row_refused c.args.heading c.args.row.now _ c.in_err-read_row.ensures))

pub returns-in_err-read_row-clause-table_after : goal.returns-in_err-read_row-clause-table_after
returns-in_err-read_row-clause-table_after c =
    refused-put row_table _ _ c.args.table.now (row_refused c.args.heading c.args.row.now _ c.in_err-read_row.ensures)

pub returns-clause-value : goal.returns-clause-value
returns-clause-value c =
    c.decide.ensures.value ∙ ap (answer row_table) (row_read c.args.heading c.args.row.now _ c.in_ok-read_row.ensures)

pub returns-clause-table_after : goal.returns-clause-table_after
returns-clause-table_after c =
    let e = row_read c.args.heading c.args.row.now _ c.in_ok-read_row.ensures in
    rw e at c.decide.ensures.table_after
