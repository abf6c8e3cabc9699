-- `row_decide::decide` meets its contract. Assumes nothing.
use mathlib.Core.Path.{sym}
use Rattle.line_table_model.specs.Rows.{row_table}
use Rattle.plan_model.proofs.Answered.{refused-answer, refused-put, planned-answer, planned-put}
use Rattle.row_model.specs.Lines.{lines}
use Rattle.row_plan_model.proofs.Answers.{kept-before-slots, broken-refused, kept-planned, plan-keeps}
use Rattle.row_decide.proofs.decide.Goals as goal

pub returns-in-Err-clause-value : goal.returns-in-Err-clause-value
returns-in-Err-clause-value c =
    let v = rw c.in-Err.is at c.check.ensures.verdict_value in
    refused-answer row_table _ _ (broken-refused c.args.s _ (sym v))

pub returns-in-Err-clause-table_after : goal.returns-in-Err-clause-table_after
returns-in-Err-clause-table_after c =
    let v = rw c.in-Err.is at c.check.ensures.verdict_value in
    refused-put row_table _ _ c.args.table.now (broken-refused c.args.s _ (sym v))

pub put_lines-requires : goal.put_lines-requires
put_lines-requires c =
    let v = rw c.in-Ok.is at c.check.ensures.verdict_value in
    let l = rw c.in-Ok.is at c.check.ensures.links_left in
    record { tables = l.kept (kept-before-slots _ (sym v)); links = l.links }

pub returns-in-Ok-clause-value : goal.returns-in-Ok-clause-value
returns-in-Ok-clause-value c =
    let v = rw c.in-Ok.is at c.check.ensures.verdict_value in
    planned-answer row_table _ (lines c.args.s) _ (kept-planned c.args.s (sym v)) c.put_lines.ensures.value

pub returns-in-Ok-clause-table_after : goal.returns-in-Ok-clause-table_after
returns-in-Ok-clause-table_after c =
    let v = rw c.in-Ok.is at c.check.ensures.verdict_value in
    planned-put row_table _ (lines c.args.s) c.args.table.now _ (kept-planned c.args.s (sym v)) c.put_lines.ensures.table_after

pub returns-in-Ok-clause-keeps : goal.returns-in-Ok-clause-keeps
returns-in-Ok-clause-keeps c =
    let v = rw c.in-Ok.is at c.check.ensures.verdict_value in
    plan-keeps c.args.s (sym v)
