-- `row_plan::plan_of` meets its contract. Assumes nothing.
use Rattle.std.proofs.lemmas.Result.{err_from_is_err_and}
use mathlib.Core.Path.{ap, ◌∙◌}
use mathlib.Core.List.{List}
use native.Mathlib.Omega.{arith}
use lib.ListN.{length}
use lib.Seq.{sets}
use Rattle.plan_model.specs.declared.Line.{Line}
use Rattle.row_model.specs.Outcome.{outcome_of}
use Rattle.report_model.specs.Text.{text}
use Rattle.plan_model.proofs.Answered.{refused-answer, refused-put, planned-answer, planned-put}
use Rattle.row_plan.proofs.Printing.{decided-refused, decided-back}
use Rattle.row_plan.proofs.plan_of.Goals as goal

pub returns-in_err-numbers-clause-value : goal.returns-in_err-numbers-clause-value
returns-in_err-numbers-clause-value c =
    let p = err_from_is_err_and c.from_residual.result c.from_residual.ensures.1 in
    rw (p.1, p.2) (refused-answer text _ _ (decided-refused (outcome_of c.args.s) _ c.in_err-numbers.ensures.value))

pub returns-in_err-numbers-clause-out_after : goal.returns-in_err-numbers-clause-out_after
returns-in_err-numbers-clause-out_after c =
    refused-put text _ _ c.args.out.now (decided-refused (outcome_of c.args.s) _ c.in_err-numbers.ensures.value)

pub returns-clause-value : goal.returns-clause-value
returns-clause-value c =
    let d = c.in_ok-numbers.ensures in
    let g = decided-back (outcome_of c.args.s) _ _ _ d.value d.length_bound (omega arith) d.table_after in
    planned-answer text _ g.lines _ g.planned (c.print.ensures.value ∙ ap (λ (l : List Line). length (text l)) g.back)

pub returns-clause-out_after : goal.returns-clause-out_after
returns-clause-out_after c =
    let d = c.in_ok-numbers.ensures in
    let g = decided-back (outcome_of c.args.s) _ _ _ d.value d.length_bound (omega arith) d.table_after in
    planned-put text _ g.lines c.args.out.now _ g.planned (c.print.ensures.out_after ∙ ap (λ (l : List Line). sets c.args.out.now 0 (text l)) g.back)
