-- `row_plan::plan_within` meets its contract. Assumes nothing.
use Rattle.std.proofs.lemmas.Result.{err_from_is_err_and}
use mathlib.Core.Path.{sym, ap, ◌∙◌}
use mathlib.Core.List.{List}
use native.Mathlib.Omega.{arith}
use lib.Dec.{leb}
use lib.ListN.{length}
use Rattle.plan_model.specs.declared.Line.{Line}
use Rattle.row_model.specs.Outcome.{outcome_of}
use Rattle.report_model.specs.Text.{text}
use Rattle.plan_model.specs.Plans.{written}
use Rattle.plan_model.proofs.Answered.{refused-answer, planned-answer}
use Rattle.line_table_model.proofs.Decided.{refused-within, planned-within}
use Rattle.row_plan.proofs.Printing.{decided-refused, decided-back}
use Rattle.row_plan.proofs.plan_within.Goals as goal

pub returns-in_err-numbers-clause-value : goal.returns-in_err-numbers-clause-value
returns-in_err-numbers-clause-value c =
    let p = err_from_is_err_and c.from_residual.result c.from_residual.ensures.1 in
    rw (p.1, p.2) (refused-answer text _ _ (decided-refused (outcome_of c.args.s) _ c.in_err-numbers.ensures.value))

pub returns-in_err-numbers-clause-out_after : goal.returns-in_err-numbers-clause-out_after
returns-in_err-numbers-clause-out_after c =
    let o = outcome_of c.args.s in
    refused-within text o _ c.args.out.now (leb (length (written text o)) (length c.args.out.now)) (decided-refused o _ c.in_err-numbers.ensures.value)

pub returns-clause-value : goal.returns-clause-value
returns-clause-value c =
    let d = c.in_ok-numbers.ensures in
    let g = decided-back (outcome_of c.args.s) _ _ _ d.value d.length_bound (omega arith) d.table_after in
    planned-answer text _ g.lines _ g.planned (c.print_within.ensures.value ∙ ap (λ (l : List Line). length (text l)) g.back)

pub returns-clause-out_after : goal.returns-clause-out_after
unfolding written
returns-clause-out_after c =
    let o = outcome_of c.args.s in
    let d = c.in_ok-numbers.ensures in
    let g = decided-back o _ _ _ d.value d.length_bound (omega arith) d.table_after in
    let w = c.print_within.ensures in
    let n = w.value ∙ ap (λ (l : List Line). length (text l)) g.back ∙ ap (λ x. length (written text x)) g.planned in
    w.out_after ∙ planned-within text o g.lines _ c.args.out.now _ _ g.planned g.back (sym n)
