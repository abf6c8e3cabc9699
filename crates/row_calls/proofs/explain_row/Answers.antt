-- `row_calls::explain_row` meets its contract. Assumes nothing.
use mathlib.Core.Path.{refl, ap, ◌∙◌}
use native.Mathlib.Omega.{arith}
use lib.ListN.{replicate}
use Rattle.buffer.proofs.Putting.{put_front}
use Rattle.row_answer_model.specs.Outcomes.{named_outcome}
use Rattle.report_model.specs.Text.{text}
use Rattle.reason_model.specs.Reasons.{verdict_line}
use Rattle.row_calls_model.specs.Entries.{row_line, explain_row}
use Rattle.calls_model.proofs.Leaving.{plan-told}
use Rattle.calls_model.proofs.ReasonLines.{line-again}
use Rattle.calls_model.proofs.Telling.{number_same, place_same, said-same}
use Rattle.calls_model.specs.declared.Answer.{Answer}
use Rattle.line_table_model.specs.Rows.{row_table}
use Rattle.row_calls.proofs.explain_row.Goals as goal

pub returns-clause-out_after : goal.returns-clause-out_after
unfolding explain_row row_line verdict_line
returns-clause-out_after c =
    let a = c.args in
    let plan = c.decide_named_row-decided in
    let o = named_outcome a.names.now a.row.now in
    let t = plan-told row_table o plan.result plan.ensures.value _ c.answer_of-answer.ensures in
    let p = c.put_verdict-n in
    let n = ap (λ (x : Answer). x.number) t ∙ number_same row_table text o in
    let z = ap (λ (x : Answer). x.place) t ∙ place_same row_table text o in
    let v = ap verdict_line plan.ensures.value ∙ said-same row_table text verdict_line (λ m n. refl) o in
    let e = put_front p.new.out (replicate 160 0) _ p.result p.ensures.value (omega (arith, p.ensures.upper_bound)) p.ensures.out_after ∙ v in
    let l = rw (e, n, z) at c.leave.ensures in l

pub returns-clause-read_again : goal.returns-clause-read_again
unfolding explain_row row_line verdict_line
returns-clause-read_again c =
    let a = c.args in
    let plan = c.decide_named_row-decided in
    let o = named_outcome a.names.now a.row.now in
    let t = plan-told row_table o plan.result plan.ensures.value _ c.answer_of-answer.ensures in
    let p = c.put_verdict-n in
    let n = ap (λ (x : Answer). x.number) t ∙ number_same row_table text o in
    let z = ap (λ (x : Answer). x.place) t ∙ place_same row_table text o in
    let v = ap verdict_line plan.ensures.value ∙ said-same row_table text verdict_line (λ m n. refl) o in
    let e = put_front p.new.out (replicate 160 0) _ p.result p.ensures.value (omega (arith, p.ensures.upper_bound)) p.ensures.out_after ∙ v in
    let l = rw (e, n, z) at c.leave.ensures in line-again text verdict_line (λ r. refl) o a.out.now _ _ l (omega (arith, c.leave.type_inv))
