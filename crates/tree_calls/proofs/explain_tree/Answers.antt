-- `tree_calls::explain_tree` meets its contract. Assumes nothing.
use mathlib.Core.Path.{refl, ap, ◌∙◌}
use native.Mathlib.Omega.{arith}
use lib.ListN.{replicate}
use Rattle.buffer.proofs.Putting.{put_front}
use Rattle.settings_model.specs.Checks.{radio}
use Rattle.tree_read_model.specs.Survey.{outcome_in}
use Rattle.report_model.specs.TreeText.{tree_text}
use Rattle.node_table_model.specs.NodeRows.{tree_table}
use Rattle.calls_model.specs.declared.Answer.{Answer}
use Rattle.tree_calls_model.specs.Entries.{check_tree, tree_verdict_line, explain_tree}
use Rattle.calls_model.proofs.Leaving.{plan-told}
use Rattle.calls_model.proofs.ReasonLines.{line-again}
use Rattle.calls_model.proofs.Telling.{number_same, place_same, said-same}
use Rattle.tree_calls.proofs.explain_tree.Goals as goal

pub returns-clause-out_after : goal.returns-clause-out_after
unfolding explain_tree check_tree tree_verdict_line
returns-clause-out_after c =
    let a = c.args in
    let b = radio a.bo a.so a.head a.payload a.ack a.loss in
    let o = outcome_in a.nodes.now b a.sink in
    let d = c.decide-decided in
    let q = rw (c.radio_from-b.ensures, c.from.ensures) at d.ensures.value in
    let t = plan-told tree_table o d.result q _ c.answer_of-answer.ensures in
    let n = ap (λ (x : Answer). x.number) t ∙ number_same tree_table tree_text o in
    let z = ap (λ (x : Answer). x.place) t ∙ place_same tree_table tree_text o in
    let p = c.put_tree_verdict-n in
    let v = ap tree_verdict_line q ∙ said-same tree_table tree_text tree_verdict_line (λ m n. refl) o in
    let e = put_front p.new.out (replicate 160 0) _ p.result p.ensures.value (omega (arith, p.ensures.upper_bound)) p.ensures.out_after ∙ v in
    let l = rw (e, n, z) at c.leave.ensures in l

pub returns-clause-read_again : goal.returns-clause-read_again
unfolding explain_tree check_tree tree_verdict_line
returns-clause-read_again c =
    let a = c.args in
    let b = radio a.bo a.so a.head a.payload a.ack a.loss in
    let o = outcome_in a.nodes.now b a.sink in
    let d = c.decide-decided in
    let q = rw (c.radio_from-b.ensures, c.from.ensures) at d.ensures.value in
    let t = plan-told tree_table o d.result q _ c.answer_of-answer.ensures in
    let n = ap (λ (x : Answer). x.number) t ∙ number_same tree_table tree_text o in
    let z = ap (λ (x : Answer). x.place) t ∙ place_same tree_table tree_text o in
    let p = c.put_tree_verdict-n in
    let v = ap tree_verdict_line q ∙ said-same tree_table tree_text tree_verdict_line (λ m n. refl) o in
    let e = put_front p.new.out (replicate 160 0) _ p.result p.ensures.value (omega (arith, p.ensures.upper_bound)) p.ensures.out_after ∙ v in
    let l = rw (e, n, z) at c.leave.ensures in line-again tree_text tree_verdict_line (λ r. refl) o a.out.now _ _ l (omega (arith, c.leave.type_inv))
