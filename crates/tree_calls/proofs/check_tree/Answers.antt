-- `tree_calls::check_tree` meets its contract. Assumes nothing.
use Rattle.settings_model.specs.Checks.{radio}
use Rattle.tree_read_model.specs.Survey.{outcome_in}
use Rattle.report_model.specs.TreeText.{tree_text}
use Rattle.tree_calls_model.specs.Entries.{check_tree}
use Rattle.calls_model.proofs.Leaving.{plan-told, told-short}
use Rattle.tree_calls.proofs.check_tree.Goals as goal

pub returns-clause-value : goal.returns-clause-value
unfolding check_tree
returns-clause-value c =
    let a = c.args in
    let w = c.plan_within in
    let e = rw (c.radio_from-b.ensures, c.from.ensures) at w.ensures.value in
    let b = radio a.bo a.so a.head a.payload a.ack a.loss in plan-told tree_text (outcome_in a.nodes.now b a.sink) w.result e _ c.answer_of.ensures

pub returns-clause-length_bound : goal.returns-clause-length_bound
unfolding check_tree
returns-clause-length_bound c =
    let a = c.args in
    let w = c.plan_within in
    let e = rw (c.radio_from-b.ensures, c.from.ensures) at w.ensures.value in
    let b = radio a.bo a.so a.head a.payload a.ack a.loss in told-short tree_text (outcome_in a.nodes.now b a.sink) w.result e 48576 _ c.answer_of.ensures w.ensures.length_bound
