-- The examples of specs/Examples, computed. Assumes nothing.
use mathlib.Core.Path.{refl}
use Rattle.lines.specs.Text.{joined, ended}
use Rattle.plan_model.specs.Lines.{letter}
use Rattle.plan_model.specs.Plans as plans
use Rattle.report_model.specs.Text as report
use Rattle.report_model.specs.TreeText.{tree_header, node_text, tree_text}
use Rattle.reason_model.proofs.Computing.{worded}
use Rattle.tree_read_model.proofs.Computing.{lists}
use Rattle.calls_model.specs.Calls.{answer_to_refusal, answer_to, buffer_after, room, outcome_within, leaves}
use Rattle.calls_model.specs.Reasons.{line_left}
use Rattle.calls_model.specs.Examples.{lent}
use Rattle.tree_calls_model.specs.Entries.{plan_tree, check_tree, tree_verdict_line, explain_tree}
use Rattle.tree_calls_model.specs.Broken.{pair_list}
use Rattle.tree_calls_model.specs.Examples.{tree_plan, tree_call, tree_explained, TreeExamples}

pub tree-examples-hold : TreeExamples
unfolding lists worded joined ended letter report.numbers tree_header node_text tree_text answer_to_refusal answer_to buffer_after room outcome_within leaves plan_tree check_tree plans.answer line_left tree_verdict_line explain_tree lent pair_list tree_plan tree_call tree_explained
tree-examples-hold = record {
  check = refl;
  exact = refl;
  one_more = refl;
  one_less = refl;
  three = refl;
  ten_before_three = refl;
  lossy = refl;
  loss_outside = refl;
  unacknowledged = refl;
  refused_line = refl;
  planned_line = refl;
  short_line = refl;
}
