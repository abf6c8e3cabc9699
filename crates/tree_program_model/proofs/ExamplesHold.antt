-- The examples of specs/Examples, computed. Assumes nothing.
use mathlib.Core.Path.{refl}
use Rattle.decimal_model.specs.Decimal.{digits_by, decimal}
use Rattle.decimal_model.specs.Number.{number_in}
use Rattle.lines.specs.Text.{joined, ended}
use Rattle.refusals.proofs.Computing.{tabled}
use Rattle.plan_model.specs.Lines.{letter}
use Rattle.tree_read_model.proofs.Computing.{lists}
use Rattle.report_model.specs.Text.{numbers, refusal_text}
use Rattle.report_model.specs.TreeText.{tree_header, node_text, tree_text}
use Rattle.program_model.specs.Printed.{printed, too_long}
use Rattle.tree_program_model.specs.Output.{loss_in, arguments_read, radio_of, sink_of, argument_conditions, call_outcome, tree_output}
use Rattle.tree_program_model.specs.Examples.{argument_at, arguments_in, balanced_list, common, broken_list, examples, ours, ExamplesHold}

-- to unfold `outputs` is to unfold all that an output is computed with
outputs : Type 0
unfolding lists digits_by decimal number_in joined ended tabled letter numbers refusal_text tree_header node_text tree_text too_long loss_in arguments_read radio_of sink_of argument_conditions call_outcome printed tree_output argument_at arguments_in
outputs = Unit

pub examples-hold : ExamplesHold
unfolding outputs balanced_list common broken_list examples ours ExamplesHold
examples-hold = refl
