-- P1 to P10 and small inputs, from bytes to bytes, computed. Assumes nothing.
use mathlib.Core.Path.{refl}
use Rattle.lines.specs.Text.{ended, lines}
use Rattle.row_answer_model.proofs.Computing.{answered}
use Rattle.report_model.specs.Text.{header, numbers, line_text, text, refusal_text}
use Rattle.reason_model.proofs.Computing.{worded}
use Rattle.program_model.specs.Printed as program
use Rattle.row_program_model.specs.Output.{printed, rows_printed, heading_in, input_conditions, output}
use Rattle.program_model.specs.Printed.{too_long}
use Rattle.row_program_model.specs.Examples as examples
use Rattle.row_program_model.specs.Examples.{ours, ours_lossy, explained, lossy_explained, ExamplesHold, LossyHold, InputsHold, ReasonsHold, LossyReasonsHold}

-- to unfold `outputs` is to unfold all that an output is computed with
outputs : Type 0
unfolding answered worded lines ended header numbers line_text text refusal_text program.printed printed rows_printed too_long heading_in input_conditions output
outputs = Unit

pub inputs-hold : InputsHold
unfolding outputs
inputs-hold = record { names_alone_explained = refl; empty_explained = refl; names_alone = refl; names_without_end = refl; lossy_names_alone = refl; empty = refl; no_names = refl; several = refl }

pub examples-hold : ExamplesHold
unfolding outputs examples.examples ours ExamplesHold
examples-hold = refl

pub reasons-hold : ReasonsHold
unfolding outputs examples.reasons explained ReasonsHold
reasons-hold = refl

pub lossy-hold : LossyHold
unfolding outputs examples.lossy ours_lossy LossyHold
lossy-hold = refl

pub lossy-reasons-hold : LossyReasonsHold
unfolding outputs examples.lossy_reasons lossy_explained LossyReasonsHold
lossy-reasons-hold = refl
