-- What holds of what is printed. Assumes nothing: these are statements; proofs/LawsHold proves them.
use Rattle.std.specs.Prelude.{◌≡◌, List, ℕ, ◌≤◌, ◌<◌, length, Option, Some, Ok, Err}
use Rattle.decimal_model.specs.Ascii.{ascii}
use Rattle.refusals.specs.declared.Refusal.{Refusal}
use Rattle.refusals.specs.Conditions.{verdict}
use Rattle.plan_model.specs.declared.NodeLine.{NodeLine}
use Rattle.tree_model.specs.Promise.{Keeps}
use Rattle.tree_read_model.specs.Survey.{tree_in, surveyed, outcome_in}
use Rattle.report_model.specs.Text.{refusal_text}
use Rattle.report_model.specs.TreeText.{tree_text}
use Rattle.program_model.specs.Printed.{printed}
use Rattle.tree_program_model.specs.declared.Arguments.{Arguments}
use Rattle.tree_program_model.specs.Output.{arguments_read, radio_of, sink_of, tree_output}

-- over 65,536 bytes one line is all, whatever they and the arguments are
abbrev pub LongInputs : Type 0
LongInputs = (a : Arguments) (input : List ℕ) → 65536 < length input → tree_output a input ≡ ascii "R 9 0\n"

-- else number 10 is answered, whatever the other arguments are
abbrev pub TenBeforeTwo : Type 0
TenBeforeTwo = (a : Arguments) (input : List ℕ) (r : Refusal) → length input ≤ 65536
    → verdict (surveyed input (sink_of a)) ≡ Err r → tree_output a input ≡ refusal_text r

-- arguments that can be read are settings beside and a sink, and what is printed is the text's outcome with them
abbrev pub ReadArguments : Type 0
ReadArguments = (a : Arguments) (input : List ℕ) → length input ≤ 65536 → verdict (arguments_read a) ≡ Ok tt
    → tree_output a input ≡ printed tree_text (outcome_in input (radio_of a) (sink_of a))

-- LOSS that is not given is LOSS 0
abbrev pub NotGivenIsZero : Type 0
NotGivenIsZero = (bo so head payload ack sink loss : Option ℕ) (count : ℕ) (input : List ℕ) → count ≤ 6
    → tree_output (record { bo = bo; so = so; head = head; payload = payload; ack = ack; sink = sink; loss = loss; count = count }) input
    ≡ tree_output (record { bo = bo; so = so; head = head; payload = payload; ack = ack; sink = sink; loss = Some 0; count = 7 }) input

-- demand 3 of what is printed: of ANY lines whose text it is
abbrev pub PrintedLinesKeep : Type 0
PrintedLinesKeep = (a : Arguments) (input : List ℕ) (p : List NodeLine) → tree_output a input ≡ tree_text p → Keeps (radio_of a) (tree_in input) (sink_of a) p
