-- What program `plan_tree` prints for its arguments and its input (document 02, E3 and E5). Assumes nothing: these are definitions.
use Rattle.std.specs.Prelude.{ℕ, cond, ltb, List, [], ◌∷◌, ◌++◌, Option, Some, is_none, unwrap_or}
use Rattle.refusals.specs.declared.Refusal.{Refusal}
use Rattle.refusals.specs.declared.Refusal.TheVariants.{Unreadable, TextAfter}
use Rattle.refusals.specs.Conditions.{Condition, condition, first_broken}
use Rattle.settings_model.specs.declared.Radio.{Radio}
use Rattle.settings_model.specs.Checks.{radio}
use Rattle.tree_model.specs.Lines.{lines}
use Rattle.tree_model.specs.Checks.{conditions}
use Rattle.refusals.specs.Outcome.{Planned, Refused}
use Rattle.tree_model.specs.Outcome.{TreeOutcome}
use Rattle.tree_read_model.specs.Survey.{tree_in, surveyed}
use Rattle.report_model.specs.TreeText.{tree_text}
use Rattle.program_model.specs.Printed.{printed, too_long}
use Rattle.tree_program_model.specs.declared.Arguments.{Arguments}

-- the value of an argument; 0 where it is missing or no number
abbrev pub value_of : Option ℕ → ℕ
value_of n = unwrap_or n 0

-- LOSS, a seventh argument: 0 where it is not given
unfoldable pub loss_in : Arguments → Option ℕ
loss_in a = cond (ltb 6 a.count) a.loss (Some 0)

-- number 2: "value unreadable or missing", at document 01's columns, as 3 and 4 have them; "text after the last", one argument more
abbrev pub unread : Option ℕ → ℕ → Condition Refusal
unread n column = condition (is_none n) (Unreadable column)

unfoldable pub arguments_read : Arguments → List (Condition Refusal)
arguments_read a =
    unread a.bo 1 ∷ unread a.so 2 ∷ unread a.head 10 ∷ unread a.payload 11 ∷ unread a.ack 12
    ∷ unread (loss_in a) 13
    ∷ condition (ltb 7 a.count) (TextAfter 14) ∷ []

-- the settings beside, and the sink's node: number 0 is none, so that a sink that is missing or no number is refused with 10
unfoldable pub radio_of : Arguments → Radio
radio_of a = radio (value_of a.bo) (value_of a.so) (value_of a.head) (value_of a.payload) (value_of a.ack) (value_of (loss_in a))

unfoldable pub sink_of : Arguments → ℕ
sink_of a = value_of a.sink

-- number 9 "comes before all others"; of these 10 is "before all others"; 2 comes before 3 as in document 01's table
unfoldable pub argument_conditions : Arguments → List ℕ → List (Condition Refusal)
argument_conditions a input = too_long input ++ surveyed input (sink_of a) ++ arguments_read a

-- then numbers 3 to 7, or the plan
unfoldable pub call_outcome : Arguments → List ℕ → TreeOutcome
call_outcome a input =
    first_broken Refused (Planned (lines (radio_of a) (tree_in input) (sink_of a)))
    (argument_conditions a input ++ conditions (radio_of a) (tree_in input) (sink_of a))

-- what is printed: the plan's text, or `R`, number and place of the first refusal
unfoldable pub tree_output : Arguments → List ℕ → List ℕ
tree_output a input = printed tree_text (call_outcome a input)
