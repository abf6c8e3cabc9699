-- What the entries for C that plan surveyed trees answer and leave (document 02, E3): from bytes to bytes. `b` are the settings beside.
-- Assumes nothing: these are definitions.
use Rattle.std.specs.Prelude.{ℕ, List, ◌++◌, Result, Ok, Err}
use Rattle.decimal_model.specs.Ascii.{ascii}
use Rattle.refusals.specs.declared.Refusal.{Refusal}
use Rattle.settings_model.specs.declared.Radio.{Radio}
use Rattle.tree_model.specs.Lines.{lines}
use Rattle.tree_model.specs.Checks.{conditions}
use Rattle.tree_read_model.specs.Survey.{tree_in, surveyed, outcome_in}
use Rattle.report_model.specs.TreeText.{tree_text}
use Rattle.reason_model.specs.Reasons.{reason}
use Rattle.plan_model.specs.Plans.{answer}
use Rattle.calls_model.specs.declared.Answer.{Answer}
use Rattle.calls_model.specs.Calls.{answer_to, Left, leaves}
use Rattle.calls_model.specs.Reasons.{line_left}

-- the entry that writes: from the text's and the lent buffer's bytes to the answer and the buffer's bytes. Number 10, then 3 to 7, then 8.
unfoldable pub plan_tree : List ℕ → Radio → ℕ → List ℕ → Left
plan_tree nodes b sink before = leaves tree_text (lines b (tree_in nodes) sink) (surveyed nodes sink ++ conditions b (tree_in nodes) sink) before

-- the entry that writes nothing: 10 and 3 to 7
unfoldable pub check_tree : List ℕ → Radio → ℕ → Answer
check_tree nodes b sink = answer_to tree_text (outcome_in nodes b sink)

-- the line of a tree that is refused, or planned
unfoldable pub tree_verdict_line : Result ℕ Refusal → List ℕ
tree_verdict_line (Ok n) = ascii "The tree is planned."
tree_verdict_line (Err r) = reason r

-- the entry that puts this line: it answers number and place of the refusal, 0 and 0 where the tree is planned
unfoldable pub explain_tree : List ℕ → Radio → ℕ → List ℕ → Left
explain_tree nodes b sink before =
    line_left (check_tree nodes b sink).number (check_tree nodes b sink).place (tree_verdict_line (answer tree_text (outcome_in nodes b sink))) before
