-- What is printed for a whole input (document 01, 'The printed plan' and 'Rows of settings'). Assumes nothing: these are definitions.
use Rattle.std.specs.Prelude.{ℕ, List, [], ◌∷◌, ◌++◌, length, get_or, drop, Ok, Err}
use Rattle.lines.specs.Text.{lines, ended}
use Rattle.refusals.specs.declared.Refusal.{Refusal}
use Rattle.refusals.specs.Conditions.{Condition, first_broken}
use Rattle.row_read_model.specs.declared.Heading.{Heading}
use Rattle.row_read_model.specs.Names.{heading_of}
use Rattle.row_read_model.specs.Rows.{headed}
use Rattle.refusals.specs.Outcome.{Planned, Refused}
use Rattle.row_model.specs.Outcome.{RowOutcome}
use Rattle.row_answer_model.specs.Outcomes.{row_outcome}
use Rattle.report_model.specs.Text.{text}
use Rattle.program_model.specs.Printed as program
use Rattle.program_model.specs.Printed.{too_long}
use Rattle.reason_model.specs.Reasons.{verdict_line}
use Rattle.row_program_model.specs.declared.Style.{Style}
use Rattle.row_program_model.specs.declared.Style.TheVariants.{Plans, Reasons}

-- what is printed for a row. Plans: its plan; "A refused row prints `R`, number and place instead". Reasons (document 02, E1): one line
-- of English, that it is planned or why it is refused.
unfoldable pub printed : Style → RowOutcome → List ℕ
printed Plans o = program.printed text o
printed Reasons (Planned p) = ended (verdict_line (Ok (length (text p))) ∷ [])
printed Reasons (Refused r) = ended (verdict_line {A = ℕ} (Err r) ∷ [])

-- and for a refusal
abbrev pub refusal_printed : Style → Refusal → List ℕ
refusal_printed s r = printed s (Refused r)

-- rows under a line of names, one behind another: "after another refusal the next row is taken"
unfoldable pub rows_printed : Style → Heading → List (List ℕ) → List ℕ
rows_printed s heading [] = []
rows_printed s heading (r ∷ rs) = printed s (row_outcome heading r) ++ rows_printed s heading rs

-- which line of names the first line is. An input without a line has none.
unfoldable pub heading_in : List ℕ → Heading
heading_in input = heading_of (get_or (lines input) 0 [])

-- numbers 9 and 1, in this order: "Number 9 [..] comes before all others"
unfoldable pub input_conditions : List ℕ → List (Condition Refusal)
input_conditions input = too_long input ++ headed (heading_in input)

-- all that is printed: "After 1 or 9 one `R` line is all", else the rows behind the name line
unfoldable pub output : Style → List ℕ → List ℕ
output s input = first_broken (refusal_printed s) (rows_printed s (heading_in input) (drop 1 (lines input))) (input_conditions input)
