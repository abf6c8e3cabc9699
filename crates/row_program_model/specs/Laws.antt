-- What holds of an input's output and of its steps, for a program that takes them. Assumes nothing: these are statements; proofs/LawsHold and WithoutLoss prove them.
use Rattle.std.specs.Prelude.{ℕ, suc, ◌-◌, ◌≤◌, ◌<◌, ◌≡◌, Bool, true, ◌&&◌, List, [], ◌∷◌, map, eqb, length, drop, Some}
use Rattle.decimal_model.specs.Ascii.{ascii}
use Rattle.lines.specs.Text.{fields, lines, ended}
use Rattle.lines.specs.Laws.{all_lack}
use Rattle.refusals.specs.Conditions.{first_broken}
use Rattle.settings_model.specs.Columns.{twelve, every_column}
use Rattle.row_read_model.specs.declared.Heading.{Heading}
use Rattle.row_read_model.specs.declared.Heading.TheVariants.{Twelve, Thirteen}
use Rattle.row_read_model.specs.Names.{name_line}
use Rattle.row_read_model.specs.Rows.{headed}
use Rattle.row_read_model.specs.Laws.{with_zero}
use Rattle.plan_model.specs.Plans.{answer}
use Rattle.row_answer_model.specs.Outcomes.{row_outcome}
use Rattle.report_model.specs.Text.{text}
use Rattle.reason_model.specs.Reasons.{verdict_line}
use Rattle.row_program_model.specs.declared.Style.{Style}
use Rattle.row_program_model.specs.declared.Style.TheVariants.{Plans, Reasons}
use Rattle.row_program_model.specs.declared.Progress.{Progress}
use Rattle.row_program_model.specs.declared.Progress.TheVariants.{Start, Rows}
use Rattle.row_program_model.specs.Output.{refusal_printed, rows_printed, heading_in, output}
use Rattle.row_program_model.specs.Steps.{Step, step, printed_from}

-- over 65,536 bytes one line is all, whatever they are
abbrev pub LongInputs : Type 0
LongInputs =
    (input : List ℕ) → 65536 < length input
    → (output Plans input ≡ ascii "R 9 0\n") × (output Reasons input ≡ ascii "The input is over 65,536 bytes.\n")

-- up to 65,536 bytes their number decides nothing: the names and the rows do
abbrev pub OtherInputs : Type 0
OtherInputs =
    (s : Style) (input : List ℕ) → length input ≤ 65536
    → output s input ≡ first_broken (refusal_printed s) (rows_printed s (heading_in input) (drop 1 (lines input))) (headed (heading_in input))

-- reasons are one line for each row, in the rows' order: that it is planned, or why it is refused
abbrev pub OneLineForRow : Type 0
OneLineForRow = (heading : Heading) (rows : List (List ℕ))
    → rows_printed Reasons heading rows ≡ ended (map (λ (r : List ℕ). verdict_line (answer text (row_outcome heading r))) rows)

-- rows of twelve values each
unfoldable pub all_twelve : List (List ℕ) → Bool
all_twelve [] = true
all_twelve (r ∷ rs) = eqb (length (fields r)) 12 && all_twelve rs

-- E5: "A name line of 12 names still stands for LOSS 0." Rows of twelve values under 12 names, and the same rows with LOSS 0 under 13 names, print
-- the same; so do the inputs that have them, as long as neither is over 65,536 bytes
pub record SameWithoutLoss : Type 0 where
  pub rows : (s : Style) (rows : List (List ℕ)) → all_twelve rows ≡ true → rows_printed s Thirteen (map with_zero rows) ≡ rows_printed s Twelve rows
  pub inputs : (s : Style) (rows : List (List ℕ)) → all_twelve rows ≡ true → all_lack 10 rows ≡ true
      → length (ended (name_line every_column ∷ map with_zero rows)) ≤ 65536
      → output s (ended (name_line every_column ∷ map with_zero rows)) ≡ output s (ended (name_line twelve ∷ rows))

-- what is left: the bytes behind a position, and one step before the first row
unfoldable pub to_go : List ℕ → Progress → ℕ
to_go input Start = suc (length input)
to_go input (Rows heading at) = length input - at

-- the steps end
abbrev pub StepsEnd : Type 0
StepsEnd = (s : Style) (input : List ℕ) (p : Progress) (t : Step) → step s input p ≡ Some t → to_go input t.next < to_go input p

-- the pieces of all steps, one behind another, are the output
abbrev pub StepsPrintAll : Type 0
StepsPrintAll = (s : Style) (input : List ℕ) (n : ℕ) → to_go input Start < n → printed_from s n input Start ≡ output s input
