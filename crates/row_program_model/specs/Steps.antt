-- The output piece by piece, as a program writes it. Assumes nothing: these are definitions.
use Rattle.std.specs.Prelude.{ℕ, zero, suc, List, [], ◌++◌, length, Option, Some, None}
use Rattle.lines.specs.declared.Line.{Line}
use Rattle.lines.specs.Text.{line_at, part_of}
use Rattle.refusals.specs.Conditions.{first_broken}
use Rattle.row_answer_model.specs.Outcomes.{row_outcome}
use Rattle.row_read_model.specs.declared.Heading.{Heading}
use Rattle.row_program_model.specs.declared.Style.{Style}
use Rattle.row_program_model.specs.declared.Progress.{Progress}
use Rattle.row_program_model.specs.declared.Progress.TheVariants.{Start, Rows}
use Rattle.row_program_model.specs.declared.Piece.{Piece}
use Rattle.row_program_model.specs.Output.{printed, refusal_printed, heading_in, input_conditions}

-- a step: what is printed, and how it goes on behind it
pub record Step : Type 0 where
  pub bytes : List ℕ
  pub next : Progress

-- the position behind a line; the front where there is none
unfoldable pub behind : Option Line → ℕ
behind (Some l) = l.next.at
behind None = 0

-- the first step: the refusal of the input, behind which nothing follows, or the name line, for which nothing is printed
unfoldable pub opening : Style → List ℕ → Step
opening s input = record {
  bytes = first_broken (refusal_printed s) [] (input_conditions input);
  next = Rows (heading_in input) (first_broken (λ r. length input) (behind (line_at input 0)) (input_conditions input));
}

-- a further step: the row whose line was found; none where no line was
unfoldable pub row_at : Style → Heading → List ℕ → Option Line → Option Step
row_at s heading input (Some l) = Some (record {
  bytes = printed s (row_outcome heading (part_of input l.start l.end));
  next = Rows heading l.next.at;
})
row_at s heading input None = None

-- the next step; none where all was printed
unfoldable pub step : Style → List ℕ → Progress → Option Step
step s input Start = Some (opening s input)
step s input (Rows heading at) = row_at s heading input (line_at input at)

-- what a step prints: nothing where there is none
unfoldable pub put : Option Step → List ℕ
put (Some s) = s.bytes
put None = []

-- the answer to a step
unfoldable pub piece : Option Step → Option Piece
piece (Some s) = Some (record { length = length s.bytes; next = s.next })
piece None = None

-- what a step prints, and behind it what is printed from there on; nothing where there is no step
unfoldable pub followed : Option Step → (Progress → List ℕ) → List ℕ
followed (Some s) rest = s.bytes ++ rest s.next
followed None rest = []

-- what is printed in at most n steps
unfoldable pub printed_from : Style → ℕ → List ℕ → Progress → List ℕ
printed_from s zero input p = []
printed_from s (suc n) input p = followed (step s input p) (λ q. printed_from s n input q)
