-- A plan's lines as numbers in a table: nine for each line, in the columns' order. Assumes nothing: these are definitions.
use Rattle.std.specs.Prelude.{cond, List, [], ◌∷◌, ◌++◌, ℕ, ◌+◌, ◌*◌, eqb, get_or}
use Rattle.measure.specs.Measures.{symbols, slots, frames, frame_symbols, per_interval}
use Rattle.network.specs.Counting.{join}
use Rattle.plan_model.specs.declared.Kind.{Kind}
use Rattle.plan_model.specs.declared.Kind.TheVariants.{EndNode, Upward, Downward, Sink}
use Rattle.plan_model.specs.declared.Line.{Line}
use Rattle.plan_model.specs.Lines.{line}

-- KIND as a number, and any number as KIND
unfoldable pub code_of : Kind → ℕ
code_of EndNode = 0
code_of Upward = 1
code_of Downward = 2
code_of Sink = 3

unfoldable pub kind_from : ℕ → Kind
kind_from n = cond (eqb n 0) EndNode (cond (eqb n 1) Upward (cond (eqb n 2) Downward Sink))

-- a line's numbers: KIND, DEPTH, and the seven figures
unfoldable pub numbers_of : Line → List ℕ
numbers_of l =
    code_of l.kind
    ∷ l.depth
    ∷ l.figures.rate.0
    ∷ l.figures.burst.0
    ∷ l.figures.slots.0
    ∷ l.figures.frames.0
    ∷ l.figures.latency.0
    ∷ l.figures.buffer.0
    ∷ l.figures.delay.0
    ∷ []

-- the line whose numbers stand at a position, whatever they are; behind a table's end they are 0
unfoldable pub line_in : List ℕ → ℕ → Line
line_in ns at = line (kind_from (get_or ns at 0)) (get_or ns (at + 1) 0) (record {
  rate = per_interval (get_or ns (at + 2) 0);
  burst = frame_symbols (get_or ns (at + 3) 0);
  slots = slots (get_or ns (at + 4) 0);
  frames = frames (get_or ns (at + 5) 0);
  latency = symbols (get_or ns (at + 6) 0);
  buffer = frames (get_or ns (at + 7) 0);
  delay = symbols (get_or ns (at + 8) 0);
})

-- the numbers of many lines of any sort, one line behind another
unfoldable pub rows_of : {A : Type 0} → (A → List ℕ) → List A → List ℕ
rows_of numbers [] = []
rows_of numbers (l ∷ ls) = numbers l ++ rows_of numbers ls

-- and the first n lines that stand in a table, `width` numbers for each
unfoldable pub rows_in : {A : Type 0} → ℕ → (List ℕ → ℕ → A) → List ℕ → ℕ → List A
rows_in width read ns n = join n (λ i. read ns (width * i) ∷ [])

-- a row's plan, its lines one behind another, and the first n lines that stand in a table
abbrev pub row_table : List Line → List ℕ
row_table p = rows_of numbers_of p

abbrev pub lines_in : List ℕ → ℕ → List Line
lines_in ns n = rows_in 9 line_in ns n
