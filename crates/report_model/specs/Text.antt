-- The printed plan (document 01, 'The printed plan'). Assumes nothing: these are definitions.
use Rattle.std.specs.Prelude.{ℕ, List, [], ◌∷◌, map}
use Rattle.decimal_model.specs.Ascii.{ascii}
use Rattle.decimal_model.specs.Decimal.{decimal}
use Rattle.lines.specs.Text.{joined, ended}
use Rattle.refusals.specs.declared.Refusal.{Refusal}
use Rattle.refusals.specs.Refusals.{number_of, place_of}
use Rattle.plan_model.specs.declared.Line.{Line}
use Rattle.plan_model.specs.Lines.{letter}

-- the header line
unfoldable pub header : List ℕ
header = ascii "KIND DEPTH RATE BURST SLOTS FRAMES LATENCY BUFFER DELAY"

-- the numbers of a line, in the columns' order behind KIND
unfoldable pub numbers : Line → List ℕ
numbers l =
    l.depth
    ∷ l.figures.rate.0
    ∷ l.figures.burst.0
    ∷ l.figures.slots.0
    ∷ l.figures.frames.0
    ∷ l.figures.latency.0
    ∷ l.figures.buffer.0
    ∷ l.figures.delay.0
    ∷ []

-- a line: KIND's letter and the numbers in decimal, one space between
unfoldable pub line_text : Line → List ℕ
line_text l = joined ((letter l.kind ∷ []) ∷ map decimal (numbers l))

-- a plan: "Each row's plan begins with its own header line"
unfoldable pub text : List Line → List ℕ
text p = ended (header ∷ map line_text p)

-- a refusal: "`R`, number and place instead, as `R 7 0`"
unfoldable pub refusal_text : Refusal → List ℕ
refusal_text r = ended (joined (ascii "R" ∷ decimal (number_of r) ∷ decimal (place_of r) ∷ []) ∷ [])
