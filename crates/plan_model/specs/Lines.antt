-- A line of a plan (document 01, 'The printed plan'). Assumes nothing: these are definitions.
use Rattle.std.specs.Prelude.{ℕ, Bool, List, [], ◌∷◌, eqb}
use Rattle.measure.specs.Measures.{symbols, slots, frames, frame_symbols, per_interval}
use Rattle.links.specs.declared.Figures.{Figures}
use Rattle.plan_model.specs.declared.Kind.{Kind}
use Rattle.plan_model.specs.declared.Kind.TheVariants.{EndNode, Upward, Downward, Sink}
use Rattle.plan_model.specs.declared.Line.{Line}

-- KIND's letter: E, U, D, S
unfoldable pub letter : Kind → ℕ
letter EndNode = 69
letter Upward = 85
letter Downward = 68
letter Sink = 83

-- two kinds are the same where their letters are
unfoldable pub same_kind : Kind → Kind → Bool
same_kind a b = eqb (letter a) (letter b)

abbrev pub line : Kind → ℕ → Figures → Line
line k d f = record { kind = k; depth = d; figures = f }

-- the figures of a line that is not there, and of a link without traffic
unfoldable pub no_figures : Figures
no_figures = record {
  rate = per_interval 0;
  burst = frame_symbols 0;
  slots = slots 0;
  frames = frames 0;
  latency = symbols 0;
  buffer = frames 0;
  delay = symbols 0;
}

-- a line's nine columns as numbers: KIND's letter, DEPTH, RATE, BURST, SLOTS, FRAMES, LATENCY, BUFFER, DELAY
unfoldable pub columns : Line → List ℕ
columns l =
    letter l.kind ∷ l.depth ∷ l.figures.rate.0 ∷ l.figures.burst.0 ∷ l.figures.slots.0 ∷ l.figures.frames.0
    ∷ l.figures.latency.0 ∷ l.figures.buffer.0 ∷ l.figures.delay.0 ∷ []
