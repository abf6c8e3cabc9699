-- A printed line, a plan's text and refusals' lines, computed in one table. Assumes nothing.
use Rattle.std.specs.Prelude.{◌≡◌, [], ◌∷◌}
use Rattle.decimal_model.specs.Ascii.{ascii}
use Rattle.refusals.specs.declared.Refusal.TheVariants.{Names, TextAfter, LentTooShort, InputTooLong, InTree}
use Rattle.refusals.specs.declared.TreeRefusal.TheVariants.{NodeLine as BrokenLine, SinkNode, RouterReservations, RouterSlots}
use Rattle.plan_model.specs.declared.Kind.{Kind}
use Rattle.plan_model.specs.declared.Kind.TheVariants.{EndNode, Upward, Downward, Sink}
use Rattle.plan_model.specs.declared.Line.{Line}
use Rattle.plan_model.specs.Lines.{line}
use Rattle.measure.specs.Measures.{symbols, slots, frames, frame_symbols, per_interval}
use Rattle.plan_model.specs.declared.NodeLine.{NodeLine}
use Rattle.report_model.specs.Text.{line_text, text, refusal_text}
use Rattle.report_model.specs.TreeText.{node_text, tree_text}

-- a line whose columns all differ
unfoldable pub counted : Kind → Line
counted k = line k 2 (record {
  rate = per_interval 3;
  burst = frame_symbols 40;
  slots = slots 5;
  frames = frames 60;
  latency = symbols 700;
  buffer = frames 8;
  delay = symbols 9000;
})

-- and a node's line with such a one
unfoldable pub routed : Kind → NodeLine
routed k = record { line = counted k; route = symbols 10000 }

pub record Examples : Type 0 where
  pub end_node : line_text (counted EndNode) ≡ ascii "E 2 3 40 5 60 700 8 9000"
  pub upward : line_text (counted Upward) ≡ ascii "U 2 3 40 5 60 700 8 9000"
  pub downward : line_text (counted Downward) ≡ ascii "D 2 3 40 5 60 700 8 9000"
  pub sink : line_text (counted Sink) ≡ ascii "S 2 3 40 5 60 700 8 9000"
  pub no_lines : text [] ≡ ascii "KIND DEPTH RATE BURST SLOTS FRAMES LATENCY BUFFER DELAY\n"
  pub plan : text (counted Upward ∷ counted Sink ∷ [])
      ≡ ascii "KIND DEPTH RATE BURST SLOTS FRAMES LATENCY BUFFER DELAY\nU 2 3 40 5 60 700 8 9000\nS 2 3 40 5 60 700 8 9000\n"
  pub names : refusal_text Names ≡ ascii "R 1 0\n"
  pub behind : refusal_text (TextAfter 13) ≡ ascii "R 2 13\n"
  pub short : refusal_text LentTooShort ≡ ascii "R 8 0\n"
  pub long : refusal_text InputTooLong ≡ ascii "R 9 0\n"
  -- surveyed trees
  pub node : node_text (routed Downward) ≡ ascii "D 2 3 40 5 60 700 8 9000 10000"
  pub no_nodes : tree_text [] ≡ ascii "KIND DEPTH RATE BURST SLOTS FRAMES LATENCY BUFFER DELAY ROUTE\n"
  pub tree : tree_text (routed Sink ∷ routed EndNode ∷ [])
      ≡ ascii "KIND DEPTH RATE BURST SLOTS FRAMES LATENCY BUFFER DELAY ROUTE\nS 2 3 40 5 60 700 8 9000 10000\nE 2 3 40 5 60 700 8 9000 10000\n"
  pub broken_line : refusal_text (InTree (BrokenLine 17)) ≡ ascii "R 10 17\n"
  pub no_sink : refusal_text (InTree SinkNode) ≡ ascii "R 10 0\n"
  pub full_router : refusal_text (InTree (RouterReservations 254 8)) ≡ ascii "R 5 254\n"
  pub busy_router : refusal_text (InTree (RouterSlots 2 (slots 9) (slots 7))) ≡ ascii "R 7 2\n"
