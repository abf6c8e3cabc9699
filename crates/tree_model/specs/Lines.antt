-- The lines of a surveyed tree's plan (document 02, E3). `b` are the settings beside. Assumes nothing: these are definitions.
use Rattle.std.specs.Prelude.{ℕ, zero, suc, ◌+◌, cond, List, [], ◌∷◌, eqb}
use Rattle.measure.specs.declared.Symbols.{Symbols}
use Rattle.measure.specs.Measures.{symbols, slots, frames, whole_frames}
use Rattle.links.specs.declared.Load.{Load}
use Rattle.links.specs.declared.Figures.{Figures}
use Rattle.links.specs.Link.{figures_of}
use Rattle.network.specs.Counting.{join}
use Rattle.settings_model.specs.declared.Radio.{Radio}
use Rattle.plan_model.specs.Times.{timing_of}
use Rattle.plan_model.specs.Lines.{no_figures, line}
use Rattle.plan_model.specs.declared.NodeLine.{NodeLine}
use Rattle.tree_model.specs.Tree.{Tree, is_listed}
use Rattle.tree_model.specs.Ways.{next, kind_of, depth_of}
use Rattle.tree_model.specs.Loads.{steps, entering}

-- the load that enters a node
unfoldable pub load_at : Radio → Tree → ℕ → ℕ → Load
load_at b t sink v = entering (timing_of b) t sink v

-- the figures of a node's link: "Links with rate 0 get no reservation, and zeros after DEPTH"
unfoldable pub link_at : Radio → Tree → ℕ → ℕ → Figures
link_at b t sink v = cond (eqb (load_at b t sink v).rate.0 0) no_figures (figures_of (timing_of b) (load_at b t sink v))

-- the sink's figures: as on document 01's line S, but "the sink's DELAY and ROUTE are 0"
unfoldable pub sink_figures : Radio → Tree → ℕ → Figures
sink_figures b t sink = record {
  rate = (load_at b t sink sink).rate;
  burst = (load_at b t sink sink).burst;
  slots = slots 0;
  frames = frames 0;
  latency = symbols 0;
  buffer = whole_frames (load_at b t sink sink).burst (timing_of b).interval;
  delay = symbols 0;
}

unfoldable pub figures_at : Radio → Tree → ℕ → ℕ → Figures
figures_at b t sink v = cond (eqb v sink) (sink_figures b t sink) (link_at b t sink v)

-- the delays of the links from node v to the sink together, of which `delay` is each node's; k bounds the links
unfoldable pub way_delay : ℕ → (ℕ → ℕ) → Tree → ℕ → ℕ → ℕ
way_delay zero delay t sink v = 0
way_delay (suc k) delay t sink v = cond (eqb v sink) 0 (delay v + way_delay k delay t sink (next t sink v))

-- "ROUTE is its frames' delay over its route": of a node that has traffic; 0 where its link has rate 0
unfoldable pub route_at : Radio → Tree → ℕ → ℕ → Symbols
route_at b t sink v = symbols (cond (eqb (load_at b t sink v).rate.0 0) 0 (way_delay (steps t) (λ u. (link_at b t sink u).delay.0) t sink v))

-- "a line per node, in node order, gives these columns"
unfoldable pub line_at : Radio → Tree → ℕ → ℕ → NodeLine
line_at b t sink v = record { line = line (kind_of t sink v) (depth_of t v) (figures_at b t sink v); route = route_at b t sink v }

-- of nodes that are listed: none for a gap, nor for a branch planned apart
unfoldable pub lines : Radio → Tree → ℕ → List NodeLine
lines b t sink = join t.nodes (λ i. cond (is_listed t (suc i)) (line_at b t sink (suc i) ∷ []) [])
