-- The lines of the plan (document 01, 'The printed plan'). Assumes nothing: these are definitions.
use Rattle.std.specs.Prelude.{ℕ, zero, suc, ◌+◌, cond, ◌&&◌, List, [], ◌∷◌, ◌++◌, eqb, ltb}
use Rattle.measure.specs.declared.Symbols.{Symbols}
use Rattle.measure.specs.Measures.{symbols, slots, frames, whole_frames}
use Rattle.links.specs.declared.Load.{Load}
use Rattle.links.specs.declared.Figures.{Figures}
use Rattle.links.specs.Link.{figures_of}
use Rattle.network.specs.Counting.{total, join}
use Rattle.settings_model.specs.declared.Settings.{Settings}
use Rattle.plan_model.specs.Lines.{line, same_kind, no_figures}
use Rattle.plan_model.specs.declared.Kind.{Kind}
use Rattle.plan_model.specs.declared.Kind.TheVariants.{EndNode, Upward, Downward, Sink}
use Rattle.plan_model.specs.declared.Line.{Line}
use Rattle.row_model.specs.Times.{row_timing}
use Rattle.row_model.specs.Loads.{sensor, upward, downward, at_sink}

-- the figures of the link that a load enters
unfoldable pub link_for : Settings → Load → Figures
link_for s a = figures_of (row_timing s) a

-- "E is an end node's link", "U the upward link of a router at that depth", "D the downward link from that depth"
unfoldable pub end_link : Settings → Figures
end_link s = link_for s (sensor s)

unfoldable pub up_link : Settings → ℕ → Figures
up_link s i = link_for s (upward s i)

unfoldable pub down_link : Settings → ℕ → Figures
down_link s i = link_for s (downward s i)

-- "Total delay: the end node's delay (0 if NE = 0), all upward delays for depths H to 1, and all downward delays for depths 0 to
-- SINK − 1."
unfoldable pub total_delay : Settings → Symbols
total_delay s = symbols (cond (ltb 0 s.ne) (end_link s).delay.0 0
    + total (λ i. (up_link s (suc i)).delay.0) s.h
    + total (λ i. (down_link s i).delay.0) s.sink)

-- "On line S, BUFFER is BURST / BI rounded up (the burst in frames, no bound on a queue), DELAY is the total, and SLOTS, FRAMES and
-- LATENCY are 0."
unfoldable pub sink_figures : Settings → Figures
sink_figures s = record {
  rate = (at_sink s).rate;
  burst = (at_sink s).burst;
  slots = slots 0;
  frames = frames 0;
  latency = symbols 0;
  buffer = whole_frames (at_sink s).burst (row_timing s).interval;
  delay = total_delay s;
}

-- "DEPTH always 0; no such line if NE = 0"
unfoldable pub end_lines : Settings → List Line
end_lines s = cond (ltb 0 s.ne) (line EndNode 0 (end_link s) ∷ []) []

-- from depth n down to 1
unfoldable pub up_lines : Settings → ℕ → List Line
up_lines s zero = []
up_lines s (suc i) = line Upward (suc i) (up_link s (suc i)) ∷ up_lines s i

-- from depth 0 up, n of them
unfoldable pub down_lines : Settings → ℕ → List Line
down_lines s n = join n (λ i. line Downward i (down_link s i) ∷ [])

-- the plan: E, U from H down to 1, D from 0 up, S
unfoldable pub lines : Settings → List Line
lines s = end_lines s ++ up_lines s s.h ++ down_lines s s.sink ++ line Sink s.sink (sink_figures s) ∷ []

-- ---- reading the lines

-- the figures of the first line of that kind and depth
unfoldable pub figures_at : Kind → ℕ → List Line → Figures
figures_at k d [] = no_figures
figures_at k d (l ∷ ls) = cond (same_kind l.kind k && eqb l.depth d) l.figures (figures_at k d ls)
