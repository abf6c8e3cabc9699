-- Demand 3 of a surveyed tree and its printed lines: what holds in every run of it (document 01, 'The run'; document 02, E3: "Every promise
-- made for the balanced tree holds for this tree itself, with the largest ROUTE as its delay and each node's own bucket"). It reads the
-- printed figures alone: SLOTS, BUFFER and ROUTE of each node's line, and RATE and BURST of the sink's. Assumes nothing: these are
-- definitions.
use Rattle.std.specs.Prelude.{List, [], ◌∷◌, ℕ, suc, ◌-◌, max, get_or}
use Rattle.measure.specs.declared.Symbols.{Symbols}
use Rattle.measure.specs.Measures.{symbols}
use Rattle.links.specs.declared.Figures.{Figures}
use Rattle.network.specs.Model.{Network, State}
use Rattle.network.specs.Readings.{Reading}
use Rattle.promise_model.specs.Promise as promise
use Rattle.promise_model.specs.Promise.{Site, Printed}
use Rattle.settings_model.specs.declared.Radio.{Radio}
use Rattle.plan_model.specs.declared.Kind.TheVariants.{EndNode}
use Rattle.plan_model.specs.declared.NodeLine.{NodeLine}
use Rattle.plan_model.specs.Times.{timing_of}
use Rattle.plan_model.specs.Lines.{no_figures, line}
use Rattle.tree_model.specs.Tree.{Tree}
use Rattle.tree_model.specs.Ways.{next}

-- ---- numbers

-- The run counts nodes from 0, a list from 1: node i of the run is node i + 1 of the list, and the other way round.
abbrev pub in_list : ℕ → ℕ
in_list i = suc i

abbrev pub in_run : ℕ → ℕ
in_run v = v - 1

-- ---- the printed lines

-- a line that is not there
unfoldable pub no_line : NodeLine
no_line = record { line = line EndNode 0 no_figures; route = symbols 0 }

-- the figures and ROUTE of node i of the run: lines are in node order
unfoldable pub figures_in : List NodeLine → ℕ → Figures
figures_in p i = (get_or p i no_line).line.figures

unfoldable pub route_in : List NodeLine → ℕ → Symbols
route_in p i = (get_or p i no_line).route

-- "the largest ROUTE"
unfoldable pub longest : List NodeLine → ℕ
longest [] = 0
longest (l ∷ ls) = max l.route.0 (longest ls)

-- ---- what is there, and what is printed for it

-- the tree: its nodes, and each node's own BURST and RATE
unfoldable pub site_of : Tree → ℕ → Site
site_of t sink = record {
  nodes = t.nodes;
  sink = in_run sink;
  next = λ i. in_run (next t sink (in_list i));
  burst = λ i. t.burst (in_list i);
  rate = λ i. t.rate (in_list i);
}

-- SLOTS and BUFFER of a node's line, the ROUTE of the node that made a frame, and BURST and RATE of the sink's line. That no ROUTE is above
-- the largest, so that the largest is promised to every frame, is `LargestRouteHolds` (specs/Laws).
unfoldable pub printed_of : List NodeLine → ℕ → Printed
printed_of p sink = record {
  slots = λ i. (figures_in p i).slots;
  buffer = λ i. (figures_in p i).buffer;
  delay = λ o. route_in p o;
  burst = (figures_in p (in_run sink)).burst;
  rate = (figures_in p (in_run sink)).rate;
}

-- ---- the promise, part by part

abbrev pub network_of : Radio → List NodeLine → Tree → ℕ → (ℕ → ℕ) → Network
network_of b p t sink offset = promise.network_of (timing_of b) (site_of t sink) (printed_of p sink) offset

abbrev pub Windows : Radio → List NodeLine → Tree → ℕ → (ℕ → ℕ) → Type 0
Windows b p t sink offset = promise.Windows (timing_of b) (site_of t sink) (printed_of p sink) offset

abbrev pub Readings : Radio → Tree → ℕ → List Reading → Type 0
Readings b t sink l = promise.Readings (timing_of b) (site_of t sink) l

abbrev pub Held : List NodeLine → ℕ → Network → List Reading → ℕ → State → Type 0
Held p sink N l u now = promise.Held (printed_of p sink) N l u now

abbrev pub Keeps : Radio → Tree → ℕ → List NodeLine → Type 0
Keeps b t sink p = promise.Keeps (timing_of b) (site_of t sink) (printed_of p sink)
