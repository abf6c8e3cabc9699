-- Demand 3 of a row and its printed lines: what holds in every run of every tree within the row (document 01, 'The run'). It reads the
-- printed figures alone: SLOTS and BUFFER of each link's line, and RATE, BURST and DELAY of line S. Assumes nothing: these are definitions.
use Rattle.std.specs.Prelude.{Bool, cond, not, ◌||◌, List, ℕ, eqb}
use Rattle.network.specs.Model.{Network, State}
use Rattle.network.specs.Readings.{Reading}
use Rattle.promise_model.specs.Promise as promise
use Rattle.promise_model.specs.Promise.{Site, Printed}
use Rattle.links.specs.declared.Figures.{Figures}
use Rattle.settings_model.specs.declared.Settings.{Settings}
use Rattle.plan_model.specs.declared.Kind.TheVariants.{Sink}
use Rattle.plan_model.specs.declared.Line.{Line}
use Rattle.row_model.specs.Times.{row_timing}
use Rattle.row_model.specs.Lines.{figures_at}
use Rattle.row_model.specs.Tree.{Tree, Within, towards, line_of}

-- "Every end node senses; routers sense too where OWN is 1."
unfoldable pub senses : Settings → Tree → ℕ → Bool
senses s T v = not (T.is_router v) || eqb s.own 1

-- a tree within the row: its nodes, and the row's BURST and RATE for each that senses
unfoldable pub site_of : Settings → Tree → Site
site_of s T = record {
  nodes = T.nodes;
  sink = T.sink;
  next = towards T;
  burst = λ v. cond (senses s T v) s.burst 0;
  rate = λ v. cond (senses s T v) s.rate 0;
}

-- line S of the plan
unfoldable pub sink_line : Settings → List Line → Figures
sink_line s p = figures_at Sink s.sink p

-- what is printed for it: SLOTS and BUFFER of a link's line, and of line S the delay that is promised to every frame, BURST and RATE
unfoldable pub printed_of : Settings → List Line → Tree → Printed
printed_of s p T = record {
  slots = λ v. (line_of T p v).slots;
  buffer = λ v. (line_of T p v).buffer;
  delay = λ o. (sink_line s p).delay;
  burst = (sink_line s p).burst;
  rate = (sink_line s p).rate;
}

-- the promise of a tree within the row, part by part
abbrev pub network_of : Settings → List Line → Tree → (ℕ → ℕ) → Network
network_of s p T offset = promise.network_of (row_timing s) (site_of s T) (printed_of s p T) offset

abbrev pub Windows : Settings → List Line → Tree → (ℕ → ℕ) → Type 0
Windows s p T offset = promise.Windows (row_timing s) (site_of s T) (printed_of s p T) offset

abbrev pub Readings : Settings → Tree → List Reading → Type 0
Readings s T l = promise.Readings (row_timing s) (site_of s T) l

abbrev pub Held : Settings → List Line → Tree → Network → List Reading → ℕ → State → Type 0
Held s p T N l u now = promise.Held (printed_of s p T) N l u now

-- For every tree within the row it is kept.
abbrev pub Keeps : Settings → List Line → Type 0
Keeps s p = (T : Tree) → Within s T → promise.Keeps (row_timing s) (site_of s T) (printed_of s p T)
