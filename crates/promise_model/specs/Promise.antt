-- Demand 3: what holds in every run of a network whose links have the printed reservations (document 01, 'The run'). It is stated once; a
-- row and a surveyed tree are its two instances. It reads printed figures alone. Assumes nothing: these are definitions.
use Rattle.std.specs.Prelude.{◌≡◌, cond, List, [], ℕ, ◌+◌, ◌*◌, ◌≤◌, ◌<◌, leb, length}
use Rattle.measure.specs.declared.Slots.{Slots}
use Rattle.measure.specs.declared.Frames.{Frames}
use Rattle.measure.specs.declared.Symbols.{Symbols}
use Rattle.measure.specs.declared.FrameSymbols.{FrameSymbols}
use Rattle.measure.specs.declared.Rate.{Rate}
use Rattle.superframe_model.specs.Reservation.{frames_in}
use Rattle.links.specs.declared.Timing.{Timing}
use Rattle.network.specs.Counting.{total, count, All}
use Rattle.network.specs.Model.{Network, State, queue}
use Rattle.network.specs.Readings.{Reading, made}
use Rattle.network.specs.Run.{Run, at_end_of}
use Rattle.network.specs.Loads.{Linked}
use Rattle.network.specs.Claim.{came_in, present}

-- ---- what is there, and what is printed for it

-- The nodes are 0 to nodes − 1. Each has a neighbour on the way to the sink, and a sensor with BURST and RATE; both are 0 where a node does
-- not sense.
pub record Site : Type 0 where
  pub nodes : ℕ
  pub sink : ℕ
  pub next : ℕ → ℕ
  pub burst : ℕ → ℕ
  pub rate : ℕ → ℕ

-- The printed figures that the promise reads: SLOTS and BUFFER of each node's link, the delay that is promised to the frames of each node's
-- sensor, and BURST and RATE of the sink.
pub record Printed : Type 0 where
  pub slots : ℕ → Slots
  pub buffer : ℕ → Frames
  pub delay : ℕ → Symbols
  pub burst : FrameSymbols
  pub rate : Rate

-- ---- the run

-- The network: m of each window is computed here from SLOTS, S and X; no other figure of the plan goes into the run. X is the exchange with
-- LOSS (document 02, E5): it holds up to LOSS failed tries of its frame and one that succeeds (`HoldsTries` of superframe_model's specs/Loss),
-- and "a frame counts as received when its exchange ends"
unfoldable pub network_of : Timing → Site → Printed → (ℕ → ℕ) → Network
network_of t S P offset = record {
  nodes = S.nodes;
  sink = S.sink;
  next = S.next;
  interval = t.interval.0;
  exchange = t.exchange.0;
  offset = offset;
  holds = λ v. (frames_in (P.slots v) t.slot t.exchange).0;
}

-- "a window lies whole within every interval", and nothing else is asked of offsets
abbrev pub Windows : Timing → Site → Printed → (ℕ → ℕ) → Type 0
Windows t S P offset = (v : ℕ) → Linked (network_of t S P offset) v → offset v + (P.slots v).0 * t.slot.0 ≤ t.interval.0

-- Readings of nodes, each within its own token bucket: "in any t consecutive symbols, at most a frames with a × BI ≤ BURST × BI + RATE × t". A
-- node that does not sense has BURST and RATE 0, and so makes none.
pub record Readings (t : Timing) (S : Site) (l : List Reading) : Type 0 where
  pub sensors : All (λ r. r.sensor < S.nodes) l
  pub bucket : (v x n : ℕ) → v < S.nodes
      → total (λ i. made l (x + i) v) n * t.interval.0 ≤ S.burst v * t.interval.0 + S.rate v * n

-- ---- what holds

-- Of the state at the end of symbol u of a run that is fed the readings l:
pub record Held (P : Printed) (N : Network) (l : List Reading) (u : ℕ) (now : State) : Type 0 where
  -- no queue holds more than BUFFER of its line, and the sink has none
  pub queues : (v : ℕ) → Linked N v → length (queue now v) ≤ (P.buffer v).0
  pub sink_queue : queue now N.sink ≡ []
  -- no frame is on its way longer than the delay that is promised to it: neither one that is in a queue, made in symbol c, for u − c symbols so
  -- far, nor one that came to the sink in symbol d, for d − c
  pub under_way : (v : ℕ) → v < N.nodes → All (λ f. u ≤ f.made + (P.delay f.sensor).0) (queue now v)
  pub received : All (λ f. f.came ≤ f.made + (P.delay f.sensor).0) now.received
  -- "In any t consecutive symbols the sink may get at most a frames, its own included, with a × BI ≤ BURST + RATE × t" of the sink's line
  pub stretches : (x n : ℕ) → count (came_in x n) now.received * N.interval ≤ P.burst.0 + P.rate.0 * n
  -- no frame is lost, doubled or given another sensor or clock: of every sensor o and symbol c, as many frames are in the queues and at the
  -- sink as the readings made there then
  pub none_lost : (o c : ℕ) → present N now o c ≡ cond (leb c u) (made l c o) 0

-- For every offset of every window, all readings within the token buckets, every run and every last symbol: everything above at once.
abbrev pub Keeps : Timing → Site → Printed → Type 0
Keeps t S P = (offset : ℕ → ℕ) → Windows t S P offset
    → (l : List Reading) → Readings t S l
    → (state : ℕ → State) → Run (network_of t S P offset) l state
    → (u : ℕ) → Held P (network_of t S P offset) l u (at_end_of state u)
