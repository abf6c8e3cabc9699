-- The claim: what holds at the end of every symbol of every run (document 01, 'The run'). Assumes nothing.
use Rattle.std.specs.Prelude.{◌≡◌, Bool, cond, ◌&&◌, List, [], ◌++◌, ℕ, ◌+◌, ◌*◌, ◌≤◌, ◌<◌, eqb, ltb, leb, length}
use Rattle.network.specs.Counting.{total, count, All}
use Rattle.network.specs.Model.{Network, Frame, State, queue}
use Rattle.network.specs.Readings.{Reading, made}
use Rattle.network.specs.Run.{end_exchanges, make_readings, Symbol, Run, at_end_of}
use Rattle.network.specs.Loads.{Flows, burst_after, Linked, Provisioned, Buckets}

-- did the frame come in one of the t symbols from x on?
unfoldable pub came_in : ℕ → ℕ → Frame → Bool
came_in x t f = leb x f.came && ltb f.came (x + t)

-- was the frame made by sensor o in symbol c?
unfoldable pub tagged : ℕ → ℕ → Frame → Bool
tagged o c f = eqb f.sensor o && eqb f.made c

-- how many frames that sensor o made in symbol c are in the queues, or at the sink
unfoldable pub present : Network → State → ℕ → ℕ → ℕ
present N s o c = total (λ v. count (tagged o c) (queue s v)) N.nodes + count (tagged o c) s.received

-- Of the state s at the end of symbol u of a run that is fed the readings l:
pub record WithinBounds (N : Network) (F : Flows) (l : List Reading) (u : ℕ) (s : State) : Type 0 where
  -- a queue holds at most (β + ρ × T) / BI frames; not rounded, so the buffer is this rounded up
  pub queues : (v : ℕ) → Linked N v → length (queue s v) * N.interval ≤ burst_after F v
  -- the sink has no queue
  pub sink_queue : queue s N.sink ≡ []
  -- a frame made in symbol c that is in a queue is on its way for u − c symbols so far, and that is at most its own route's delay
  pub under_way : (v : ℕ) → v < N.nodes → All (λ f. u ≤ f.made + F.route f.sensor) (queue s v)
  -- a frame made in symbol c that came to the sink in symbol d was on its way for d − c symbols, at most its own route's delay
  pub received : All (λ f. f.came ≤ f.made + F.route f.sensor) s.received
  -- "In any t consecutive symbols the sink may get at most a frames, its own included, with a × BI ≤ BURST + RATE × t": from x on
  pub stretches : (x t : ℕ) → count (came_in x t) s.received * N.interval ≤ F.burst N.sink + F.rate N.sink * t
  -- No frame is lost, doubled or given another sensor or clock: for every sensor o and every symbol c, as many frames tagged so are in
  -- the queues and at the sink as the readings made there then, and none before they are made.
  pub none_lost : (o c : ℕ) → present N s o c ≡ cond (leb c u) (made l c o) 0

-- The theorem, proved in proofs/Theorem: for every network and figures that fulfil the hypotheses, all readings within the token
-- buckets, every run that they feed, and every last symbol u, everything above at once.
abbrev pub EveryRunIsKept : Type 0
EveryRunIsKept = (N : Network) (F : Flows) → Provisioned N F
    → (l : List Reading) → Buckets N F l
    → (s : ℕ → State) → Run N l s
    → (u : ℕ) → WithinBounds N F l u (at_end_of s u)

-- ---- two facts about a symbol that the claim leans on (proofs/Moments)

-- Within a symbol no queue is longer than at its end: neither after the ends nor after the readings of the symbol. So the bounds on queues
-- hold at every moment.
abbrev pub LongestAtEnd : Type 0
LongestAtEnd = (N : Network) (l : List Reading) (t : ℕ) (s s' : State) → Symbol N l t s s' → (v : ℕ) → v < N.nodes
    → (length (queue (end_exchanges N t s) v) ≤ length (queue s' v))
    × (length (queue (make_readings N l t (end_exchanges N t s)) v) ≤ length (queue s' v))

-- what the sink receives in symbol t is added to what it received before, and each frame of it has come in symbol t
pub record Received (t : ℕ) (s s' : State) : Type 0 where
  pub new : List Frame
  pub added : s'.received ≡ s.received ++ new
  pub now : All (λ f. f.came ≡ t) new

-- So the delays of received frames and the sink's stretches are counted by the symbols in which frames came.
abbrev pub ReceivedNow : Type 0
ReceivedNow = (N : Network) (l : List Reading) (t : ℕ) (s s' : State) → Symbol N l t s s' → Received t s s'
