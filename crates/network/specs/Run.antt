-- Document 01's run, symbol by symbol, with nothing chosen that the document leaves free. Assumes nothing.
use Rattle.std.specs.Prelude.{◌≡◌, ◌≢◌, Bool, cond, not, ◌&&◌, List, [], ◌∷◌, ◌++◌, map, ℕ, suc, ◌+◌, ◌*◌, ◌≤◌, ◌<◌, eqb, replicate}
use Rattle.network.specs.Counting.{keep, join, All}
use Rattle.network.specs.Model.{Network, Frame, Exchange, State, queue}
use Rattle.network.specs.Readings.{Reading, made}

-- "Symbols are counted from 0, where the first beacon interval starts for the whole network .. With the window's first symbol as
-- a, they start at a, a + X, and so on, m times", in each interval: n = q × BI + a + j × X for some q and some j < m. The sink has
-- no link, and so no starts.
pub record Start (N : Network) (v n : ℕ) : Type 0 where
  pub linked : v ≢ N.sink
  pub q : ℕ
  pub j : ℕ
  pub held : j < N.holds v
  pub begins : n ≡ q * N.interval + N.offset v + j * N.exchange

-- ---- what comes to the nodes

-- Frames come to nodes, f v to node v. They wait behind those that came before. The sink "hands each frame on in the symbol in which
-- the frame comes or is made there, and so has no queue": what comes to it is received.
unfoldable pub deliver : Network → (ℕ → List Frame) → State → State
deliver N f s = record {
  waiting = λ v. s.waiting v ++ cond (eqb v N.sink) [] (f v);
  air = s.air;
  received = s.received ++ f N.sink;
}

-- does node w send to node v?
unfoldable pub feeds : Network → ℕ → ℕ → Bool
feeds N w v = not (eqb w N.sink) && eqb (N.next w) v

-- does the exchange end in symbol t? It "started X symbols earlier".
unfoldable pub ends : Network → ℕ → Exchange → Bool
ends N t e = eqb (e.started + N.exchange) t

-- the frame of an exchange that ends in symbol t, at the receiver: made where and when it was, it comes now
unfoldable pub arrived : ℕ → Exchange → Frame
arrived t e = record { sensor = e.frame.sensor; made = e.frame.made; came = t }

-- the frames that come to node v from its neighbours in symbol t
unfoldable pub arrivals : Network → ℕ → State → ℕ → List Frame
arrivals N t s v = join N.nodes (λ w. cond (feeds N w v) (map (arrived t) (keep (ends N t) (s.air w))) [])

-- First, "an exchange started X symbols earlier ends: its frame leaves its queue and comes to the receiver".
unfoldable pub end_exchanges : Network → ℕ → State → State
end_exchanges N t s = deliver N (arrivals N t s) (record {
  waiting = s.waiting;
  air = λ v. keep (λ e. not (ends N t e)) (s.air v);
  received = s.received;
})

-- a frame that sensor v makes in symbol t
unfoldable pub fresh : ℕ → ℕ → Frame
fresh t v = record { sensor = v; made = t; came = t }

-- Second, "each reading of this symbol makes its count of frames at its sensor".
unfoldable pub make_readings : Network → List Reading → ℕ → State → State
make_readings N l t s = deliver N (λ v. replicate (made l t v) (fresh t v)) s

-- ---- what the links do

-- Third, "each link with a start in this symbol begins an exchange by the rule above, or leaves the start unused". The rule: "At a
-- start the frame that has waited at this node longest, having come in an earlier symbol, is sent (any of those that came in the
-- same symbol). .. If no frame came earlier the start goes unused." From the state s to the state s', at node v in symbol t:
pub data Turn (N : Network) (t v : ℕ) (s s' : State) : Type 0 where
  -- without a start nothing changes
  no_start : ¬ Start N v t → s'.waiting v ≡ s.waiting v → s'.air v ≡ s.air v → Turn N t v s s'
  -- nor does it if no frame that waits came earlier
  unused : Start N v t → All (λ f. t ≤ f.came) (s.waiting v) → s'.waiting v ≡ s.waiting v → s'.air v ≡ s.air v
      → Turn N t v s s'
  -- else a frame f goes on the air that came in an earlier symbol, and no frame that waits came before it
  sends : Start N v t → (front : List Frame) (f : Frame) (back : List Frame) → s.waiting v ≡ front ++ f ∷ back → f.came < t
      → All (λ g. f.came ≤ g.came) (s.waiting v) → s'.waiting v ≡ front ++ back
      → s'.air v ≡ s.air v ++ record { frame = f; started = t } ∷ [] → Turn N t v s s'

-- ---- the run

-- One symbol, "in this order": ends, readings, starts.
pub record Symbol (N : Network) (l : List Reading) (t : ℕ) (s s' : State) : Type 0 where
  pub turns : (v : ℕ) → v < N.nodes → Turn N t v (make_readings N l t (end_exchanges N t s)) s'
  pub received : s'.received ≡ (make_readings N l t (end_exchanges N t s)).received

-- A run: s t is the state before symbol t, and so s (suc u) that at the end of symbol u. "Before symbol 0 all queues are empty. In
-- each symbol from 0 on .. each symbol takes up what the last one left."
pub record Run (N : Network) (l : List Reading) (s : ℕ → State) : Type 0 where
  pub empty_queues : (v : ℕ) → v < N.nodes → queue (s 0) v ≡ []
  pub none_received : (s 0).received ≡ []
  pub symbols : (t : ℕ) → Symbol N l t (s t) (s (suc t))

-- the state at the end of symbol u
abbrev pub at_end_of : (ℕ → State) → ℕ → State
at_end_of s u = s (suc u)
