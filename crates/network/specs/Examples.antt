-- Small networks, run by the checker: what the definitions give, beside what one finds by hand. In all of them an interval lasts 10
-- symbols. Assumes nothing.
use Rattle.std.specs.Prelude.{◌≡◌, List, [], ◌∷◌, ◌++◌, map, ℕ, zero, suc, ◌+◌, length}
use Rattle.network.specs.Counting.{count, keep}
use Rattle.network.specs.Model.{Network, Frame, queue}
use Rattle.network.specs.Readings.{Reading}
use Rattle.network.specs.Oracle.{is_start, run}
use Rattle.network.specs.Claim.{came_in, present}

-- ---- networks

-- node 1 sends to the sink, 0
unfoldable pub link : ℕ → ℕ → ℕ → Network
link a m X = record { nodes = 2; sink = 0; next = λ v. 0; interval = 10; exchange = X; offset = λ v. a; holds = λ v. m }

-- a figure of each node: of the sink, of node 1, of node 2, and of the nodes from 3 on
unfoldable pub per_node : ℕ → ℕ → ℕ → ℕ → ℕ → ℕ
per_node k a b c zero = k
per_node k a b c (suc zero) = a
per_node k a b c (suc (suc zero)) = b
per_node k a b c (suc (suc (suc v))) = c

-- node 2 sends to node 1, with its window at 3, and node 1 to the sink, with its window at a; each window holds one exchange of 2 symbols
unfoldable pub hops : ℕ → Network
hops a = record { nodes = 3; sink = 0; next = per_node 0 0 1 1; interval = 10; exchange = 2; offset = per_node 0 a 3 0; holds = λ v. 1 }

-- nodes 2 and 3 send to node 1, both in symbol 2, and node 1 sends to the sink, in symbols 5 and 7
unfoldable pub fork : Network
fork = record { nodes = 4; sink = 0; next = per_node 0 0 1 1; interval = 10; exchange = 2; offset = per_node 0 5 2 2; holds = per_node 0 2 1 1 }

-- ---- readings and oracles

unfoldable pub reading : ℕ → ℕ → ℕ → Reading
reading t v k = record { symbol = t; sensor = v; frames = k }

-- one frame of node 1 in symbol t
unfoldable pub one : ℕ → List Reading
one t = reading t 1 1 ∷ []

-- the first in the queue goes first; and the one behind it, where both came in the same symbol
unfoldable pub first : ℕ → ℕ → ℕ
first t v = 0

unfoldable pub second : ℕ → ℕ → ℕ
second t v = 1

-- ---- what is looked at

unfoldable pub before : ℕ → List ℕ
before zero = []
before (suc n) = before n ++ n ∷ []

-- the symbols before u in which node 1 has a start
unfoldable pub starts : Network → ℕ → List ℕ
starts N u = keep (is_start N 1) (before u)

-- sensor, symbol made and symbol come, frame by frame
unfoldable pub as_numbers : List Frame → List ℕ
as_numbers [] = []
as_numbers (f ∷ q) = f.sensor ∷ f.made ∷ f.came ∷ as_numbers q

-- what the sink received through symbol u
unfoldable pub received : Network → List Reading → (ℕ → ℕ → ℕ) → ℕ → List ℕ
received N l pick u = as_numbers (run N l pick (suc u)).received

-- the length of node v's queue at the end of each symbol before u
unfoldable pub lengths : Network → List Reading → ℕ → ℕ → List ℕ
lengths N l v u = map (λ t. length (queue (run N l first (suc t)) v)) (before u)

-- the lengths of node v's queue at the end of some symbols
unfoldable pub lengths_at : Network → List Reading → ℕ → List ℕ → List ℕ
lengths_at N l v ts = map (λ t. length (queue (run N l first (suc t)) v)) ts

-- the symbols in which the exchanges started that are on the air from node v at the end of each symbol before u
unfoldable pub on_air : Network → List Reading → ℕ → ℕ → List (List ℕ)
on_air N l v u = map (λ t. map (λ e. e.started) ((run N l first (suc t)).air v)) (before u)

-- ---- the examples

-- two frames in symbol 1 and one in symbol 3; the list is in no order
unfoldable pub three : List Reading
three = reading 3 1 1 ∷ reading 1 1 2 ∷ []

-- one frame each of sensors 2 and 3 in symbol 0
unfoldable pub tie : List Reading
tie = reading 0 3 1 ∷ reading 0 2 1 ∷ []

-- two frames in the first symbol of each of five intervals
unfoldable pub twos : List Reading
twos = reading 0 1 2 ∷ reading 10 1 2 ∷ reading 20 1 2 ∷ reading 30 1 2 ∷ reading 40 1 2 ∷ []

-- a frame in a symbol, and one more as soon as the token bucket has room for it, twice
unfoldable pub soon_from : ℕ → List Reading
soon_from a = reading a 1 1 ∷ reading (a + 479) 1 1 ∷ reading (a + 959) 1 1 ∷ []

-- What the definitions give, and what one finds by hand; proofs/ExamplesHold computes it.
pub record ExamplesHold : Type 0 where
  -- a window at 3 that holds 2 exchanges of 2 symbols
  pub two_starts : starts (link 3 2 2) 26 ≡ 3 ∷ 5 ∷ 13 ∷ 15 ∷ 23 ∷ 25 ∷ []
  -- one link: each frame made is received once
  pub one_link : received (link 3 2 2) three first 30 ≡ 1 ∷ 1 ∷ 5 ∷ 1 ∷ 1 ∷ 7 ∷ 1 ∷ 3 ∷ 15 ∷ []
  -- its queue: a frame fills its place until its exchange ends, in symbols 5 and 7
  pub its_queue : lengths (link 3 2 2) three 1 9 ≡ 0 ∷ 2 ∷ 2 ∷ 3 ∷ 3 ∷ 2 ∷ 2 ∷ 1 ∷ 1 ∷ []
  -- the exchange that began in symbol 3 ends in symbol 5, and the next starts in that symbol
  pub end_meets_start : on_air (link 3 2 2) three 1 8 ≡ [] ∷ [] ∷ [] ∷ (3 ∷ []) ∷ (3 ∷ []) ∷ (5 ∷ []) ∷ (5 ∷ []) ∷ [] ∷ []
  -- a frame made in the very symbol of a start waits for the next
  pub in_a_symbol_of_a_start : received (link 3 2 2) (one 3) first 30 ≡ 1 ∷ 3 ∷ 7 ∷ []
  -- in that of the window's last start, for the first of the next interval
  pub in_that_of_the_last : received (link 3 2 2) (one 5) first 30 ≡ 1 ∷ 5 ∷ 15 ∷ []
  -- an exchange that starts in symbol 8 ends in the first symbol of the next interval
  pub over_the_border : received (link 8 1 2) (one 0) first 30 ≡ 1 ∷ 0 ∷ 10 ∷ []
  -- two hops: sent in symbols 3 and 6
  pub two_hops : received (hops 6) (reading 1 2 1 ∷ []) first 30 ≡ 2 ∷ 1 ∷ 8 ∷ []
  -- a frame that comes to node 1 in the very symbol of its start, 5, waits for the next, 15
  pub comes_in_a_symbol_of_a_start : received (hops 5) (reading 1 2 1 ∷ []) first 30 ≡ 2 ∷ 1 ∷ 17 ∷ []
  -- both frames come to node 1 in symbol 4; either may go first
  pub tie_one_way : received fork tie first 30 ≡ 2 ∷ 0 ∷ 7 ∷ 3 ∷ 0 ∷ 9 ∷ []
  pub tie_the_other : received fork tie second 30 ≡ 3 ∷ 0 ∷ 7 ∷ 2 ∷ 0 ∷ 9 ∷ []
  -- the sink's own frame is received in the symbol in which it is made, and is in no queue
  pub sinks_own : received (link 3 2 2) (reading 4 0 1 ∷ []) first 4 ≡ 0 ∷ 4 ∷ 4 ∷ []
  pub no_sink_queue : lengths (link 3 2 2) (reading 4 0 1 ∷ []) 0 6 ≡ 0 ∷ 0 ∷ 0 ∷ 0 ∷ 0 ∷ 0 ∷ []
  -- two readings of one symbol and one sensor add up
  pub readings_add_up : lengths (link 3 2 2) (reading 1 1 2 ∷ reading 1 1 1 ∷ []) 1 3 ≡ 0 ∷ 3 ∷ 3 ∷ []
  -- of the frames that came to the sink in symbols 5, 7 and 15, those that came in the t symbols from 5 on, for t from 0 to 11
  pub in_stretches : map (λ t. count (came_in 5 t) (run (link 3 2 2) three first 31).received) (before 12)
      ≡ 0 ∷ 1 ∷ 1 ∷ 2 ∷ 2 ∷ 2 ∷ 2 ∷ 2 ∷ 2 ∷ 2 ∷ 2 ∷ 3 ∷ []
  -- at the end of symbol 5, frames of node 1 made in symbols 0 to 3, in its queue or at the sink
  pub accounted_for : map (present (link 3 2 2) (run (link 3 2 2) three first 6) 1) (before 4) ≡ 0 ∷ 2 ∷ 0 ∷ 1 ∷ []
  -- Smaller figures would be too low. A frame made in symbol 0 comes to the sink in symbol 11: β / m without T is 9 for β = 9, m = 1.
  pub delay_needs_latency : received (link 0 1 1) (one 0) first 30 ≡ 1 ∷ 0 ∷ 11 ∷ []
  -- Frames made 8 symbols apart, which β = 11 and ρ = 1 allow, leave in two symbols: 2 frames × 10 are more than 11 + 1 × 2.
  pub burst_needs_latency : received (link 5 2 1) (one 6 ++ one 14) first 30 ≡ 1 ∷ 6 ∷ 16 ∷ 1 ∷ 14 ∷ 17 ∷ []
  -- Two frames an interval into a window that holds one: the queue grows by one an interval, past (β + ρ × T) / BI = (20 + 2 × 11) / 10.
  pub rate_needs_service : map (λ t. length (queue (run (link 0 1 1) twos first (suc t)) 1)) (0 ∷ 10 ∷ 20 ∷ 30 ∷ 40 ∷ []) ≡ 2 ∷ 4 ∷ 5 ∷ 6 ∷ 7 ∷ []
