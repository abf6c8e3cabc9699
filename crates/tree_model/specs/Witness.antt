-- Surveyed trees, windows and readings that fulfil all that demand 3 asks for, with traffic: the promise is not about nothing, and its bound
-- on queues cannot be lowered. The run counts nodes from 0: its node i is node i + 1 of the list. Assumes nothing: these are definitions and
-- statements; proofs/Witnesses proves them.
use Rattle.std.specs.Prelude.{◌≡◌, List, [], ◌∷◌, map, ℕ, suc, ◌+◌, ◌*◌, ◌≤◌, length, get_or}
use Rattle.network.specs.Counting.{All}
use Rattle.network.specs.Model.{Network, queue}
use Rattle.network.specs.Readings.{Reading}
use Rattle.network.specs.Oracle.{run}
use Rattle.network.specs.Examples.{reading, first, received, lengths_at, soon_from}
use Rattle.settings_model.specs.declared.Radio.{Radio}
use Rattle.plan_model.specs.Times.{timing_of}
use Rattle.tree_model.specs.Tree.{Tree, tree_of}
use Rattle.settings_model.specs.Checks.{radio}
use Rattle.tree_model.specs.Lines.{lines}
use Rattle.refusals.specs.Outcome.{Planned}
use Rattle.tree_model.specs.Outcome.{outcome_of}
use Rattle.tree_model.specs.Promise.{figures_in, route_in, longest, network_of, Windows, Readings, Held}
use Rattle.tree_model.specs.Laws.{Surveyed}
use Rattle.tree_model.specs.Examples.{table}

-- ---- a tree with its sink below the root, in which every node senses

-- BO 2, SO 0, HEAD 5, DATA 1, ACK 0: BI = 3840, S = 60, X = 36
unfoldable pub short : Radio
short = radio 2 0 5 1 0 0

-- The sink, 2, and router 3 are child routers of the root. Of the end nodes, 4 is the root's, 5 the sink's, 6 router 3's. The sink has BURST 2,
-- node 6 BURST 2 and RATE 2, and all others BURST 1 and RATE 1.
unfoldable pub tree : Tree
tree = tree_of (0 ∷ 0 ∷ 1 ∷ 1 ∷ 1 ∷ 2 ∷ 3 ∷ []) (0 ∷ 1 ∷ 2 ∷ 1 ∷ 1 ∷ 1 ∷ 2 ∷ []) (0 ∷ 1 ∷ 1 ∷ 1 ∷ 1 ∷ 1 ∷ 2 ∷ [])

-- the first symbol of each node's window, of nodes 1 to 6
unfoldable pub offsets : ℕ → ℕ
offsets i = get_or (111 ∷ 0 ∷ 38 ∷ 300 ∷ 3780 ∷ 1 ∷ []) i 0

unfoldable pub network : Network
network = network_of short (lines short tree 2) tree 2 offsets

-- in symbol 0, two frames of end node 6, one of router 3, one of the root and two of the sink
unfoldable pub readings : List Reading
readings = reading 0 5 2 ∷ reading 0 2 1 ∷ reading 0 0 1 ∷ reading 0 1 2 ∷ []

-- Node 6 sends its frames in symbols 1 and 37, and they are at router 3 in 37 and 73. Router 3 sends its own in 38, and node 6's in 74 and 110;
-- they are at the root in 74, 110 and 146. The root sends its own in 111, router 3's in 147 and node 6's in 183 and 219.
pub record Witnessed : Type 0 where
  -- the tree keeps number 10
  pub surveyed : Surveyed tree 2
  -- it is planned, with these lines: KIND's letter, DEPTH, RATE, BURST, SLOTS, FRAMES, LATENCY, BUFFER, DELAY, ROUTE
  pub planned : outcome_of short tree 2 ≡ Planned (lines short tree 2)
  pub columns : table short tree 2
      ≡ (68 ∷ 0 ∷ 5 ∷ 42096 ∷ 3 ∷ 5 ∷ 3732 ∷ 16 ∷ 12152 ∷ 12152 ∷ [])
      ∷ (83 ∷ 1 ∷ 7 ∷ 76152 ∷ 0 ∷ 0 ∷ 0 ∷ 20 ∷ 0 ∷ 0 ∷ [])
      ∷ (85 ∷ 1 ∷ 3 ∷ 19128 ∷ 2 ∷ 3 ∷ 3804 ∷ 8 ∷ 10180 ∷ 22332 ∷ [])
      ∷ (69 ∷ 1 ∷ 1 ∷ 3840 ∷ 1 ∷ 1 ∷ 3876 ∷ 3 ∷ 7716 ∷ 19868 ∷ [])
      ∷ (69 ∷ 2 ∷ 1 ∷ 3840 ∷ 1 ∷ 1 ∷ 3876 ∷ 3 ∷ 7716 ∷ 7716 ∷ [])
      ∷ (69 ∷ 2 ∷ 2 ∷ 7680 ∷ 2 ∷ 3 ∷ 3804 ∷ 4 ∷ 6364 ∷ 28696 ∷ [])
      ∷ []
  -- the neighbours of nodes 1, 3, 4, 5 and 6 on the way to the sink, and the exchanges that their windows hold
  pub neighbours : map network.next (0 ∷ 2 ∷ 3 ∷ 4 ∷ 5 ∷ []) ≡ 1 ∷ 0 ∷ 0 ∷ 1 ∷ 2 ∷ []
  pub exchanges : map network.holds (0 ∷ 2 ∷ 3 ∷ 4 ∷ 5 ∷ []) ≡ 5 ∷ 3 ∷ 1 ∷ 1 ∷ 3 ∷ []
  -- all windows fit the interval, and node 5's ends with it
  pub windows_fit : Windows short (lines short tree 2) tree 2 offsets
  pub last_window : offsets 4 + (figures_in (lines short tree 2) 4).slots.0 * (timing_of short).slot.0 ≡ (timing_of short).interval.0
  -- the readings keep their nodes' token buckets, but would not with one frame more of any of them in the same symbol
  pub keep_buckets : Readings short tree 2 readings
  pub at_the_limit : All (λ i. ¬ Readings short tree 2 (reading 0 i 1 ∷ readings)) (5 ∷ 2 ∷ 0 ∷ 1 ∷ [])
  -- what the sink received through symbol 255: sensor, symbol made and symbol come, frame by frame
  pub arrived : received network readings first 255
      ≡ 1 ∷ 0 ∷ 0 ∷ 1 ∷ 0 ∷ 0 ∷ 0 ∷ 0 ∷ 147 ∷ 2 ∷ 0 ∷ 183 ∷ 5 ∷ 0 ∷ 219 ∷ 5 ∷ 0 ∷ 255 ∷ []
  -- none of these frames was on its way longer than ROUTE of the node that made it, nor than the largest ROUTE, node 6's
  pub in_time : All (λ f. f.came ≤ f.made + (route_in (lines short tree 2) f.sensor).0) (run network readings first 256).received
  pub largest_route : longest (lines short tree 2) ≡ 28696
  -- Router 3's queue at the end of some symbols: the frame that it sends in 38 fills its place through 73.
  pub routers_queue : lengths_at network readings 2 (0 ∷ 36 ∷ 37 ∷ 38 ∷ 72 ∷ 73 ∷ 74 ∷ 110 ∷ 145 ∷ 146 ∷ []) ≡ 1 ∷ 1 ∷ 2 ∷ 2 ∷ 2 ∷ 3 ∷ 2 ∷ 1 ∷ 1 ∷ 0 ∷ []
  -- the root's: the frame that it sends in 111 fills its place through 146
  pub roots_queue : lengths_at network readings 0 (0 ∷ 73 ∷ 74 ∷ 109 ∷ 110 ∷ 111 ∷ 145 ∷ 146 ∷ 147 ∷ 183 ∷ 219 ∷ 255 ∷ []) ≡ 1 ∷ 1 ∷ 2 ∷ 2 ∷ 3 ∷ 3 ∷ 3 ∷ 4 ∷ 3 ∷ 2 ∷ 1 ∷ 0 ∷ []
  -- BUFFER of their lines
  pub buffers : map (λ i. (figures_in (lines short tree 2) i).buffer.0) (2 ∷ 0 ∷ []) ≡ 8 ∷ 16 ∷ []
  -- demand 3 of this run, at the end of every symbol, whichever of several frames goes first
  pub kept : (pick : ℕ → ℕ → ℕ) (u : ℕ) → Held (lines short tree 2) 2 network readings u (run network readings pick (suc u))

-- ---- a queue that is filled to BUFFER

-- BO 0, SO 0, HEAD 17, DATA 1, ACK 0: BI = 960, S = X = 60
unfoldable pub shortest : Radio
shortest = radio 0 0 17 1 0 0

-- the root, which is the sink, and its end node with BURST 1 and RATE 2: β = 960, ρ = 2, m = 2 and T = 960
unfoldable pub pair : Tree
pair = tree_of (0 ∷ 0 ∷ 1 ∷ []) (0 ∷ 0 ∷ 1 ∷ []) (0 ∷ 0 ∷ 2 ∷ [])

-- the end node's starts: 0, 60, 960, 1020 and so on
unfoldable pub pair_network : Network
pair_network = network_of shortest (lines shortest pair 1) pair 1 (λ i. 0)

-- a frame that misses the start in symbol 60, and one more as soon as the token bucket has room for it, twice
unfoldable pub full_readings : List Reading
full_readings = soon_from 60

-- Its queue holds BUFFER frames: no smaller BUFFER would do.
pub record Filled : Type 0 where
  -- the tree keeps number 10 and is planned, with these lines
  pub surveyed : Surveyed pair 1
  pub planned : outcome_of shortest pair 1 ≡ Planned (lines shortest pair 1)
  pub columns : table shortest pair 1
      ≡ (83 ∷ 0 ∷ 2 ∷ 2880 ∷ 0 ∷ 0 ∷ 0 ∷ 3 ∷ 0 ∷ 0 ∷ []) ∷ (69 ∷ 1 ∷ 2 ∷ 960 ∷ 2 ∷ 2 ∷ 960 ∷ 3 ∷ 1440 ∷ 1440 ∷ []) ∷ []
  -- its window fits, and the readings keep the token buckets
  pub windows_fit : Windows shortest (lines shortest pair 1) pair 1 (λ i. 0)
  pub keep_buckets : Readings shortest pair 1 full_readings
  -- at the end of symbol 1019 the first frame is still on the air, and the queue is full
  pub full : length (queue (run pair_network full_readings first 1020) 1) ≡ (figures_in (lines shortest pair 1) 1).buffer.0
  -- That frame came 960 symbols after it was made: β / m = 480 symbols without T would be too few.
  pub arrived : received pair_network full_readings first 1020 ≡ 1 ∷ 60 ∷ 1020 ∷ []

-- ---- tries that may fail (document 02, E5)

-- BO 0, SO 0, HEAD 5, DATA 1, ACK 1, LOSS 1: BI = 960, S = 60, X = 70, so that an exchange with one failed try of 90 lasts 160
unfoldable pub lossy : Radio
lossy = radio 0 0 5 1 1 1

-- the end node's starts: 0, 160, 960, 1120 and so on
unfoldable pub lossy_network : Network
lossy_network = network_of lossy (lines lossy pair 1) pair 1 (λ i. 0)

-- a frame that misses the start in symbol 160, and two more
unfoldable pub lossy_readings : List Reading
lossy_readings = soon_from 160

pub record Lossy : Type 0 where
  pub planned : outcome_of lossy pair 1 ≡ Planned (lines lossy pair 1)
  pub columns : table lossy pair 1
      ≡ (83 ∷ 0 ∷ 2 ∷ 2880 ∷ 0 ∷ 0 ∷ 0 ∷ 3 ∷ 0 ∷ 0 ∷ []) ∷ (69 ∷ 1 ∷ 2 ∷ 960 ∷ 6 ∷ 2 ∷ 960 ∷ 3 ∷ 1440 ∷ 1440 ∷ []) ∷ []
  pub windows_fit : Windows lossy (lines lossy pair 1) pair 1 (λ i. 0)
  pub keep_buckets : Readings lossy pair 1 lossy_readings
  -- "a frame counts as received when its exchange ends": the first frame is sent in symbol 960 and fills its place through 1119, when the queue
  -- is full, and it comes to the sink in 1120
  pub full : length (queue (run lossy_network lossy_readings first 1120) 1) ≡ (figures_in (lines lossy pair 1) 1).buffer.0
  pub arrived : received lossy_network lossy_readings first 1120 ≡ 1 ∷ 160 ∷ 1120 ∷ []

-- ---- a frame that is longer on its way than its own link's DELAY

-- BO 1, SO 0, HEAD 17, DATA 1, ACK 0: BI = 1920, S = X = 60
unfoldable pub shorter : Radio
shorter = radio 1 0 17 1 0 0

-- the root, which is the sink, router 2 below it, and that one's end node 3 with BURST 1 and RATE 7
unfoldable pub two_hops : Tree
two_hops = tree_of (0 ∷ 0 ∷ 1 ∷ 2 ∷ []) (0 ∷ 0 ∷ 0 ∷ 1 ∷ []) (0 ∷ 0 ∷ 0 ∷ 7 ∷ [])

-- the end node's starts are 0, 60 and on to 360, and router 2's 300 and on to 660, in every interval
unfoldable pub hop_offsets : ℕ → ℕ
hop_offsets i = get_or (0 ∷ 300 ∷ 0 ∷ []) i 0

unfoldable pub hop_network : Network
hop_network = network_of shorter (lines shorter two_hops 1) two_hops 1 hop_offsets

-- a frame of the end node that misses its last start in an interval
unfoldable pub late_reading : List Reading
late_reading = reading 360 2 1 ∷ []

-- It is sent in symbol 1920 and at router 2 in 1980, sent there in 2220 and at the sink in 2280: 1920 symbols, where DELAY of its own link is
-- 1895. ROUTE adds the delays of all links.
pub record TwoLinks : Type 0 where
  pub surveyed : Surveyed two_hops 1
  pub planned : outcome_of shorter two_hops 1 ≡ Planned (lines shorter two_hops 1)
  pub columns : table shorter two_hops 1
      ≡ (83 ∷ 0 ∷ 7 ∷ 24600 ∷ 0 ∷ 0 ∷ 0 ∷ 13 ∷ 0 ∷ 0 ∷ [])
      ∷ (85 ∷ 1 ∷ 7 ∷ 13260 ∷ 7 ∷ 7 ∷ 1620 ∷ 13 ∷ 3515 ∷ 3515 ∷ [])
      ∷ (69 ∷ 2 ∷ 7 ∷ 1920 ∷ 7 ∷ 7 ∷ 1620 ∷ 7 ∷ 1895 ∷ 5410 ∷ [])
      ∷ []
  pub windows_fit : Windows shorter (lines shorter two_hops 1) two_hops 1 hop_offsets
  pub keep_buckets : Readings shorter two_hops 1 late_reading
  pub arrived : received hop_network late_reading first 2280 ≡ 2 ∷ 360 ∷ 2280 ∷ []
