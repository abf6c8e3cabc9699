-- Rows, trees within them, windows and readings that fulfil all that demand 3 asks for, with traffic: the promise is not about nothing,
-- and its bound on queues cannot be lowered. Assumes nothing: these are definitions and statements; proofs/Witnesses proves them.
use Rattle.std.specs.Prelude.{◌≡◌, true, false, List, [], ◌∷◌, map, ℕ, suc, ◌+◌, ◌*◌, ◌≤◌, length, get_or}
use Rattle.network.specs.Counting.{All}
use Rattle.network.specs.Model.{Network, queue}
use Rattle.network.specs.Readings.{Reading}
use Rattle.network.specs.Oracle.{run}
use Rattle.network.specs.Examples.{reading, first, received, lengths_at, soon_from}
use Rattle.measure.specs.Measures.{slots}
use Rattle.refusals.specs.declared.Refusal.TheVariants.{SlotsUsed}
use Rattle.settings_model.specs.declared.Settings.{Settings}
use Rattle.settings_model.specs.Checks.{radio_of}
use Rattle.row_model.specs.Times.{row_timing, reservable_at}
use Rattle.row_model.specs.Checks.{routers, used_off_path, used_on_path}
use Rattle.plan_model.specs.Times.{superframes}
use Rattle.plan_model.specs.Lines.{columns}
use Rattle.row_model.specs.Lines.{lines}
use Rattle.refusals.specs.Outcome.{Planned, Refused}
use Rattle.row_model.specs.Outcome.{outcome_of}
use Rattle.row_model.specs.Tree.{Tree, Within, line_of}
use Rattle.row_model.specs.Promise.{network_of, Windows, Readings, sink_line, Held}

-- settings in the columns' order
unfoldable pub lossy_settings : ℕ → ℕ → ℕ → ℕ → ℕ → ℕ → ℕ → ℕ → ℕ → ℕ → ℕ → ℕ → ℕ → Settings
lossy_settings bo so h nr ne own sink burst rate head payload ack loss = record {
  bo = bo;
  so = so;
  h = h;
  nr = nr;
  ne = ne;
  own = own;
  sink = sink;
  burst = burst;
  rate = rate;
  head = head;
  payload = payload;
  ack = ack;
  loss = loss;
}

-- those of a row of twelve values
unfoldable pub settings : ℕ → ℕ → ℕ → ℕ → ℕ → ℕ → ℕ → ℕ → ℕ → ℕ → ℕ → ℕ → Settings
settings bo so h nr ne own sink burst rate head payload ack = lossy_settings bo so h nr ne own sink burst rate head payload ack 0

-- ---- a tree with its sink below the root, in which every node senses

-- `2 0 1 2 1 1 1 1 1 5 1 0`: BI = 3840, S = 60, X = 36
unfoldable pub row : Settings
row = settings 2 0 1 2 1 1 1 1 1 5 1 0

-- The root is node 4; the sink, 1, and router 2 are its child routers. Of the end nodes, 0 is the root's, 3 the sink's, 5 router 2's.
unfoldable pub tree : Tree
tree = record {
  nodes = 6;
  root = 4;
  parent = λ v. get_or (4 ∷ 4 ∷ 4 ∷ 1 ∷ 4 ∷ 2 ∷ []) v 0;
  depth = λ v. get_or (1 ∷ 1 ∷ 1 ∷ 2 ∷ 0 ∷ 2 ∷ []) v 0;
  is_router = λ v. get_or (false ∷ true ∷ true ∷ false ∷ true ∷ false ∷ []) v false;
  sink = 1;
}

-- the first symbol of each node's window
unfoldable pub offsets : ℕ → ℕ
offsets v = get_or (300 ∷ 0 ∷ 38 ∷ 3780 ∷ 111 ∷ 1 ∷ []) v 0

unfoldable pub network : Network
network = network_of row (lines row) tree offsets

-- a frame each of end node 5, router 2, the root and the sink, all in symbol 0
unfoldable pub readings : List Reading
readings = reading 0 5 1 ∷ reading 0 2 1 ∷ reading 0 4 1 ∷ reading 0 1 1 ∷ []

-- Node 5 sends its frame in symbol 1, and it is at router 2 in 37. Router 2 sends its own in 38, at the root in 74, and node 5's in 74,
-- at the root in 110. The root sends its own in 111, router 2's in 147 and node 5's in 183.
pub record Witnessed : Type 0 where
  -- the row is planned, with these lines: KIND's letter, DEPTH, RATE, BURST, SLOTS, FRAMES, LATENCY, BUFFER, DELAY
  pub planned : outcome_of row ≡ Planned (lines row)
  pub printed : map columns (lines row)
      ≡ (69 ∷ 0 ∷ 1 ∷ 3840 ∷ 1 ∷ 1 ∷ 3876 ∷ 3 ∷ 7716 ∷ [])
      ∷ (85 ∷ 1 ∷ 2 ∷ 11556 ∷ 2 ∷ 3 ∷ 3804 ∷ 5 ∷ 7656 ∷ [])
      ∷ (68 ∷ 0 ∷ 4 ∷ 30720 ∷ 3 ∷ 5 ∷ 3732 ∷ 12 ∷ 9876 ∷ [])
      ∷ (83 ∷ 1 ∷ 6 ∷ 57204 ∷ 0 ∷ 0 ∷ 0 ∷ 15 ∷ 25248 ∷ [])
      ∷ []
  -- the tree is within the row
  pub within_row : Within row tree
  -- nodes 0, 3, 5, 2 and 4 have these neighbours on the way to the sink, and their windows hold so many exchanges
  pub neighbours : map network.next (0 ∷ 3 ∷ 5 ∷ 2 ∷ 4 ∷ []) ≡ 4 ∷ 1 ∷ 2 ∷ 4 ∷ 1 ∷ []
  pub exchanges : map network.holds (0 ∷ 3 ∷ 5 ∷ 2 ∷ 4 ∷ []) ≡ 1 ∷ 1 ∷ 1 ∷ 3 ∷ 5 ∷ []
  -- all windows fit the interval, and node 3's ends with it
  pub windows_fit : Windows row (lines row) tree offsets
  pub last_window : offsets 3 + (line_of tree (lines row) 3).slots.0 * (row_timing row).slot.0 ≡ (row_timing row).interval.0
  -- the readings are of sensors and keep their token buckets, but would not with one frame more of any of them in the same symbol
  pub keep_buckets : Readings row tree readings
  pub at_the_limit : All (λ v. ¬ Readings row tree (reading 0 v 1 ∷ readings)) (5 ∷ 2 ∷ 4 ∷ 1 ∷ [])
  -- what the sink received through symbol 219: sensor, symbol made and symbol come, frame by frame
  pub arrived : received network readings first 219 ≡ 1 ∷ 0 ∷ 0 ∷ 4 ∷ 0 ∷ 147 ∷ 2 ∷ 0 ∷ 183 ∷ 5 ∷ 0 ∷ 219 ∷ []
  -- none of these frames was on its way longer than DELAY of line S
  pub in_time : All (λ f. f.came ≤ f.made + (sink_line row (lines row)).delay.0) (run network readings first 220).received
  -- Router 2's queue at the end of some symbols: the frame that it sends in 38 fills its place through 73.
  pub routers_queue : lengths_at network readings 2 (0 ∷ 36 ∷ 37 ∷ 38 ∷ 73 ∷ 74 ∷ 109 ∷ 110 ∷ []) ≡ 1 ∷ 1 ∷ 2 ∷ 2 ∷ 2 ∷ 1 ∷ 1 ∷ 0 ∷ []
  -- the root's: the frame that it sends in 111 fills its place through 146
  pub roots_queue : lengths_at network readings 4 (0 ∷ 73 ∷ 74 ∷ 109 ∷ 110 ∷ 111 ∷ 146 ∷ 147 ∷ 183 ∷ 219 ∷ []) ≡ 1 ∷ 1 ∷ 2 ∷ 2 ∷ 3 ∷ 3 ∷ 3 ∷ 2 ∷ 1 ∷ 0 ∷ []
  -- BUFFER of their lines
  pub buffers : map (λ v. (line_of tree (lines row) v).buffer.0) (2 ∷ 4 ∷ []) ≡ 5 ∷ 12 ∷ []
  -- demand 3 of this run, at the end of every symbol, whichever of several frames goes first
  pub kept : (pick : ℕ → ℕ → ℕ) (u : ℕ) → Held row (lines row) tree network readings u (run network readings pick (suc u))

-- ---- a queue that is filled to BUFFER

-- the root, which is the sink, and an end node of BURST 1 and RATE 2, with BI = 960 and S = 60, for any frames
unfoldable pub small_settings : ℕ → ℕ → ℕ → ℕ → Settings
small_settings head payload ack loss = lossy_settings 0 0 0 0 1 0 0 1 2 head payload ack loss

-- `0 0 0 0 1 0 0 1 2 17 1 0`: X = 60; the end node has β = 960, ρ = 2, m = 2 and T = 960
unfoldable pub small_row : Settings
small_row = small_settings 17 1 0 0

-- node 0 is the root and the sink, node 1 its end node
unfoldable pub small_tree : Tree
small_tree = record { nodes = 2; root = 0; parent = λ v. 0; depth = λ v. v; is_router = λ v. get_or (true ∷ []) v false; sink = 0 }

-- its starts: 0, 60, 960, 1020 and so on
unfoldable pub small_network : Network
small_network = network_of small_row (lines small_row) small_tree (λ v. 0)

-- the first frame misses the start in symbol 60
unfoldable pub full_readings : List Reading
full_readings = soon_from 60

-- Its queue holds BUFFER frames: no smaller BUFFER would do.
pub record Filled : Type 0 where
  -- the row is planned, with these lines
  pub planned : outcome_of small_row ≡ Planned (lines small_row)
  pub printed : map columns (lines small_row) ≡ (69 ∷ 0 ∷ 2 ∷ 960 ∷ 2 ∷ 2 ∷ 960 ∷ 3 ∷ 1440 ∷ []) ∷ (83 ∷ 0 ∷ 2 ∷ 2880 ∷ 0 ∷ 0 ∷ 0 ∷ 3 ∷ 1440 ∷ []) ∷ []
  -- the tree is within the row, its window fits, and the readings keep the token bucket
  pub within_row : Within small_row small_tree
  pub windows_fit : Windows small_row (lines small_row) small_tree (λ v. 0)
  pub keep_buckets : Readings small_row small_tree full_readings
  -- at the end of symbol 1019 the first frame is still on the air, and the queue is full
  pub full : length (queue (run small_network full_readings first 1020) 1) ≡ (line_of small_tree (lines small_row) 1).buffer.0
  -- That frame came 960 symbols after it was made: β / m = 480 symbols without T would be too few.
  pub arrived : received small_network full_readings first 1020 ≡ 1 ∷ 60 ∷ 1020 ∷ []

-- ---- tries that may fail (document 02, E5)

-- `0 0 0 0 1 0 0 1 2 5 1 1 1`: X = 70, so that an exchange with one failed try of 90 lasts 160
unfoldable pub lossy_row : Settings
lossy_row = small_settings 5 1 1 1

-- its starts: 0, 160, 960, 1120 and so on
unfoldable pub lossy_network : Network
lossy_network = network_of lossy_row (lines lossy_row) small_tree (λ v. 0)

-- the first frame misses the start in symbol 160
unfoldable pub lossy_readings : List Reading
lossy_readings = soon_from 160

pub record Lossy : Type 0 where
  -- 6 slots hold two exchanges of 160 symbols; as many as without loss go into 3
  pub planned : outcome_of lossy_row ≡ Planned (lines lossy_row)
  pub printed : map columns (lines lossy_row) ≡ (69 ∷ 0 ∷ 2 ∷ 960 ∷ 6 ∷ 2 ∷ 960 ∷ 3 ∷ 1440 ∷ []) ∷ (83 ∷ 0 ∷ 2 ∷ 2880 ∷ 0 ∷ 0 ∷ 0 ∷ 3 ∷ 1440 ∷ []) ∷ []
  pub lasts : lossy_network.exchange ∷ lossy_network.holds 1 ∷ [] ≡ 160 ∷ 2 ∷ []
  pub without_loss : map columns (lines (small_settings 5 1 1 0)) ≡ (69 ∷ 0 ∷ 2 ∷ 960 ∷ 3 ∷ 2 ∷ 960 ∷ 3 ∷ 1440 ∷ []) ∷ (83 ∷ 0 ∷ 2 ∷ 2880 ∷ 0 ∷ 0 ∷ 0 ∷ 3 ∷ 1440 ∷ []) ∷ []
  -- the tree is within the row, its window fits, and the readings keep the token bucket
  pub within_row : Within lossy_row small_tree
  pub windows_fit : Windows lossy_row (lines lossy_row) small_tree (λ v. 0)
  pub keep_buckets : Readings lossy_row small_tree lossy_readings
  -- "a frame counts as received when its exchange ends": the first frame is sent in symbol 960 and fills its place through 1119, when the queue
  -- is full, and it comes to the sink in 1120
  pub full : lengths_at lossy_network lossy_readings 1 (160 ∷ 639 ∷ 1030 ∷ 1119 ∷ 1120 ∷ []) ≡ 1 ∷ 2 ∷ 2 ∷ 3 ∷ 2 ∷ []
  pub arrived : received lossy_network lossy_readings first 1120 ≡ 1 ∷ 160 ∷ 1120 ∷ []
  pub buffer : (line_of small_tree (lines lossy_row) 1).buffer.0 ≡ 3
  -- demand 3 of this run, at the end of every symbol, whichever of several frames goes first
  pub kept : (pick : ℕ → ℕ → ℕ) (u : ℕ) → Held lossy_row (lines lossy_row) small_tree lossy_network lossy_readings u (run lossy_network lossy_readings pick (suc u))

-- ---- routers on the sink's path

-- P2 with H and SINK 2
unfoldable pub deep_row : Settings
deep_row = settings 8 4 2 2 1 0 2 1 1 19 7 0

-- `2 0 1 2 1 1 1 1 1 17 1 0`: S = X = 60, so a link takes as many slots as its rate
unfoldable pub full_slots : Settings
full_slots = settings 2 0 1 2 1 1 1 1 1 17 1 0

-- `4 1 2 2 2 1 2 1 1 5 7 0`: S = 120, X = 48
unfoldable pub tight_row : Settings
tight_row = settings 4 1 2 2 2 1 2 1 1 5 7 0

pub record OnThePath : Type 0 where
  -- the lines of a sink two depths below the root; RATE of line D 1 is 1 of the end node, 1 of the other child router and 4 of the root
  pub deep : map columns (lines deep_row)
      ≡ (69 ∷ 0 ∷ 1 ∷ 245760 ∷ 1 ∷ 9 ∷ 245032 ∷ 2 ∷ 272339 ∷ [])
      ∷ (85 ∷ 2 ∷ 1 ∷ 490792 ∷ 1 ∷ 9 ∷ 245032 ∷ 3 ∷ 299565 ∷ [])
      ∷ (85 ∷ 1 ∷ 3 ∷ 1962440 ∷ 1 ∷ 9 ∷ 245032 ∷ 11 ∷ 463081 ∷ [])
      ∷ (68 ∷ 0 ∷ 4 ∷ 3188328 ∷ 1 ∷ 9 ∷ 245032 ∷ 17 ∷ 599291 ∷ [])
      ∷ (68 ∷ 1 ∷ 6 ∷ 5395072 ∷ 1 ∷ 9 ∷ 245032 ∷ 28 ∷ 844485 ∷ [])
      ∷ (83 ∷ 2 ∷ 7 ∷ 7356056 ∷ 0 ∷ 0 ∷ 0 ∷ 30 ∷ 2478761 ∷ [])
      ∷ []
  -- All 7 reservable slots of a root are used: its end node takes 1, the one of its child routers that sends upward 2, and its own
  -- downward link 4. The row is planned.
  pub used : (used_on_path full_slots 0).0 ∷ (reservable_at full_slots 0).0 ∷ [] ≡ 7 ∷ 7 ∷ []
  pub planned : outcome_of full_slots ≡ Planned (lines full_slots)
  -- The root has slots enough, 11 of 11, and the router below it on the path has not, 12 of 11: refusal 7, place 1.
  pub tight : (used_on_path tight_row 0).0 ∷ (used_on_path tight_row 1).0 ∷ (reservable_at tight_row 0).0 ∷ (reservable_at tight_row 1).0 ∷ [] ≡ 11 ∷ 12 ∷ 11 ∷ 11 ∷ []
  pub refused : outcome_of tight_row ≡ Refused (SlotsUsed 1 (slots 12) (slots 11))

-- ---- conditions that are just met

-- `0 0 0 0 7 0 0 1 1 17 1 0`: a router with 7 end nodes of one slot each
unfoldable pub all_slots : Settings
all_slots = settings 0 0 0 0 7 0 0 1 1 17 1 0

-- P7: `5 4 1 1 1 0 0 1 1 19 7 0`
unfoldable pub all_superframes : Settings
all_superframes = settings 5 4 1 1 1 0 0 1 1 19 7 0

pub record JustMet : Type 0 where
  -- 7 slots of 7
  pub used : (used_off_path all_slots 0).0 ∷ (reservable_at all_slots 0).0 ∷ [] ≡ 7 ∷ 7 ∷ []
  pub planned : outcome_of all_slots ≡ Planned (lines all_slots)
  -- 2 routers of 2
  pub counted : routers all_superframes ∷ superframes (radio_of all_superframes) ∷ [] ≡ 2 ∷ 2 ∷ []
  pub planned_too : outcome_of all_superframes ≡ Planned (lines all_superframes)

-- ---- a beacon for each router's own reservations (document 02, E2)

-- P3: `0 0 0 0 4 0 0 1 1 19 7 0`
unfoldable pub long_beacon : Settings
long_beacon = settings 0 0 0 0 4 0 0 1 1 19 7 0

-- `4 0 1 1 0 1 0 1 8 17 1 0`: the root has one reservation, its child router none
unfoldable pub own_beacons : Settings
own_beacons = settings 4 0 1 1 0 1 0 1 8 17 1 0

pub record OwnCounts : Type 0 where
  -- 8 slots of 7, where 440 symbols alone would leave 8
  pub used : (used_off_path long_beacon 0).0 ∷ (reservable_at long_beacon 0).0 ∷ [] ≡ 8 ∷ 7 ∷ []
  pub refused : outcome_of long_beacon ≡ Refused (SlotsUsed 0 (slots 8) (slots 7))
  -- 8 slots of 7 at the root, where its child router's L is 8
  pub apart : (used_off_path own_beacons 0).0 ∷ (reservable_at own_beacons 0).0 ∷ (reservable_at own_beacons 1).0 ∷ [] ≡ 8 ∷ 7 ∷ 8 ∷ []
  pub refused_too : outcome_of own_beacons ≡ Refused (SlotsUsed 0 (slots 8) (slots 7))
