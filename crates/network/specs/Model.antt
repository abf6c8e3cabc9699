-- A network of links that lead to one sink, and what it holds between two symbols (document 01, 'Time on the air' and 'The run').
-- Assumes nothing.
use Rattle.std.specs.Prelude.{List, ◌++◌, map, ℕ}

-- "Each node but the sink has one queue and one link, to its neighbour on the way to the sink."
pub record Network : Type 0 where
  -- the nodes are 0 to nodes − 1
  pub nodes : ℕ
  -- the node to which all frames go
  pub sink : ℕ
  -- the neighbour to which a node's link leads
  pub next : ℕ → ℕ
  -- BI, the beacon interval in symbols
  pub interval : ℕ
  -- X, the symbols that one exchange lasts
  pub exchange : ℕ
  -- a, the first symbol of the window of a node's link, "at the same offset in each" interval
  pub offset : ℕ → ℕ
  -- m, the exchanges that the window holds
  pub holds : ℕ → ℕ

-- A frame: the sensor that made it, the symbol in which it was made, and the symbol in which it came to the node where it is
-- (where it was made, that is the same symbol).
pub record Frame : Type 0 where
  pub sensor : ℕ
  pub made : ℕ
  pub came : ℕ

-- An exchange on the air: its frame, and the symbol in which it started.
pub record Exchange : Type 0 where
  pub frame : Frame
  pub started : ℕ

-- "Nothing else changes a queue, and each symbol takes up what the last one left": what is left.
pub record State : Type 0 where
  -- the frames that wait at each node, in the order in which they came
  pub waiting : ℕ → List Frame
  -- the exchanges on the air from each node
  pub air : ℕ → List Exchange
  -- the frames that came to the sink or were made there, in the order in which they came
  pub received : List Frame

-- The queue of a node. A frame on the air belongs to it: "It is at the receiver X symbols later; until then it fills its place
-- in the queue."
unfoldable pub queue : State → ℕ → List Frame
queue s v = s.waiting v ++ map (λ e. e.frame) (s.air v)
