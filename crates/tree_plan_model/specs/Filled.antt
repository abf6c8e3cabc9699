-- What the passes over a tree's nodes leave in their tables: entry v is of node v. Assumes nothing: these are definitions.
use Rattle.std.specs.Prelude.{◌≡◌, List, ℕ, ◌≤◌, ◌<◌, length, get_or}
use Rattle.links.specs.declared.Timing.{Timing}
use Rattle.tree_model.specs.Ways.{depth_of}
use Rattle.tree_plan_model.specs.Inner.{shape, towards_in}
use Rattle.tree_plan_model.specs.Tables.{way_in}

-- the depths of the nodes up to n
pub record DepthsTo (ps : List ℕ) (n : ℕ) (hs : List ℕ) : Type 0 where
  pub each : (v : ℕ) → 1 ≤ v → v ≤ n → get_or hs v 0 ≡ depth_of (shape ps) v

pub record DepthsSet (ps hs : List ℕ) : Type 0 where
  pub each : (v : ℕ) → 1 ≤ v → v < length ps → get_or hs v 0 ≡ depth_of (shape ps) v

-- the way's delay of the sink, and of the nodes from n on that the sink lies below
pub record DownFrom (a : Timing) (ps ns : List ℕ) (sink n : ℕ) (ws : List ℕ) : Type 0 where
  pub own : get_or ws sink 0 ≡ way_in a ps ns sink sink
  pub downs : (v : ℕ) → n ≤ v → 1 ≤ v → v < length ps → v < towards_in ns v → get_or ws v 0 ≡ way_in a ps ns sink v

-- and of all nodes up to n besides
pub record UpTo (a : Timing) (ps ns : List ℕ) (sink n : ℕ) (ws : List ℕ) : Type 0 where
  pub down : DownFrom a ps ns sink 1 ws
  pub ups : (v : ℕ) → 1 ≤ v → v ≤ n → v < length ps → get_or ws v 0 ≡ way_in a ps ns sink v

pub record WaysSet (a : Timing) (ps ns : List ℕ) (sink : ℕ) (ws : List ℕ) : Type 0 where
  pub each : (v : ℕ) → 1 ≤ v → v < length ps → get_or ws v 0 ≡ way_in a ps ns sink v
