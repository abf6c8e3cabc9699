-- Networks, figures and readings that fulfil all hypotheses together, with traffic: the theorem is not about nothing, and its bound on
-- queues cannot be lowered. Assumes nothing.
use Rattle.std.specs.Prelude.{◌≡◌, List, [], ◌∷◌, ◌++◌, ◌*◌, length}
use Rattle.network.specs.Model.{Network, queue}
use Rattle.network.specs.Readings.{Reading}
use Rattle.network.specs.Oracle.{run}
use Rattle.network.specs.Loads.{Flows, burst_after, Provisioned, Buckets}
use Rattle.network.specs.Examples.{link, per_node, reading, one, first, received}

-- ---- one link whose queue is filled to its bound

-- BI = 10, X = 1, m = 1, ρ = 1, β = 9, so T = 11 and β + ρ × T = 20
unfoldable pub full_figures : Flows
full_figures = record {
  own_rate = per_node 0 1 0 0;
  own_burst = per_node 0 9 0 0;
  rate = per_node 1 1 0 0;
  burst = per_node 20 9 0 0;
  latency = per_node 0 11 0 0;
  delay = per_node 0 20 0 0;
  route = per_node 0 20 0 0;
}

-- a frame in symbol 0, which misses the start in 0, and one in symbol 10, in which the first goes on the air
unfoldable pub full_readings : List Reading
full_readings = one 0 ++ one 10

-- The queue's bound is reached exactly: (β + ρ × T) / BI = 2 frames at the end of symbol 10. So no smaller latency or burst will do.
pub record Full : Type 0 where
  pub provisioned : Provisioned (link 0 1 1) full_figures
  pub buckets : Buckets (link 0 1 1) full_figures full_readings
  pub reached : length (queue (run (link 0 1 1) full_readings first 11) 1) * 10 ≡ burst_after full_figures 1

-- ---- a tree of two hops in which every node senses

-- Nodes 2 and 3 send to node 1, in symbols 0 and 2; node 1 sends to the sink, 0, in symbols 7, 8 and 9: its window ends with the interval.
unfoldable pub tree : Network
tree = record { nodes = 4; sink = 0; next = per_node 0 0 1 1; interval = 10; exchange = 1; offset = per_node 0 7 0 2; holds = per_node 0 3 1 1 }

-- ρ = 1 and β = 10 for each sensor, T = 11 for nodes 2 and 3 and 9 for node 1
unfoldable pub tree_figures : Flows
tree_figures = record {
  own_rate = per_node 1 1 1 1;
  own_burst = per_node 10 10 10 10;
  rate = per_node 4 3 1 1;
  burst = per_node 89 52 10 10;
  latency = per_node 0 9 11 11;
  delay = per_node 0 27 21 21;
  route = per_node 0 27 48 48;
}

-- every sensor makes a frame in symbol 0
unfoldable pub tree_readings : List Reading
tree_readings = reading 0 0 1 ∷ reading 0 1 1 ∷ reading 0 2 1 ∷ reading 0 3 1 ∷ []

-- The sink's own frame is there at once; node 1 sends its own in symbol 7 and that of node 3, which came in symbol 3, in symbol 8; node 2's
-- frame missed the start in symbol 0, goes in symbol 10, and on in symbol 17.
pub record Travelled : Type 0 where
  pub provisioned : Provisioned tree tree_figures
  pub buckets : Buckets tree tree_figures tree_readings
  pub arrived : received tree tree_readings first 30 ≡ 0 ∷ 0 ∷ 0 ∷ 1 ∷ 0 ∷ 8 ∷ 3 ∷ 0 ∷ 9 ∷ 2 ∷ 0 ∷ 18 ∷ []
