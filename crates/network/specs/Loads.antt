-- The figures of a network's links, what they must fulfil, and token buckets (document 01, 'Time on the air' and 'The tree and its
-- loads'). Rates are in frames per interval, bursts in frame-symbols (frames × BI), latencies and delays in symbols. The figures are
-- functions of the node: a row's lines and a surveyed tree's are instances. Assumes nothing.
use Rattle.std.specs.Prelude.{◌≡◌, ◌≢◌, List, ℕ, ◌+◌, ◌*◌, ◌≤◌, ◌<◌}
use Rattle.network.specs.Counting.{total, bit, All}
use Rattle.network.specs.Model.{Network}
use Rattle.network.specs.Readings.{Reading, made}
use Rattle.network.specs.Run.{feeds}

-- "a load as rate ρ (frames per BI) and burst β", and what follows from it for a link
pub record Flows : Type 0 where
  -- the token bucket of a node's own sensor; 0 and 0 where it does not sense
  pub own_rate : ℕ → ℕ
  pub own_burst : ℕ → ℕ
  -- ρ and β: the load that enters a node, its own sensor's included
  pub rate : ℕ → ℕ
  pub burst : ℕ → ℕ
  -- T and the delay of a node's link
  pub latency : ℕ → ℕ
  pub delay : ℕ → ℕ
  -- the delay that is promised to the frames of a node's own sensor, over their whole route to the sink
  pub route : ℕ → ℕ

-- "load after it: rate ρ, burst β + ρ × T": the burst that has left a node's link
unfoldable pub burst_after : Flows → ℕ → ℕ
burst_after F v = F.burst v + F.rate v * F.latency v

-- a node that has a link: any but the sink
pub record Linked (N : Network) (v : ℕ) : Type 0 where
  pub node : v < N.nodes
  pub not_sink : v ≢ N.sink

-- What the figures must fulfil so that they hold in every run. All of it is local to a node and its neighbours.
pub record Provisioned (N : Network) (F : Flows) : Type 0 where
  -- an interval and an exchange last at least a symbol
  pub interval_positive : 0 < N.interval
  pub exchange_positive : 0 < N.exchange
  -- the sink is a node, and every link leads to a node
  pub sink_is_node : N.sink < N.nodes
  pub next_is_node : (v : ℕ) → Linked N v → N.next v < N.nodes
  -- "a window lies whole within every interval"
  pub window_fits : (v : ℕ) → Linked N v → N.offset v + N.holds v * N.exchange ≤ N.interval
  -- H1, service: a window holds at least the frames that enter in an interval, ρ ≤ m
  pub serves : (v : ℕ) → Linked N v → F.rate v ≤ N.holds v
  -- H2, latency: T = BI − (m − 2) × X
  pub latency_is : (v : ℕ) → Linked N v → F.latency v + N.holds v * N.exchange ≡ N.interval + 2 * N.exchange
  -- H3, load: what enters a node is at least its own sensor's load and the loads that left the links to it
  pub rate_enters : (v : ℕ) → v < N.nodes → F.own_rate v + total (λ w. bit (feeds N w v) * F.rate w) N.nodes ≤ F.rate v
  pub burst_enters : (v : ℕ) → v < N.nodes → F.own_burst v + total (λ w. bit (feeds N w v) * burst_after F w) N.nodes ≤ F.burst v
  -- H4, delay: at least β / m rounded up, plus T, here without the division. Where m = 0 nothing is ever sent, and this makes β = 0.
  pub delay_covers : (v : ℕ) → Linked N v → F.burst v + N.holds v * F.latency v ≤ N.holds v * F.delay v
  -- the delay of a route is at least that of its first link and that of the route from there
  pub route_covers : (v : ℕ) → Linked N v → F.delay v + F.route (N.next v) ≤ F.route v

-- H5: "A sensor makes, in any t consecutive symbols, at most a frames with a × BI ≤ BURST × BI + RATE × t; this is its token bucket."
-- The t symbols are those from x on. Asked of every node: one that does not sense has rate and burst 0 and so makes none.
pub record Buckets (N : Network) (F : Flows) (l : List Reading) : Type 0 where
  -- every reading is of a node of the network
  pub sensors : All (λ r. r.sensor < N.nodes) l
  pub bucket : (v x t : ℕ) → v < N.nodes → total (λ i. made l (x + i) v) t * N.interval ≤ F.own_burst v + F.own_rate v * t
