-- Trees within a row, and their network (document 01, 'The tree and its loads' and 'The run'). Assumes nothing: these are definitions.
use Rattle.std.specs.Prelude.{◌≡◌, ◌≢◌, Bool, true, cond, not, ◌&&◌, List, ℕ, zero, suc, ◌-◌, ◌≤◌, ◌<◌, eqb, ltb}
use Rattle.network.specs.Counting.{total, bit}
use Rattle.links.specs.declared.Figures.{Figures}
use Rattle.settings_model.specs.declared.Settings.{Settings}
use Rattle.plan_model.specs.declared.Kind.TheVariants.{EndNode, Upward, Downward}
use Rattle.plan_model.specs.declared.Line.{Line}
use Rattle.row_model.specs.Lines.{figures_at}

-- ---- trees

-- The nodes are 0 to nodes − 1, numbered in any way. A node is a router or an end node.
pub record Tree : Type 0 where
  pub nodes : ℕ
  pub root : ℕ
  pub parent : ℕ → ℕ
  pub depth : ℕ → ℕ
  pub is_router : ℕ → Bool
  pub sink : ℕ

-- is w a child of v?
unfoldable pub is_child : Tree → ℕ → ℕ → Bool
is_child T v w = not (eqb w T.root) && eqb (T.parent w) v

-- how many child routers, and how many end nodes, a node has
unfoldable pub child_routers : Tree → ℕ → ℕ
child_routers T v = total (λ w. bit (is_child T v w && T.is_router w)) T.nodes

unfoldable pub end_nodes : Tree → ℕ → ℕ
end_nodes T v = total (λ w. bit (is_child T v w && not (T.is_router w))) T.nodes

-- A tree within the row's H, NR and NE, its sink at depth SINK. It need not be full.
pub record Within (s : Settings) (T : Tree) : Type 0 where
  -- the root is a router, at depth 0
  pub root_is_node : T.root < T.nodes
  pub root_is_router : T.is_router T.root ≡ true
  pub root_depth : T.depth T.root ≡ 0
  -- every other node has a router above it, one depth higher
  pub parent_is_node : (v : ℕ) → v < T.nodes → v ≢ T.root → T.parent v < T.nodes
  pub parent_is_router : (v : ℕ) → v < T.nodes → v ≢ T.root → T.is_router (T.parent v) ≡ true
  pub parent_depth : (v : ℕ) → v < T.nodes → v ≢ T.root → T.depth v ≡ suc (T.depth (T.parent v))
  -- "Routers stand at depth 0 (the root) to H. Each has at most NR child routers, none at depth H, and at most NE end nodes."
  pub deepest : (v : ℕ) → v < T.nodes → T.is_router v ≡ true → T.depth v ≤ s.h
  pub routers : (v : ℕ) → v < T.nodes → child_routers T v ≤ s.nr
  pub ends : (v : ℕ) → v < T.nodes → end_nodes T v ≤ s.ne
  -- "The sink is a router at depth SINK."
  pub sink_is_node : T.sink < T.nodes
  pub sink_is_router : T.is_router T.sink ≡ true
  pub sink_depth : T.depth T.sink ≡ s.sink

-- ---- the way to the sink

-- the node k steps above v
unfoldable pub ancestor : Tree → ℕ → ℕ → ℕ
ancestor T zero v = v
ancestor T (suc k) v = T.parent (ancestor T k v)

-- is the sink below v?
unfoldable pub sink_below : Tree → ℕ → Bool
sink_below T v = ltb (T.depth v) (T.depth T.sink) && eqb (ancestor T (T.depth T.sink - T.depth v) T.sink) v

-- "its neighbour on the way to the sink": the child above the sink, or that is the sink, where the sink is below; else the parent
unfoldable pub towards : Tree → ℕ → ℕ
towards T v = cond (sink_below T v) (ancestor T (T.depth T.sink - suc (T.depth v)) T.sink) (T.parent v)

-- "The link's line is E for an end node, D at its depth for a router with the sink below it, else U at its depth."
unfoldable pub line_of : Tree → List Line → ℕ → Figures
line_of T p v = cond (T.is_router v)
    (cond (sink_below T v) (figures_at Downward (T.depth v) p) (figures_at Upward (T.depth v) p))
    (figures_at EndNode 0 p)
