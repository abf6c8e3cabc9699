-- The way from each node of a surveyed tree to the sink (document 02, E3: "Each link runs towards the sink and lies in the parent's
-- superframe"). Assumes nothing: these are definitions.
use Rattle.std.specs.Prelude.{◌≡◌, true, false, cond, ℕ, zero, suc, ◌≤◌, eqb, leb}
use Rattle.plan_model.specs.declared.Kind.{Kind}
use Rattle.plan_model.specs.declared.Kind.TheVariants.{EndNode, Upward, Downward, Sink}
use Rattle.tree_model.specs.Tree.{Tree, is_router, other_neighbour}

-- the node on the way up from c whose parent is v, or 0 where v is not above c; k bounds the way
unfoldable pub child_by : ℕ → Tree → ℕ → ℕ → ℕ
child_by zero t c v = 0
child_by (suc k) t zero v = 0
child_by (suc k) t (suc c) v = elim (eqb (t.parent (suc c)) v) [ true ↦ suc c | false ↦ child_by k t (t.parent (suc c)) v ]

-- the child of v that is the sink or has it below, or 0 where the sink is not below v
unfoldable pub child_towards : Tree → ℕ → ℕ → ℕ
child_towards t sink v = child_by t.nodes t sink v

-- c, or p where c is 0
abbrev pub or_else : ℕ → ℕ → ℕ
or_else zero p = p
or_else (suc c) p = suc c

-- a node's neighbour towards the sink: that child where the sink lies below the node, else its parent; 0 at the sink
unfoldable pub next : Tree → ℕ → ℕ → ℕ
next t sink v = elim (eqb v sink) [ true ↦ 0 | false ↦ or_else (child_towards t sink v) (t.parent v) ]

-- the router in whose superframe the link of node v lies, the parent of the two: v itself where the sink lies below it, else v's parent
abbrev pub superframe_by : ℕ → ℕ → ℕ → ℕ
superframe_by zero v parent = parent
superframe_by (suc c) v parent = v

unfoldable pub superframe_of : Tree → ℕ → ℕ → ℕ
superframe_of t sink v = superframe_by (child_towards t sink v) v (t.parent v)

-- "KIND is S for the sink, D where the sink lies below the node, else E for a leaf and U for a router"
unfoldable pub kind_of : Tree → ℕ → ℕ → Kind
kind_of t sink v = cond (eqb v sink) Sink (cond (leb 1 (child_towards t sink v)) Downward (cond (is_router t v) Upward EndNode))

-- "DEPTH is the node's own": the steps up to the root; k bounds them
unfoldable pub depth_by : ℕ → Tree → ℕ → ℕ
depth_by zero t v = 0
depth_by (suc k) t v = cond (leb v 1) 0 (suc (depth_by k t (t.parent v)))

unfoldable pub depth_of : Tree → ℕ → ℕ
depth_of t v = depth_by v t v

-- u is v, or lies beyond v as seen from the sink
pub data Beyond (t : Tree) (sink : ℕ) : ℕ → ℕ → Type 0 where
  here : {v : ℕ} → Beyond t sink v v
  there : {v u : ℕ} (w : ℕ) → 1 ≤ w → w ≤ t.nodes → other_neighbour t v (next t sink v) w ≡ true → Beyond t sink w u → Beyond t sink v u
