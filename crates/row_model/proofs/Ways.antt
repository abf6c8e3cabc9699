-- The way to the sink in a tree within a row: which nodes stand on it, and where each link leads. Assumes nothing.
use mathlib.Core.Path.{◌≡◌, refl, sym, ap, ◌∙◌, subst}
use mathlib.Core.Logic.{◌≢◌}
use mathlib.Core.Bool.{Bool, true, false, cond, ◌||◌, and-eq-true_iff, true≢false}
use Prim.Native.Nat.{ℕ, zero, suc, ◌+◌, ◌-◌, ◌≤◌, ◌<◌}
use native.Mathlib.Decide.{ℕ_discrete}
use native.Mathlib.Omega.{arith}
use lib.Dec.{eqb, ltb}
use borrow.Author.Tests.{ltb-true, eqb-true, lt-ltb, eq-eqb, ne_eqb}
use Rattle.settings_model.specs.declared.Settings.{Settings}
use Rattle.row_model.specs.Tree.{Tree, Within, ancestor, sink_below, towards}

-- is v the sink, or the sink below v?
unfoldable pub on_way : Tree → ℕ → Bool
on_way T v = eqb v T.sink || sink_below T v

-- the sink is on the way, and so is every node with the sink below it; any other node is not
pub sink-on-way : (T : Tree) (v : ℕ) → v ≡ T.sink → on_way T v ≡ true
unfolding on_way
sink-on-way T v e = rw (eq-eqb v T.sink e)

pub above-on-way : (T : Tree) (v : ℕ) → sink_below T v ≡ true → on_way T v ≡ true
unfolding on_way
above-on-way T v e = by (eqb v T.sink)
  where
    by : (b : Bool) → b || sink_below T v ≡ true
    by true = refl
    by false = e

pub other-off-way : (T : Tree) (v : ℕ) → v ≢ T.sink → sink_below T v ≡ false → on_way T v ≡ false
unfolding on_way
other-off-way T v ns e = rw (ne_eqb v T.sink ns) e

pub off-way-not-below : (T : Tree) (v : ℕ) → on_way T v ≡ false → sink_below T v ≡ false
unfolding on_way
off-way-not-below T v = by (eqb v T.sink)
  where
    by : (b : Bool) → b || sink_below T v ≡ false → sink_below T v ≡ false
    by true e = absurd (true≢false e)
    by false e = e

-- where a link leads: to the child on the sink's path, or to the parent
pub to-child : (T : Tree) (v : ℕ) → sink_below T v ≡ true → towards T v ≡ ancestor T (T.depth T.sink - suc (T.depth v)) T.sink
unfolding towards
to-child T v e = rw e

pub to-parent : (T : Tree) (v : ℕ) → sink_below T v ≡ false → towards T v ≡ T.parent v
unfolding towards
to-parent T v e = rw e

module _ (s : Settings) (T : Tree) (W : Within s T) where
  -- the root is the one node at depth 0
  pub not_root : (v : ℕ) → 0 < T.depth v → v ≢ T.root
  not_root v h e = omega (arith, ap T.depth e, W.root_depth)

  is-root : (v : ℕ) → v < T.nodes → T.depth v ≡ 0 → v ≡ T.root
  is-root v h e = by (ℕ_discrete v T.root)
    where
      by : Dec (v ≡ T.root) → v ≡ T.root
      by (yes p) = p
      by (no p) = absurd (omega (arith, W.parent_depth v h p))

  -- the node k steps above the sink is a router, k depths higher
  pub record AboveSink (k : ℕ) : Type 0 where
    pub is_node : ancestor T k T.sink < T.nodes
    pub is_router : T.is_router (ancestor T k T.sink) ≡ true
    pub higher : T.depth (ancestor T k T.sink) + k ≡ T.depth T.sink

  pub above-sink : (k : ℕ) → k ≤ T.depth T.sink → AboveSink k
  unfolding ancestor
  above-sink zero h = record { is_node = W.sink_is_node; is_router = W.sink_is_router; higher = omega arith }
  above-sink (suc k) h =
      let a : ℕ = ancestor T k T.sink in
      let o : AboveSink k = above-sink k (omega arith) in
      let nr : a ≢ T.root = not_root a (omega (arith, o.higher)) in
      record {
        is_node = W.parent_is_node a o.is_node nr;
        is_router = W.parent_is_router a o.is_node nr;
        higher = omega (arith, o.higher, W.parent_depth a o.is_node nr);
      }

  -- a node with the sink below it is an ancestor of the sink
  pub record SinkUnder (v : ℕ) : Type 0 where
    pub higher : T.depth v < T.depth T.sink
    pub meets : ancestor T (T.depth T.sink - T.depth v) T.sink ≡ v

  pub sink-under : (v : ℕ) → sink_below T v ≡ true → SinkUnder v
  unfolding sink_below
  sink-under v e =
      let p = (and-eq-true_iff (ltb (T.depth v) (T.depth T.sink)) (eqb (ancestor T (T.depth T.sink - T.depth v) T.sink) v)).0 e in
      record { higher = ltb-true _ _ p.0; meets = eqb-true _ _ p.1 }

  sink-below : (v : ℕ) → SinkUnder v → sink_below T v ≡ true
  unfolding sink_below
  sink-below v u =
      (and-eq-true_iff (ltb (T.depth v) (T.depth T.sink)) (eqb (ancestor T (T.depth T.sink - T.depth v) T.sink) v)).1
      (lt-ltb _ _ u.higher, eq-eqb _ _ u.meets)

  -- every ancestor of the sink is on the way, and where the sink is not the root, the sink is below the root
  pub ancestor-on-way : (k : ℕ) → k ≤ T.depth T.sink → on_way T (ancestor T k T.sink) ≡ true
  unfolding ancestor
  ancestor-on-way zero h = sink-on-way T T.sink refl
  ancestor-on-way (suc k) h =
      let a : ℕ = ancestor T (suc k) T.sink in
      let o : AboveSink (suc k) = above-sink (suc k) h in
      let e : T.depth T.sink - T.depth a ≡ suc k = omega (arith, o.higher) in
      above-on-way T a (sink-below a (record { higher = omega (arith, o.higher); meets = ap (λ (n : ℕ). ancestor T n T.sink) e }))

  root-above : T.sink ≢ T.root → sink_below T T.root ≡ true
  root-above h =
      let d : ℕ = T.depth T.sink in
      let some : 0 < d = omega (arith, W.parent_depth T.sink W.sink_is_node h) in
      let o : AboveSink (d - T.depth T.root) = above-sink (d - T.depth T.root) (omega arith) in
      sink-below T.root (record { higher = omega (arith, W.root_depth); meets = is-root _ o.is_node (omega (arith, o.higher, W.root_depth)) })

  -- so a node off the path, and not the sink, is not the root
  pub off-path-not-root : (v : ℕ) → v ≢ T.sink → sink_below T v ≡ false → v ≢ T.root
  off-path-not-root v ns e z = true≢false (sym (root-above (λ k. ns (z ∙ sym k))) ∙ subst (λ (k : ℕ). sink_below T k ≡ false) z e)

  pub off-path-deep : (v : ℕ) → v < T.nodes → v ≢ T.sink → sink_below T v ≡ false → 0 < T.depth v
  off-path-deep v hv ns e = omega (arith, W.parent_depth v hv (off-path-not-root v ns e))

  -- the nodes on the way are routers
  pub on-way-router : (v : ℕ) → on_way T v ≡ true → T.is_router v ≡ true
  unfolding on_way
  on-way-router v = by (eqb v T.sink) refl
    where
      by : (b : Bool) → eqb v T.sink ≡ b → b || sink_below T v ≡ true → T.is_router v ≡ true
      by true q e = subst (λ (n : ℕ). T.is_router n ≡ true) (sym (eqb-true v T.sink q)) W.sink_is_router
      by false q e =
          subst (λ (n : ℕ). T.is_router n ≡ true) (sink-under v e).meets (above-sink (T.depth T.sink - T.depth v) (omega arith)).is_router

  pub end-node-off-path : (v : ℕ) → T.is_router v ≡ false → sink_below T v ≡ false
  end-node-off-path v x = by (sink_below T v) refl
    where
      by : (b : Bool) → sink_below T v ≡ b → b ≡ false
      by true e = absurd (true≢false (sym (on-way-router v (above-on-way T v e)) ∙ x))
      by false e = refl

  -- each link leads to a node
  pub towards-node : (v : ℕ) → v < T.nodes → v ≢ T.sink → towards T v < T.nodes
  unfolding towards
  towards-node v hv ns = by (sink_below T v) refl
    where
      by : (b : Bool) → sink_below T v ≡ b → cond b (ancestor T (T.depth T.sink - suc (T.depth v)) T.sink) (T.parent v) < T.nodes
      by true e = (above-sink (T.depth T.sink - suc (T.depth v)) (omega arith)).is_node
      by false e = W.parent_is_node v hv (off-path-not-root v ns e)
