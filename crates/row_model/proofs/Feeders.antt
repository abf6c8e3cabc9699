-- Who sends to a node of a tree within a row, and how many: end nodes below it, routers below it, and the router above it on the sink's
-- path. Assumes nothing.
use mathlib.Core.Path.{◌≡◌, refl, sym, ap, ◌∙◌, subst}
use mathlib.Core.Logic.{◌≢◌}
use mathlib.Core.Bool.{Bool, true, false, cond, not, ◌&&◌, true≢false, false≢true}
use Prim.Native.Nat.{ℕ, suc, ◌+◌, ◌-◌, ◌*◌, ◌≤◌, ◌<◌}
use native.Mathlib.Nat.{le_refl}
use native.Mathlib.Omega.{arith}
use lib.Dec.{eqb, ltb}
use borrow.Author.Tests.{ltb-false, eqb-true, eqb-false, lt-ltb, eq-eqb, ne_eqb}
use Rattle.network.specs.Counting.{total, bit}
use Rattle.network.proofs.Sums.{total-add, total_mono, total-le, total-zero, total-pick}
use Rattle.settings_model.specs.declared.Settings.{Settings}
use Rattle.row_model.specs.Tree.{Tree, is_child, child_routers, end_nodes, Within, ancestor, sink_below, towards}
use Rattle.row_model.proofs.Recurrences.{routers_below}
use Rattle.row_model.proofs.Ways.{on_way, above-on-way, other-off-way, not_root, AboveSink, above-sink, SinkUnder, sink-under, ancestor-on-way, off-path-not-root, on-way-router}

-- Node w sends to node v: as an end node below v, as a router below v that is off the way to the sink, or as the router above v on it.
pub data Feeder (T : Tree) (v w : ℕ) : Type 0 where
  end_node_below : is_child T v w ≡ true → T.is_router w ≡ false → Feeder T v w
  router_below : is_child T v w ≡ true → T.is_router w ≡ true → on_way T w ≡ false → T.depth w ≡ suc (T.depth v) → Feeder T v w
  router_above : w ≡ T.parent v → T.is_router w ≡ true → sink_below T w ≡ true → on_way T v ≡ true → T.depth v ≡ suc (T.depth w) → Feeder T v w

-- the three sorts as numbers, 1 or 0
unfoldable pub end_below : Tree → ℕ → ℕ → ℕ
end_below T v w = bit (is_child T v w && not (T.is_router w))

unfoldable pub up_from : Tree → ℕ → ℕ → ℕ
up_from T v w = bit (is_child T v w && (T.is_router w && not (on_way T w)))

unfoldable pub down_from : Tree → ℕ → ℕ → ℕ
down_from T v w = bit (eqb w (T.parent v)) * bit (on_way T v)

-- routers off the way are routers
up-is-router : (a b c : Bool) → bit (a && (b && not c)) ≤ bit (a && b)
unfolding bit
up-is-router true true true = omega arith
up-is-router true true false = omega arith
up-is-router true false c = omega arith
up-is-router false b c = omega arith

module _ (s : Settings) (T : Tree) (W : Within s T) where
  -- what a child is, from the test and to it
  child-is : (v w : ℕ) → is_child T v w ≡ true → (w ≢ T.root) × (T.parent w ≡ v)
  unfolding is_child
  child-is v w = by (eqb w T.root) refl
    where
      by : (b : Bool) → eqb w T.root ≡ b → not b && eqb (T.parent w) v ≡ true → (w ≢ T.root) × (T.parent w ≡ v)
      by true e h = absurd (false≢true h)
      by false e h = (eqb-false w T.root e, eqb-true (T.parent w) v h)

  is-child : (v w : ℕ) → w ≢ T.root → T.parent w ≡ v → is_child T v w ≡ true
  unfolding is_child
  is-child v w nr e = rw (ne_eqb w T.root nr) (eq-eqb (T.parent w) v e)

  -- ---- every link to a node is of one of the three sorts

  -- a link to the parent
  feeds-up : (v w : ℕ) → w < T.nodes → w ≢ T.sink → sink_below T w ≡ false → T.parent w ≡ v → Feeder T v w
  feeds-up v w hw ns e p = by (T.is_router w) refl
    where
      nr : w ≢ T.root
      nr = off-path-not-root s T W w ns e

      by : (b : Bool) → T.is_router w ≡ b → Feeder T v w
      by true x = router_below (is-child v w nr p) x (other-off-way T w ns e) (W.parent_depth w hw nr ∙ ap (λ (k : ℕ). suc (T.depth k)) p)
      by false x = end_node_below (is-child v w nr p) x

  -- a link to the child on the sink's path
  feeds-down : (v w : ℕ) → sink_below T w ≡ true → ancestor T (T.depth T.sink - suc (T.depth w)) T.sink ≡ v → Feeder T v w
  unfolding ancestor
  feeds-down v w e p =
      let d : ℕ = T.depth T.sink in
      let u : SinkUnder s T W w = sink-under s T W w e in
      let under : T.depth w < d = u.higher in
      let k : ℕ = d - suc (T.depth w) in
      let o : AboveSink s T W k = above-sink s T W k (omega arith) in
      let one : d - T.depth w ≡ suc k = omega arith in
      let up : T.parent v ≡ w = ap T.parent (sym p) ∙ ap (λ (n : ℕ). ancestor T n T.sink) (sym one) ∙ u.meets in
      router_above (sym up) (on-way-router s T W w (above-on-way T w e)) e
      (subst (λ (n : ℕ). on_way T n ≡ true) p (ancestor-on-way s T W k (omega arith)))
      (omega (arith, o.higher, ap T.depth p))

  -- every link
  pub feeder : (v w : ℕ) → w < T.nodes → w ≢ T.sink → towards T w ≡ v → Feeder T v w
  unfolding towards
  feeder v w hw ns = by (sink_below T w) refl
    where
      by : (b : Bool) → sink_below T w ≡ b → cond b (ancestor T (T.depth T.sink - suc (T.depth w)) T.sink) (T.parent w) ≡ v → Feeder T v w
      by true e p = feeds-down v w e p
      by false e p = feeds-up v w hw ns e p

  -- nothing comes to an end node
  pub end-node-unfed : (v w : ℕ) → w < T.nodes → T.is_router v ≡ false → ¬ Feeder T v w
  end-node-unfed v w hw x = by
    where
      childless : is_child T v w ≡ true → ⊥
      childless k =
          let c = child-is v w k in
          true≢false (sym (subst (λ (n : ℕ). T.is_router n ≡ true) c.1 (W.parent_is_router w hw c.0)) ∙ x)

      by : Feeder T v w → ⊥
      by (end_node_below k y) = childless k
      by (router_below k y o d) = childless k
      by (router_above p y e o d) = true≢false (sym (on-way-router s T W v o) ∙ x)

  -- ---- how many there are of each sort

  -- end nodes: NE
  pub ends-few : (v : ℕ) → v < T.nodes → total (end_below T v) T.nodes ≤ s.ne
  unfolding end_below end_nodes
  ends-few v hv = W.ends v hv

  -- routers that send up: NR
  children-few : (v : ℕ) → v < T.nodes → total (up_from T v) T.nodes ≤ s.nr
  unfolding up_from child_routers
  children-few v hv = omega (
    arith,
    W.routers v hv,
    total_mono (up_from T v) (λ w. bit (is_child T v w && T.is_router w)) T.nodes
        (λ w hw. up-is-router (is_child T v w) (T.is_router w) (on_way T w)),
  )

  -- off the sink's path: NR, and none at depth H
  pub up-few : (v : ℕ) → v < T.nodes → total (up_from T v) T.nodes ≤ routers_below s (T.depth v)
  unfolding up_from routers_below bit
  up-few v hv = by (ltb (T.depth v) s.h) refl
    where
      deepest : s.h ≤ T.depth v → (w : ℕ) → w < T.nodes → (a b : Bool) → is_child T v w ≡ a → T.is_router w ≡ b → bit (a && (b && not (on_way T w))) ≤ 0
      deepest h w hw true true x y =
          let k = child-is v w x in
          absurd (omega (arith, W.deepest w hw y, W.parent_depth w hw k.0, ap T.depth k.1))
      deepest h w hw true false x y = omega arith
      deepest h w hw false b x y = omega arith

      by : (b : Bool) → ltb (T.depth v) s.h ≡ b → total (up_from T v) T.nodes ≤ cond b s.nr 0
      by true e = children-few v hv
      by false e = omega (
        arith,
        total-zero T.nodes,
        total_mono (up_from T v) (λ w. 0) T.nodes
            (λ w hw. deepest (ltb-false _ _ e) w hw (is_child T v w) (T.is_router w) refl refl),
      )

  -- on the sink's path: one of NR less, the child towards the sink
  pub up-fewer : (v : ℕ) → v < T.nodes → sink_below T v ≡ true → total (up_from T v) T.nodes ≤ s.nr - 1
  unfolding up_from bit ancestor child_routers
  up-fewer v hv e = omega (
    arith,
    W.routers v hv,
    rw (lt-ltb a T.nodes o.is_node) at (total-pick (λ w. 1) a T.nodes),
    total-add (up_from T v) (λ w. bit (eqb w a) * 1) T.nodes,
    total_mono (λ w. up_from T v w + bit (eqb w a) * 1) (λ w. bit (is_child T v w && T.is_router w)) T.nodes (λ w hw. by w (eqb w a) refl),
  )
    where
      u : SinkUnder s T W v
      u = sink-under s T W v e

      k : ℕ
      k = T.depth T.sink - suc (T.depth v)

      a : ℕ
      a = ancestor T k T.sink

      o : AboveSink s T W k
      o = above-sink s T W k (omega arith)

      one : suc k ≡ T.depth T.sink - T.depth v
      one = omega (arith, u.higher)

      child : is_child T v a ≡ true
      child = is-child v a (not_root s T W a (omega (arith, o.higher, u.higher))) (ap (λ (n : ℕ). ancestor T n T.sink) one ∙ u.meets)

      path : bit (is_child T v a && (T.is_router a && not (on_way T a))) + 1 * 1 ≤ bit (is_child T v a && T.is_router a)
      path = rw (child, o.is_router, ancestor-on-way s T W k (omega arith)) (le_refl 1)

      by : (w : ℕ) (b : Bool) → eqb w a ≡ b → bit (is_child T v w && (T.is_router w && not (on_way T w))) + bit b * 1 ≤ bit (is_child T v w && T.is_router w)
      by w true q =
          subst (λ (n : ℕ). bit (is_child T v n && (T.is_router n && not (on_way T n))) + 1 * 1 ≤ bit (is_child T v n && T.is_router n)) (sym (eqb-true w a q)) path
      by w false q = omega (arith, up-is-router (is_child T v w) (T.is_router w) (on_way T w))

  -- an end node is one of NE
  pub end-nodes-some : (v : ℕ) → v < T.nodes → T.is_router v ≡ false → 0 < s.ne
  unfolding end_nodes bit total
  end-nodes-some v hv x = omega (
    arith,
    W.ends (T.parent v) (W.parent_is_node v hv nr),
    one,
    total-le (λ w. bit (is_child T (T.parent v) w && not (T.is_router w))) (suc v) T.nodes hv,
  )
    where
      nr : v ≢ T.root
      nr e = true≢false (sym W.root_is_router ∙ subst (λ (n : ℕ). T.is_router n ≡ false) e x)

      one : bit (is_child T (T.parent v) v && not (T.is_router v)) ≡ 1
      one = rw (is-child (T.parent v) v nr refl, x)
