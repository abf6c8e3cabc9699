-- What enters a node of a tree within a row: its own sensor's load and the loads that left the links to it are at most the load that the
-- plan counts with. Said once for rates and for bursts, as a measure of loads that adds up. Assumes nothing.
use mathlib.Core.Path.{◌≡◌, refl, sym, ap, ◌∙◌, subst}
use mathlib.Core.Logic.{◌≢◌}
use mathlib.Core.Bool.{Bool, true, false, cond, true≢false}
use mathlib.Core.List.{List}
use Prim.Native.Nat.{ℕ, suc, ◌+◌, ◌-◌, ◌*◌, ◌≤◌, ◌<◌}
use native.Mathlib.Nat.{mul-le-mul_right}
use native.Mathlib.Omega.{arith}
use lib.Dec.{eqb, ltb}
use borrow.Author.Tests.{eqb-true, eqb-false, eq-eqb}
use Rattle.network.specs.Counting.{total, bit}
use Rattle.network.specs.Run.{feeds}
use Rattle.network.proofs.Answers.{bit_le}
use Rattle.network.proofs.Sums.{total-add, total_mono, total-mul, total-zero, total-pick}
use Rattle.network.proofs.Bounds.{feeds-true}
use Rattle.links.specs.declared.Load.{Load}
use Rattle.settings_model.specs.declared.Settings.{Settings}
use Rattle.plan_model.specs.declared.Line.{Line}
use Rattle.row_model.specs.Loads.{sensor, left, upward, downward, at_sink, sink_at}
use Rattle.row_model.specs.Tree.{Tree, Within, sink_below}
use Rattle.row_model.specs.Promise.{network_of, site_of, printed_of}
use Rattle.row_model.proofs.Recurrences.{routers_below, comes_down, Adds, near-sum, upward-sum, downward-sum, sink-sum}
use Rattle.row_model.proofs.Ways.{on_way, sink-on-way, above-on-way, other-off-way, off-way-not-below}
use Rattle.row_model.proofs.Feeders.{Feeder, end_node_below, router_below, router_above, end_below, up_from, down_from, feeder, end-node-unfed, ends-few, up-few, up-fewer}
use Rattle.row_model.proofs.NodeLoads.{link_load, entering}
use Rattle.promise_model.specs.Promise as promise

-- g is the measure, and sent what leaves each node but the sink in it
module _ (s : Settings) (T : Tree) (W : Within s T) (p : List Line) (offset : ℕ → ℕ) (g : Load → ℕ) (G : Adds g)
    (sent : ℕ → ℕ) (sent_is : (w : ℕ) → w ≢ T.sink → sent w ≡ g (left s (link_load s T w))) where
  -- what node w sends to node v, and all that comes to v
  abbrev from : ℕ → ℕ → ℕ
  from v w = bit (feeds (network_of s p T offset) w v) * sent w

  abbrev coming : ℕ → ℕ
  coming v = total (from v) T.nodes

  -- what an end node sends, a router below v, and the router above v
  abbrev of_end : ℕ
  of_end = g (left s (sensor s))

  abbrev of_below : ℕ → ℕ
  of_below v = g (left s (upward s (suc (T.depth v))))

  abbrev of_above : ℕ → ℕ
  of_above v = comes_down s g (T.depth v)

  -- what a node sends, by its sort
  feeder-sends : (v w : ℕ) → w ≢ T.sink → Feeder T v w → sent w ≤ end_below T v w * of_end + (up_from T v w * of_below v + down_from T v w * of_above v)
  unfolding end_below up_from down_from bit link_load comes_down
  feeder-sends v w ns (end_node_below k x) = rw (sent_is w ns, k, x) (omega arith)
  feeder-sends v w ns (router_below k x o d) = rw (sent_is w ns, k, x, off-way-not-below T w o, o, d) (omega arith)
  feeder-sends v w ns (router_above q x e o d) = rw (sent_is w ns, x, e, o, d, eq-eqb w (T.parent v) q) (omega arith)

  -- and so does every node that sends to v
  from-at-most : (v w : ℕ) → w < T.nodes → from v w ≤ end_below T v w * of_end + (up_from T v w * of_below v + down_from T v w * of_above v)
  unfolding promise.network_of site_of printed_of bit
  from-at-most v w hw = by (feeds (network_of s p T offset) w v) refl
    where
      by : (b : Bool) → feeds (network_of s p T offset) w v ≡ b → bit b * sent w ≤ end_below T v w * of_end + (up_from T v w * of_below v + down_from T v w * of_above v)
      by false e = omega arith
      by true e = let f = feeds-true (network_of s p T offset) w v e in omega (arith, feeder-sends v w f.0 (feeder s T W v w hw f.0 f.1))

  -- the router above v is one node
  above-few : (v : ℕ) → total (down_from T v) T.nodes ≤ bit (on_way T v)
  unfolding down_from
  above-few v =
      let a : ℕ = T.parent v in
      omega (arith, total-pick (λ w. bit (on_way T v)) a T.nodes, mul-le-mul_right (bit (on_way T v)) (bit_le (ltb a T.nodes)))

  -- all that comes to a node with at most n routers below it off the way
  coming-at-most : (v n : ℕ) → v < T.nodes → total (up_from T v) T.nodes ≤ n → coming v ≤ s.ne * of_end + (n * of_below v + bit (on_way T v) * of_above v)
  coming-at-most v n hv few =
      let e : ℕ → ℕ = end_below T v in
      let u : ℕ → ℕ = up_from T v in
      let d : ℕ → ℕ = down_from T v in
      omega (
        arith,
        total_mono (from v) (λ w. e w * of_end + (u w * of_below v + d w * of_above v)) T.nodes (λ w hw. from-at-most v w hw),
        total-add (λ w. e w * of_end) (λ w. u w * of_below v + d w * of_above v) T.nodes,
        total-add (λ w. u w * of_below v) (λ w. d w * of_above v) T.nodes,
        total-mul e of_end T.nodes,
        total-mul u (of_below v) T.nodes,
        total-mul d (of_above v) T.nodes,
        mul-le-mul_right of_end (ends-few s T W v hv),
        mul-le-mul_right (of_below v) few,
        mul-le-mul_right (of_above v) (above-few v),
      )

  -- nothing comes to an end node
  nothing-coming : (v : ℕ) → T.is_router v ≡ false → coming v ≤ 0
  unfolding promise.network_of site_of printed_of bit
  nothing-coming v x = omega (arith, total-zero T.nodes, total_mono (from v) (λ w. 0) T.nodes (λ w hw. by w hw (feeds (network_of s p T offset) w v) refl))
    where
      by : (w : ℕ) → w < T.nodes → (b : Bool) → feeds (network_of s p T offset) w v ≡ b → bit b * sent w ≤ 0
      by w hw false e = omega arith
      by w hw true e = let f = feeds-true (network_of s p T offset) w v e in absurd (end-node-unfed s T W v w hw x (feeder s T W v w hw f.0 f.1))

  -- ---- what enters, node by node

  -- a router off the way
  enters-up : (v : ℕ) → v < T.nodes → on_way T v ≡ false → s.own * g (sensor s) + coming v ≤ g (upward s (T.depth v))
  unfolding bit
  enters-up v hv o =
      omega (arith, near-sum s g G, upward-sum s g G (T.depth v), rw o at (coming-at-most v (routers_below s (T.depth v)) hv (up-few s T W v hv)))

  -- a router on the sink's path
  enters-down : (v : ℕ) → v < T.nodes → sink_below T v ≡ true → s.own * g (sensor s) + coming v ≤ g (downward s (T.depth v))
  unfolding bit
  enters-down v hv e =
      omega (arith, near-sum s g G, downward-sum s g G (T.depth v), rw (above-on-way T v e) at (coming-at-most v (s.nr - 1) hv (up-fewer s T W v hv e)))

  -- the sink
  enters-sink : (v : ℕ) → v < T.nodes → v ≡ T.sink → s.own * g (sensor s) + coming v ≤ g (at_sink s)
  unfolding bit at_sink
  enters-sink v hv z =
      let d : T.depth v ≡ s.sink = ap T.depth z ∙ W.sink_depth in
      omega (
        arith,
        near-sum s g G,
        upward-sum s g G (T.depth v),
        sink-sum s g G (T.depth v),
        ap (λ (i : ℕ). g (sink_at s i)) d,
        rw (sink-on-way T v z) at (coming-at-most v (routers_below s (T.depth v)) hv (up-few s T W v hv)),
      )

  -- every node: its own sensor's share, once for an end node and OWN times for a router, and all that comes
  pub enters : (v : ℕ) → v < T.nodes → cond (T.is_router v) (s.own * g (sensor s)) (g (sensor s)) + coming v ≤ g (entering s T v)
  unfolding entering link_load
  enters v hv = by (eqb v T.sink) refl (T.is_router v) refl
    where
      path : v ≢ T.sink → (b : Bool) → sink_below T v ≡ b → s.own * g (sensor s) + coming v ≤ g (cond b (downward s (T.depth v)) (upward s (T.depth v)))
      path ns true e = enters-down v hv e
      path ns false e = enters-up v hv (other-off-way T v ns e)

      by : (b : Bool) → eqb v T.sink ≡ b → (c : Bool) → T.is_router v ≡ c
          → cond c (s.own * g (sensor s)) (g (sensor s)) + coming v
          ≤ g (cond b (at_sink s) (cond c (cond (sink_below T v) (downward s (T.depth v)) (upward s (T.depth v))) (sensor s)))
      by true q true x = enters-sink v hv (eqb-true v T.sink q)
      by true q false x = absurd (true≢false (sym W.sink_is_router ∙ subst (λ (n : ℕ). T.is_router n ≡ false) (eqb-true v T.sink q) x))
      by false q true x = path (eqb-false v T.sink q) (sink_below T v) refl
      by false q false x = omega (arith, nothing-coming v x)
