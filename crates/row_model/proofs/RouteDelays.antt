-- The delay that is still ahead of a frame at a node: it covers the delay of the node's link and what is ahead at the next node, and is
-- at most the total delay of line S. Assumes nothing.
use mathlib.Core.Path.{◌≡◌, refl, sym, ◌∙◌, subst}
use mathlib.Core.Logic.{◌≢◌}
use mathlib.Core.Bool.{Bool, true, false, cond, true≢false}
use Prim.Native.Nat.{ℕ, suc, ◌+◌, ◌-◌, ◌≤◌, ◌<◌, min}
use native.Mathlib.Nat.{le_refl}
use native.Mathlib.Omega.{arith}
use lib.Dec.{ltb}
use borrow.Author.Tests.{lt-ltb}
use Rattle.network.specs.Counting.{total}
use Rattle.network.proofs.Sums.{total-le}
use Rattle.settings_model.specs.declared.Settings.{Settings}
use Rattle.row_model.specs.Lines.{link_for, end_link, up_link, down_link, total_delay}
use Rattle.row_model.specs.Tree.{Tree, Within, ancestor, sink_below, towards}
use Rattle.row_model.proofs.Ways.{on_way, above-on-way, other-off-way, to-child, to-parent, not_root, AboveSink, above-sink, ancestor-on-way, end-node-off-path}
use Rattle.row_model.proofs.NodeLoads.{link_load, Sort, end_node, up_router, down_router, sort}

-- the delay of the end node's link, those of the upward links from depth n to 1, and those of the downward links from depth 0 to n − 1
end_delay : Settings → ℕ
end_delay s = cond (ltb 0 s.ne) (end_link s).delay.0 0

up_delays : Settings → ℕ → ℕ
up_delays s n = total (λ i. (up_link s (suc i)).delay.0) n

down_delays : Settings → ℕ → ℕ
down_delays s n = total (λ i. (down_link s i).delay.0) n

-- the total delay is all of them
total-is : (s : Settings) → (total_delay s).0 ≡ end_delay s + up_delays s s.h + down_delays s s.sink
unfolding total_delay end_delay up_delays down_delays
total-is s = refl

-- What is ahead at a node, of which is told whether it is a router, whether it is on the way to the sink, and its depth. For an end node
-- all; for a router on the way the downward links from its depth on; for another the upward links from its depth on and all downward
-- ones. (No router stands deeper than H; the bound keeps this within the total for what is no node at all.)
ahead : Settings → Bool → Bool → ℕ → ℕ
ahead s false o d = (total_delay s).0
ahead s true true d = down_delays s s.sink - down_delays s d
ahead s true false d = up_delays s (min d s.h) + down_delays s s.sink

-- the same of a node of a tree: the delay that is promised to the frames of its sensor
pub route_delay : Settings → Tree → ℕ → ℕ
route_delay s T v = ahead s (T.is_router v) (on_way T v) (T.depth v)

-- at a router no more is ahead than all links but the end node's, and nowhere more than all
router-ahead : (s : Settings) (o : Bool) (d : ℕ) → ahead s true o d ≤ up_delays s s.h + down_delays s s.sink
unfolding ahead up_delays
router-ahead s true d = omega arith
router-ahead s false d = omega (arith, total-le (λ i. (up_link s (suc i)).delay.0) (min d s.h) s.h (omega arith))

pub route-within-total : (s : Settings) (T : Tree) (v : ℕ) → route_delay s T v ≤ (total_delay s).0
unfolding route_delay ahead
route-within-total s T v = by (T.is_router v)
  where
    by : (b : Bool) → ahead s b (on_way T v) (T.depth v) ≤ (total_delay s).0
    by true = omega (arith, router-ahead s (on_way T v) (T.depth v), total-is s)
    by false = le_refl (total_delay s).0

module _ (s : Settings) (T : Tree) (W : Within s T) where
  -- what is ahead at a node of which the sort is known
  route-at : (v : ℕ) (b o : Bool) (d : ℕ) → T.is_router v ≡ b → on_way T v ≡ o → T.depth v ≡ d → route_delay s T v ≡ ahead s b o d
  unfolding route_delay
  route-at v b o d x y z = rw (x, y, z)

  -- what is ahead at a node's parent, by whether the parent is on the way
  parent-route : (v : ℕ) → v < T.nodes → v ≢ T.root → (o : Bool) → on_way T (T.parent v) ≡ o → route_delay s T (T.parent v) ≡ ahead s true o (T.depth (T.parent v))
  parent-route v hv nr o e = route-at (T.parent v) true o (T.depth (T.parent v)) (W.parent_is_router v hv nr) e refl

  -- ---- each link's delay and what is ahead behind it

  -- an end node's link, to its router
  covers-end : (v : ℕ) → v < T.nodes → T.is_router v ≡ false → 0 < s.ne → (end_link s).delay.0 + route_delay s T (towards T v) ≤ route_delay s T v
  unfolding end_delay ahead
  covers-end v hv x n =
      let nr : v ≢ T.root = λ z. true≢false (sym W.root_is_router ∙ subst (λ (k : ℕ). T.is_router k ≡ false) z x) in
      let delay : end_delay s ≡ (end_link s).delay.0 = rw (lt-ltb 0 s.ne n) in
      let here : route_delay s T v ≡ (total_delay s).0 = route-at v false (on_way T v) (T.depth v) x refl refl in
      rw (to-parent T v (end-node-off-path s T W v x), here, parent-route v hv nr (on_way T (T.parent v)) refl)
      (omega (arith, total-is s, router-ahead s (on_way T (T.parent v)) (T.depth (T.parent v))))

  -- an upward link, to the router above: on the way or not, at most its upward links and all downward ones are ahead there
  covers_up : (v : ℕ) → v < T.nodes → v ≢ T.sink → T.is_router v ≡ true → sink_below T v ≡ false → (i : ℕ) → T.depth v ≡ suc i → i < s.h
      → (up_link s (suc i)).delay.0 + route_delay s T (towards T v) ≤ route_delay s T v
  unfolding ahead up_delays total
  covers_up v hv ns x e i d h =
      rw (to-parent T v e, route-at v true false (suc i) x (other-off-way T v ns e) d, here) (by (on_way T (T.parent v)) refl)
    where
      nr : v ≢ T.root
      nr = not_root s T W v (omega arith)

      higher : T.depth (T.parent v) ≡ i
      higher = omega (arith, W.parent_depth v hv nr)

      here : min (suc i) s.h ≡ suc i
      here = omega arith

      there : min i s.h ≡ i
      there = omega arith

      by : (o : Bool) → on_way T (T.parent v) ≡ o → (up_link s (suc i)).delay.0 + route_delay s T (T.parent v) ≤ up_delays s (suc i) + down_delays s s.sink
      by true o = rw (parent-route v hv nr true o) (omega arith)
      by false o = rw (parent-route v hv nr false o, higher, there) (omega arith)

  -- a downward link, to the child on the sink's path
  covers_down : (v : ℕ) → T.is_router v ≡ true → sink_below T v ≡ true → T.depth v < s.sink
      → (down_link s (T.depth v)).delay.0 + route_delay s T (towards T v) ≤ route_delay s T v
  unfolding ahead down_delays total
  covers_down v x e h =
      let k : ℕ = T.depth T.sink - suc (T.depth v) in
      let a : ℕ = ancestor T k T.sink in
      let o : AboveSink s T W k = above-sink s T W k (omega arith) in
      let lower : T.depth a ≡ suc (T.depth v) = omega (arith, o.higher, W.sink_depth) in
      let here = route-at v true true (T.depth v) x (above-on-way T v e) refl in
      let there = route-at a true true (suc (T.depth v)) o.is_router (ancestor-on-way s T W k (omega arith)) lower in
      rw (to-child T v e, here, there) (omega (arith, total-le (λ i. (down_link s i).delay.0) (suc (T.depth v)) s.sink h))

  -- so of every link
  pub route-covers : (v : ℕ) → v < T.nodes → v ≢ T.sink → (link_for s (link_load s T v)).delay.0 + route_delay s T (towards T v) ≤ route_delay s T v
  unfolding link_load end_link up_link down_link
  route-covers v hv ns = by (sort s T W v hv ns)
    where
      by : Sort s T v → (link_for s (link_load s T v)).delay.0 + route_delay s T (towards T v) ≤ route_delay s T v
      by (end_node x n) = rw x (covers-end v hv x n)
      by (up_router x e i d h) = rw (x, e, d) (covers_up v hv ns x e i d h)
      by (down_router x e h) = rw (x, e) (covers_down v x e h)
