-- The network of a tree within a row, with the loads and delays of the plan: it has what network's theorem asks for, whatever windows
-- the offsets choose and whatever readings keep to the token buckets. Assumes nothing.
use mathlib.Core.Path.{◌≡◌, sym, ap, ◌∙◌}
use mathlib.Core.Logic.{◌≢◌}
use mathlib.Core.Bool.{cond}
use Prim.Native.Nat.{ℕ, ◌+◌, ◌*◌, ◌≤◌, ◌<◌}
use native.Mathlib.Omega.{arith}
use Rattle.measure.specs.declared.Slots.{Slots}
use Rattle.superframe_model.specs.Reservation.{frames_in}
use Rattle.superframe_model.proofs.ReservationLaws.{frames-fit, latency-sum}
use Rattle.network.specs.Model.{Network}
use Rattle.network.specs.Loads.{Flows, burst_after, Provisioned}
use Rattle.links.specs.declared.Timing.{Timing}
use Rattle.links.specs.declared.Load.{Load}
use Rattle.links.specs.Link.{frames_of, latency_of}
use Rattle.links.proofs.LinkLaws.{serves, after-rate, after-burst, delay-serves}
use Rattle.settings_model.specs.declared.Settings.{Settings}
use Rattle.settings_model.specs.Laws.{Checked}
use Rattle.row_model.specs.Times.{row_timing}
use Rattle.row_model.specs.Loads.{sensor, left}
use Rattle.row_model.specs.Lines.{link_for, lines}
use Rattle.row_model.specs.Tree.{Tree, Within, line_of}
use Rattle.row_model.specs.Promise.{network_of, Windows, site_of, printed_of}
use Rattle.plan_model.proofs.TimeLaws.{interval-positive, timed}
use Rattle.row_model.proofs.Recurrences.{rates-add, bursts-add}
use Rattle.row_model.proofs.Ways.{towards-node}
use Rattle.row_model.proofs.NodeLoads.{link_load, entering, entering-link, line-slots, link-rate-some}
use Rattle.row_model.proofs.Entering.{enters}
use Rattle.row_model.proofs.RouteDelays.{route_delay, route-covers}
use Rattle.settings_model.specs.Checks.{radio_of}
use Rattle.promise_model.specs.Promise as promise

-- a node's own sensor, the load that enters it, and of its link the latency, the delay and what is ahead
unfoldable pub tree_figures : Settings → Tree → Flows
tree_figures s T = record {
  own_rate = λ v. cond (T.is_router v) (s.own * (sensor s).rate.0) (sensor s).rate.0;
  own_burst = λ v. cond (T.is_router v) (s.own * (sensor s).burst.0) (sensor s).burst.0;
  rate = λ v. (entering s T v).rate.0;
  burst = λ v. (entering s T v).burst.0;
  latency = λ v. (latency_of (row_timing s) (link_load s T v).rate).0;
  delay = λ v. (link_for s (link_load s T v)).delay.0;
  route = route_delay s T;
}

-- what leaves a link is the load after it
pub tree-burst-after : (s : Settings) (T : Tree) (v : ℕ) → v ≢ T.sink → burst_after (tree_figures s T) v ≡ (left s (link_load s T v)).burst.0
unfolding burst_after tree_figures left
tree-burst-after s T v ns =
    ap (λ (a : Load). a.burst.0 + a.rate.0 * (latency_of (row_timing s) (link_load s T v).rate).0) (entering-link s T v ns)
    ∙ sym (after-burst (row_timing s) (link_load s T v))

tree-rate-after : (s : Settings) (T : Tree) (v : ℕ) → v ≢ T.sink → (tree_figures s T).rate v ≡ (left s (link_load s T v)).rate.0
unfolding tree_figures left
tree-rate-after s T v ns = ap (λ (a : Load). a.rate.0) (entering-link s T v ns) ∙ sym (after-rate (row_timing s) (link_load s T v))

module _ (s : Settings) (C : Checked s) (T : Tree) (W : Within s T) (offset : ℕ → ℕ) (O : Windows s (lines s) T offset) where
  abbrev N : Network
  N = network_of s (lines s) T offset

  -- the window of a link holds as many exchanges as its reservation
  holds-is : (v : ℕ) → v < T.nodes → v ≢ T.sink → N.holds v ≡ (frames_of (row_timing s) (link_load s T v).rate).0
  unfolding promise.network_of site_of printed_of frames_of
  holds-is v hv ns = ap (λ (k : Slots). (frames_in k (row_timing s).slot (row_timing s).exchange).0) (line-slots s T W v hv ns)

  -- a window lies whole within the interval, as its slots do
  window-fits : (v : ℕ) → v < T.nodes → v ≢ T.sink → N.offset v + N.holds v * N.exchange ≤ N.interval
  unfolding promise.network_of site_of printed_of
  window-fits v hv ns = omega (arith, O v (record { node = hv; not_sink = ns }), frames-fit (line_of T (lines s) v).slots (row_timing s).slot (row_timing s).exchange)

  -- a window holds what enters in an interval
  window-serves : (v : ℕ) → v < T.nodes → v ≢ T.sink → (tree_figures s T).rate v ≤ N.holds v
  unfolding tree_figures
  window-serves v hv ns =
      omega (arith, serves (row_timing s) (link_load s T v).rate (timed (radio_of s) C.radio), holds-is v hv ns, ap (λ (a : Load). a.rate.0) (entering-link s T v ns))

  -- document 01's latency, since the exchanges of a window fit the interval
  latency-is : (v : ℕ) → v < T.nodes → v ≢ T.sink → (tree_figures s T).latency v + N.holds v * N.exchange ≡ N.interval + 2 * N.exchange
  unfolding promise.network_of site_of printed_of tree_figures latency_of
  latency-is v hv ns =
      let t : Timing = row_timing s in
      let m : ℕ = (frames_of t (link_load s T v).rate).0 in
      let e : N.holds v ≡ m = holds-is v hv ns in
      let fits : m * t.exchange.0 ≤ t.interval.0 = omega (arith, window-fits v hv ns, ap (λ (n : ℕ). n * t.exchange.0) e) in
      rw e (latency-sum t.interval (frames_of t (link_load s T v).rate) t.exchange fits)

  -- the delay of a link is as long as its window takes for the burst, and the latency
  delay-covers : (v : ℕ) → v < T.nodes → v ≢ T.sink → (tree_figures s T).burst v + N.holds v * (tree_figures s T).latency v ≤ N.holds v * (tree_figures s T).delay v
  unfolding tree_figures link_for
  delay-covers v hv ns =
      rw (holds-is v hv ns, ap (λ (a : Load). a.burst.0) (entering-link s T v ns))
      (delay-serves (row_timing s) (link_load s T v) (timed (radio_of s) C.radio) (link-rate-some s T W C v))

  -- all that the theorem asks of the network and its figures
  pub provisioned : Provisioned N (tree_figures s T)
  unfolding promise.network_of site_of printed_of tree_figures
  provisioned = record {
    interval_positive = interval-positive (radio_of s);
    exchange_positive = (timed (radio_of s) C.radio).exchange_some;
    sink_is_node = W.sink_is_node;
    next_is_node = λ v L. towards-node s T W v L.node L.not_sink;
    window_fits = λ v L. window-fits v L.node L.not_sink;
    serves = λ v L. window-serves v L.node L.not_sink;
    latency_is = λ v L. latency-is v L.node L.not_sink;
    rate_enters = enters s T W (lines s) offset (λ a. a.rate.0) rates-add (λ w. (tree_figures s T).rate w) (tree-rate-after s T);
    burst_enters = enters s T W (lines s) offset (λ a. a.burst.0) bursts-add (burst_after (tree_figures s T)) (tree-burst-after s T);
    delay_covers = λ v L. delay-covers v L.node L.not_sink;
    route_covers = λ v L. route-covers s T W v L.node L.not_sink;
  }
