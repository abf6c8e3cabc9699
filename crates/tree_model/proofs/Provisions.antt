-- The network of a surveyed tree, with the loads and delays of its plan: it has what network's theorem asks for, whatever windows the
-- offsets choose. Assumes nothing.
use mathlib.Core.Path.{◌≡◌, sym, ap, ◌∙◌}
use mathlib.Core.Bool.{Bool, true, false, not, and-eq-true_iff}
use Prim.Native.Nat.{ℕ, zero, suc, ◌+◌, ◌-◌, ◌*◌, ◌≤◌, ◌<◌}
use native.Mathlib.Nat.{mul-le-mul_right}
use native.Mathlib.Decide.{ℕ_discrete}
use native.Mathlib.Omega.{arith}
use lib.Dec.{eqb}
use borrow.Author.Tests.{eqb-true, eqb-false, not-true}
use Rattle.measure.specs.declared.Slots.{Slots}
use Rattle.measure.specs.declared.Rate.{Rate}
use Rattle.superframe_model.specs.Reservation.{frames_in}
use Rattle.superframe_model.proofs.ReservationLaws.{frames-fit, latency-sum}
use Rattle.network.specs.Counting.{total, bit}
use Rattle.network.specs.Model.{Network}
use Rattle.network.specs.Run.{feeds}
use Rattle.network.specs.Loads.{Flows, burst_after, Linked, Provisioned}
use Rattle.links.specs.declared.Timing.{Timing}
use Rattle.links.specs.declared.Load.{Load}
use Rattle.links.specs.Link.{slots_of, frames_of, latency_of, after}
use Rattle.links.specs.Answers.{Timed}
use Rattle.links.proofs.LinkLaws.{serves, after-burst, delay-serves}
use Rattle.settings_model.specs.declared.Radio.{Radio}
use Rattle.settings_model.specs.Laws.{CheckedRadio}
use Rattle.plan_model.specs.Times.{timing_of}
use Rattle.plan_model.proofs.TimeLaws.{interval-positive, timed}
use Rattle.tree_model.specs.Tree as tree
use Rattle.tree_model.specs.Tree.{Tree, sum_to, Facing}
use Rattle.tree_model.specs.Ways.{next}
use Rattle.tree_model.specs.Loads.{sensed, leaving, steps, input_of, output_of, entering}
use Rattle.tree_model.specs.Lines.{load_at, link_at, way_delay, lines}
use Rattle.tree_model.specs.Promise.{figures_in, network_of, Windows, site_of, printed_of}
use Rattle.tree_model.specs.Laws.{Surveyed}
use Rattle.tree_model.proofs.Steps.{offered}
use Rattle.tree_model.proofs.WayLaws.{facing, next-node}
use Rattle.tree_model.proofs.Entering.{total-nodes, silent, enters, rates-add, bursts-add}
use Rattle.tree_model.proofs.LoadBounds.{leaving-rate}
use Rattle.tree_model.proofs.PlainLists.{link-crossed}
use Rattle.tree_model.proofs.Delays.{way_step}
use Rattle.tree_model.proofs.NodeLines.{link-printed, link-used, no-slots, link-slots}
use Rattle.promise_model.specs.Promise as promise

-- a node's own sensor, the load that enters it, and of its link the latency, the delay and what is ahead, in the run's numbers
unfoldable pub tree_figures : Radio → Tree → ℕ → Flows
tree_figures b t s = record {
  own_rate = λ i. (sensed (timing_of b) t (suc i)).rate.0;
  own_burst = λ i. (sensed (timing_of b) t (suc i)).burst.0;
  rate = λ i. (load_at b t s (suc i)).rate.0;
  burst = λ i. (load_at b t s (suc i)).burst.0;
  latency = λ i. (latency_of (timing_of b) (load_at b t s (suc i)).rate).0;
  delay = λ i. (link_at b t s (suc i)).delay.0;
  route = λ i. way_delay (steps t) (λ v. (link_at b t s v).delay.0) t s (suc i);
}

-- what leaves a link is the load after it
pub tree-burst-after : (b : Radio) (t : Tree) (s i : ℕ) → burst_after (tree_figures b t s) i ≡ (after (timing_of b) (load_at b t s (suc i))).burst.0
unfolding burst_after tree_figures
tree-burst-after b t s i = sym (after-burst (timing_of b) (load_at b t s (suc i)))

-- no rate, no frames, and no burst
no_frames : (a : Timing) (ρ : Rate) → Timed a → ρ.0 ≡ 0 → (frames_of a ρ).0 ≡ 0
unfolding frames_of
no_frames a ρ h e =
    let k : (frames_in (slots_of a ρ) a.slot a.exchange).0 * a.exchange.0 ≤ (slots_of a ρ).0 * a.slot.0 = frames-fit (slots_of a ρ) a.slot a.exchange in
    let z : (slots_of a ρ).0 * a.slot.0 ≡ 0 = ap (λ (n : Slots). n.0 * a.slot.0) (no-slots a ρ h e) ∙ omega arith in
    let m : ℕ = (frames_in (slots_of a ρ) a.slot a.exchange).0 in
    let none : (1 ≤ m → ⊥) = λ l. omega (arith, k, z, mul-le-mul_right a.exchange.0 l, h.exchange_some) in
    omega (arith, none)

pub load-silent : (b : Radio) (t : Tree) (s : ℕ) → Surveyed t s → (v : ℕ) → 1 ≤ v → v ≤ t.nodes → (load_at b t s v).rate.0 ≡ 0 → (load_at b t s v).burst.0 ≡ 0
unfolding load_at entering
load-silent b t s S v one most e =
    silent (timing_of b) t S.planted S.ranged S.plain.without_summaries v (next t s v) (facing t S.planted s S.sink_some S.sink_known (S.plain.without_gaps s S.sink_known) v one most (S.plain.without_gaps v most)) e

module _ (b : Radio) (C : CheckedRadio b) (t : Tree) (s : ℕ) (S : Surveyed t s) (offset : ℕ → ℕ) where
  abbrev N : Network
  N = network_of b (lines b t s) t s offset

  -- a node with a link is another than the sink
  other : (i : ℕ) → Linked N i → suc i ≡ s → ⊥
  unfolding promise.network_of site_of printed_of
  other i L e = L.not_sink (omega (arith, e))

  node : (i : ℕ) → Linked N i → suc i ≤ t.nodes
  unfolding promise.network_of site_of printed_of
  node i L = L.node

  -- the window of a link holds as many exchanges as its reservation
  holds-is : (i : ℕ) → Linked N i → N.holds i ≡ (frames_of (timing_of b) (load_at b t s (suc i)).rate).0
  unfolding promise.network_of site_of printed_of frames_of
  holds-is i L =
      ap (λ (k : Slots). (frames_in k (timing_of b).slot (timing_of b).exchange).0)
      (ap (λ f. f.slots) (link-printed b t S.plain s i (node i L) (other i L)) ∙ link-slots b t s (suc i) (timed b C))

  module _ (O : Windows b (lines b t s) t s offset) where
    window-fits : (i : ℕ) → Linked N i → N.offset i + N.holds i * N.exchange ≤ N.interval
    unfolding promise.network_of site_of printed_of
    window-fits i L = omega (arith, O i L, frames-fit (figures_in (lines b t s) i).slots (timing_of b).slot (timing_of b).exchange)

    -- document 01's latency, since the exchanges of a window fit the interval
    latency-is : (i : ℕ) → Linked N i → (tree_figures b t s).latency i + N.holds i * N.exchange ≡ N.interval + 2 * N.exchange
    unfolding promise.network_of site_of printed_of tree_figures latency_of
    latency-is i L =
        let a : Timing = timing_of b in
        let m : ℕ = (frames_of a (load_at b t s (suc i)).rate).0 in
        let e : N.holds i ≡ m = holds-is i L in
        let fits : m * a.exchange.0 ≤ a.interval.0 = omega (arith, window-fits i L, ap (λ (n : ℕ). n * a.exchange.0) e) in
        rw e (latency-sum a.interval (frames_of a (load_at b t s (suc i)).rate) a.exchange fits)

  -- a window holds what enters in an interval
  window-serves : (i : ℕ) → Linked N i → (tree_figures b t s).rate i ≤ N.holds i
  unfolding tree_figures
  window-serves i L = omega (arith, serves (timing_of b) (load_at b t s (suc i)).rate (timed b C), holds-is i L)

  -- the delay of a link is as long as its window takes for the burst, and the latency; nothing waits where nothing enters
  delay-covers : (i : ℕ) → Linked N i → (tree_figures b t s).burst i + N.holds i * (tree_figures b t s).latency i ≤ N.holds i * (tree_figures b t s).delay i
  unfolding tree_figures
  delay-covers i L = by (ℕ_discrete (load_at b t s (suc i)).rate.0 0)
    where
      by : Dec ((load_at b t s (suc i)).rate.0 ≡ 0)
          → (load_at b t s (suc i)).burst.0 + N.holds i * (latency_of (timing_of b) (load_at b t s (suc i)).rate).0 ≤ N.holds i * (link_at b t s (suc i)).delay.0
      by (yes e) =
          let m : (frames_of (timing_of b) (load_at b t s (suc i)).rate).0 ≡ 0 = no_frames (timing_of b) (load_at b t s (suc i)).rate (timed b C) e in
          rw (holds-is i L, m) (omega (arith, load-silent b t s S (suc i) (omega arith) (node i L) e))
      by (no n) =
          rw (holds-is i L, link-used b t s (suc i) (omega (arith, n)))
          (delay-serves (timing_of b) (load_at b t s (suc i)) (timed b C) (omega (arith, n)))

  -- does node w send to the node that the run numbers j? And a figure of node w
  unfoldable sent : ℕ → ℕ → Bool
  sent j zero = false
  sent j (suc i) = feeds N i j

  unfoldable of_node : (ℕ → ℕ) → ℕ → ℕ
  of_node f zero = 0
  of_node f (suc i) = f i

  sent-only : (j w : ℕ) → 1 ≤ w → w ≤ t.nodes → sent j w ≡ true → (w ≡ s → ⊥) × (next t s w ≡ suc j)
  unfolding sent feeds promise.network_of site_of printed_of
  sent-only j zero one most e = absurd (omega arith)
  sent-only j (suc i) one most e =
      let d = (and-eq-true_iff (not (eqb i (s - 1))) (eqb (next t s (suc i) - 1) j)).0 e in
      let m : suc i ≡ s → ⊥ = λ z. absurd (eqb-false i (s - 1) (not-true _ d.0) (omega (arith, z))) in
      let n = next-node t S.planted s S.sink_some S.sink_known (S.plain.without_gaps s S.sink_known) (suc i) one most (S.plain.without_gaps (suc i) most) m in
      (m, omega (arith, eqb-true (next t s (suc i) - 1) j d.1, n.0))

  module _ (q : Load → ℕ)
      (adds : (v from : ℕ) → Facing t v from
      → q (input_of (timing_of b) t v from) ≡ q (sensed (timing_of b) t v) + sum_to (λ w. q (offered (tree.other_neighbour t v from w) (output_of (timing_of b) t w v))) t.nodes)
      (f : ℕ → ℕ) (leaves : (i : ℕ) → f i ≡ q (leaving (timing_of b) t (suc i) (load_at b t s (suc i)))) where
    -- what a node's own sensor makes and what left the links to it enters it
    all-enters : (j : ℕ) → j < t.nodes → q (sensed (timing_of b) t (suc j)) + total (λ i. bit (feeds N i j) * f i) t.nodes ≤ q (load_at b t s (suc j))
    unfolding sent of_node load_at
    all-enters j h =
        omega (
          arith,
          total-nodes (λ w. bit (sent j w) * of_node f w) t.nodes,
          enters (timing_of b) t S.planted s S.sink_some S.sink_known S.plain.without_gaps q adds (of_node f) leaves-node (suc j) (omega arith) h (sent j) (λ w o k e. sent-only j w o k e),
        )
      where
        leaves-node : (w : ℕ) → 1 ≤ w → w ≤ t.nodes → (w ≡ s → ⊥) → of_node f w ≡ q (leaving (timing_of b) t w (entering (timing_of b) t s w))
        leaves-node zero o k m = absurd (omega arith)
        leaves-node (suc i) o k m = leaves i

  -- the delay of a route is its first link's and that of the route from there
  route-covers : (i : ℕ) → Linked N i → (tree_figures b t s).delay i + (tree_figures b t s).route (N.next i) ≤ (tree_figures b t s).route i
  unfolding tree_figures promise.network_of site_of printed_of
  route-covers i L =
      let n = next-node t S.planted s S.sink_some S.sink_known (S.plain.without_gaps s S.sink_known) (suc i) (omega arith) (node i L) (S.plain.without_gaps (suc i) (node i L)) (other i L) in
      let z : suc (next t s (suc i) - 1) ≡ next t s (suc i) = omega (arith, n.0) in
      rw z (omega (arith, way_step (λ v. (link_at b t s v).delay.0) t S.planted s S.sink_some S.sink_known (S.plain.without_gaps s S.sink_known) (suc i) (omega arith) (node i L) (S.plain.without_gaps (suc i) (node i L)) (other i L)))

  -- all that the theorem asks of the network and its figures
  pub provisioned : Windows b (lines b t s) t s offset → Provisioned N (tree_figures b t s)
  unfolding promise.network_of site_of printed_of tree_figures
  provisioned O = record {
    interval_positive = interval-positive b;
    exchange_positive = (timed b C).exchange_some;
    sink_is_node = omega (arith, S.sink_some, S.sink_known);
    next_is_node = λ i L. let n = next-node t S.planted s S.sink_some S.sink_known (S.plain.without_gaps s S.sink_known) (suc i) (omega arith) (node i L) (S.plain.without_gaps (suc i) (node i L)) (other i L) in omega (arith, n.0, n.1);
    window_fits = λ i L. window-fits O i L;
    serves = λ i L. window-serves i L;
    latency_is = λ i L. latency-is O i L;
    rate_enters = all-enters (λ a. a.rate.0) (rates-add (timing_of b) t S.planted) (tree_figures b t s).rate (λ i. sym (leaving-rate (timing_of b) t (suc i) (load_at b t s (suc i))));
    burst_enters = all-enters (λ a. a.burst.0) (bursts-add (timing_of b) t S.planted) (burst_after (tree_figures b t s)) (λ i. tree-burst-after b t s i ∙ ap (λ (l : Load). l.burst.0) (sym (link-crossed (timing_of b) t S.plain.without_summaries (suc i) (load_at b t s (suc i)))));
    delay_covers = λ i L. delay-covers i L;
    route_covers = λ i L. route-covers i L;
  }
