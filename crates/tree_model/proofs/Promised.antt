-- Demand 3: the lines of a surveyed tree hold in every run of it. Assumes nothing.
use mathlib.Core.Path.{◌≡◌, sym, ap, ◌∙◌}
use mathlib.Core.List.{List, [], ◌∷◌}
use Prim.Native.Nat.{ℕ, zero, suc, ◌-◌, ◌*◌, ◌≤◌, ◌<◌}
use native.Mathlib.Nat.{mul-le-mul_right}
use native.Mathlib.Decide.{ℕ_discrete}
use native.Mathlib.Omega.{arith}
use borrow.Author.Tests.{ne_eqb}
use Rattle.links.specs.Link.{latency_of, after}
use Rattle.links.proofs.LinkLaws.{after-burst, buffer-holds}
use Rattle.network.specs.Loads.{burst_after}
use Rattle.network.proofs.Lists.{All-imp}
use Rattle.promise_model.specs.Laws.{Covered}
use Rattle.promise_model.proofs.LawsHold.{covered-is-kept}
use Rattle.settings_model.specs.declared.Radio.{Radio}
use Rattle.settings_model.specs.Laws.{CheckedRadio}
use Rattle.plan_model.specs.declared.NodeLine.{NodeLine}
use Rattle.plan_model.specs.Times.{timing_of}
use Rattle.plan_model.proofs.TimeLaws.{interval-positive}
use Rattle.tree_model.specs.Tree.{Tree}
use Rattle.tree_model.specs.Ways.{next}
use Rattle.tree_model.specs.Loads.{steps, entering}
use Rattle.tree_model.specs.Lines.{load_at, link_at, sink_figures, way_delay, route_at, lines}
use Rattle.tree_model.specs.Promise.{no_line, figures_in, route_in, longest, site_of, printed_of, Keeps}
use Rattle.tree_model.specs.Laws.{Surveyed, LargestRouteHolds}
use Rattle.tree_model.proofs.PlainLists.{own-burst}
use Rattle.tree_model.proofs.LoadBounds.{rate-exact}
use Rattle.tree_model.proofs.WayLaws.{facing}
use Rattle.tree_model.proofs.NodeLines.{link-printed, sink-printed, route-printed, link-used}
use Rattle.tree_model.proofs.Provisions.{tree_figures, tree-burst-after, load-silent, provisioned}

module _ (b : Radio) (t : Tree) (s : ℕ) (S : Surveyed t s) where
  -- a sensor that may make frames has a rate, and its node has traffic
  maker-rate : (o : ℕ) → o < t.nodes → (t.burst (suc o) ≡ 0 → t.rate (suc o) ≡ 0 → ⊥) → 1 ≤ t.rate (suc o)
  maker-rate o h k = by (ℕ_discrete (t.rate (suc o)) 0)
    where
      by : Dec (t.rate (suc o) ≡ 0) → 1 ≤ t.rate (suc o)
      by (no n) = omega (arith, n)
      by (yes e) = absurd (k (S.ranged.both (suc o) (omega arith) h e) e)

  maker-load : (o : ℕ) → o < t.nodes → 1 ≤ t.rate (suc o) → 1 ≤ (load_at b t s (suc o)).rate.0
  unfolding load_at entering
  maker-load o h k =
      omega (arith, k, rate-exact (timing_of b) t S.planted (suc o) (next t s (suc o)) (facing t S.planted s S.sink_some S.sink_known (S.plain.without_gaps s S.sink_known) (suc o) (omega arith) h (S.plain.without_gaps (suc o) h)))

  -- so the delay over its route is the printed one
  maker-route : (o : ℕ) → o < t.nodes → 1 ≤ t.rate (suc o) → way_delay (steps t) (λ v. (link_at b t s v).delay.0) t s (suc o) ≡ (route_in (lines b t s) o).0
  unfolding route_at
  maker-route o h k =
      sym (route-printed b t S.plain s o h ∙ rw (ne_eqb (load_at b t s (suc o)).rate.0 0 (λ e. omega (arith, maker-load o h k))))

  -- a queue's bound, not rounded, fits the buffer of its line
  queue-fits : (i : ℕ) → i < t.nodes → (suc i ≡ s → ⊥) → (n : ℕ) → n * (timing_of b).interval.0 ≤ burst_after (tree_figures b t s) i → n ≤ (figures_in (lines b t s) i).buffer.0
  queue-fits i h m n k = rw (link-printed b t S.plain s i h m) (by (ℕ_discrete (load_at b t s (suc i)).rate.0 0))
    where
      bound : n * (timing_of b).interval.0 ≤ (after (timing_of b) (load_at b t s (suc i))).burst.0
      bound = rw (tree-burst-after b t s i) at k

      by : Dec ((load_at b t s (suc i)).rate.0 ≡ 0) → n ≤ (link_at b t s (suc i)).buffer.0
      by (no x) = rw (link-used b t s (suc i) (omega (arith, x))) (buffer-holds (timing_of b) (load_at b t s (suc i)) n (interval-positive b) bound)
      by (yes e) =
          let z : (after (timing_of b) (load_at b t s (suc i))).burst.0 ≡ 0 =
          after-burst (timing_of b) (load_at b t s (suc i))
          ∙ omega (arith, load-silent b t s S (suc i) (omega arith) h e, ap (λ (n : ℕ). n * (latency_of (timing_of b) (load_at b t s (suc i)).rate).0) e) in
          let empty : (1 ≤ n → ⊥) = λ h. omega (arith, bound, z, mul-le-mul_right (timing_of b).interval.0 h, interval-positive b) in
          omega (arith, empty)

  -- the printed figures cover those of the network
  covered : Covered (timing_of b) (site_of t s) (printed_of (lines b t s) s) (tree_figures b t s)
  unfolding site_of printed_of tree_figures sink_figures
  covered = record {
    own_burst = λ i h. omega (arith, own-burst (timing_of b) t S.plain.without_summaries (suc i));
    own_rate = λ i h. omega arith;
    buffer = λ i h m n k. queue-fits i h (λ e. m (omega (arith, e))) n k;
    delay = λ i h k. omega (arith, maker-route i h (maker-rate i h k));
    sink_burst = rw (sink-printed b t S.plain s (s - 1) sink-known sink-is) (omega (arith, ap (λ (v : ℕ). (load_at b t s v).burst.0) sink-is));
    sink_rate = rw (sink-printed b t S.plain s (s - 1) sink-known sink-is) (omega (arith, ap (λ (v : ℕ). (load_at b t s v).rate.0) sink-is));
  }
    where
      sink-is : suc (s - 1) ≡ s
      sink-is = omega (arith, S.sink_some)

      sink-known : s - 1 < t.nodes
      sink-known = omega (arith, S.sink_some, S.sink_known)

-- For all trees that keep number 10 and checked settings, with the lines of their plan: also where numbers 5 to 7 refuse the tree, if there are
-- windows for it.
pub keeps : (b : Radio) (t : Tree) (s : ℕ) → CheckedRadio b → Surveyed t s → Keeps b t s (lines b t s)
keeps b t s C S =
    covered-is-kept (timing_of b) (site_of t s) (printed_of (lines b t s) s) (tree_figures b t s) (interval-positive b) (covered b t s S)
    (λ offset O. provisioned b C t s S offset O)

-- the largest ROUTE is at least each
route-longest : (p : List NodeLine) (i : ℕ) → (route_in p i).0 ≤ longest p
unfolding route_in longest no_line
route-longest [] i = omega arith
route-longest (l ∷ p) zero = omega arith
route-longest (l ∷ p) (suc i) = omega (arith, route-longest p i)

-- and so no frame is on its way longer
pub largest-route-holds : LargestRouteHolds
unfolding printed_of
largest-route-holds p sink N l u now H = (
  λ v h. All-imp (λ f x. omega (arith, x, route-longest p f.sensor)) (H.under_way v h),
  All-imp (λ f x. omega (arith, x, route-longest p f.sensor)) H.received,
)
