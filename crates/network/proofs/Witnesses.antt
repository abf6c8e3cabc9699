-- The witnesses (specs/Witness). Assumes nothing.
use mathlib.Core.Path.{◌≡◌, refl, ap, ◌∙◌}
use mathlib.Core.Logic.{◌≢◌}
use mathlib.Core.Bool.{Bool, true, false, cond, ◌&&◌, and-false}
use Prim.Native.Nat.{ℕ, zero, suc, ◌+◌, ◌*◌, ◌≤◌, ◌<◌}
use native.Mathlib.Decide.{dec_le}
use native.Mathlib.Omega.{arith}
use lib.Dec.{eqb, ltb, lit<, lit≤}
use borrow.Author.Tests.{lt-ltb, le-ltb}
use Rattle.network.specs.Counting.{total, bit, some_below, keep, join, none, each}
use Rattle.network.specs.Model.{Network, queue}
use Rattle.network.specs.Readings.{made}
use Rattle.network.specs.Run.{deliver, feeds, ends, arrived, arrivals, end_exchanges, fresh, make_readings}
use Rattle.network.specs.Oracle.{is_start, idle, behind, take_oldest, serve, begun, serve_all, symbol, run}
use Rattle.network.specs.Loads.{Flows, burst_after, Provisioned, Buckets}
use Rattle.network.specs.Examples.{link, per_node, reading, one, first, as_numbers, received}
use Rattle.network.specs.Witness.{full_figures, full_readings, Full, tree, tree_figures, tree_readings, Travelled}
use Rattle.network.proofs.Sums.{total-ap, total-add, total-zero, total-shift, total-pick}
use Rattle.network.proofs.Answers.{eqb-sym, bit_le}

-- ---- a symbol in a stretch of symbols

-- 1 if symbol a is one of the t symbols from x on, else 0
stretch : ℕ → ℕ → ℕ → ℕ
stretch a x t = total (λ i. bit (eqb a (x + i))) t

stretch-is : (a x t : ℕ) → bit (ltb a x) + stretch a x t ≡ bit (ltb a (x + t))
unfolding stretch
stretch-is a x t = omega (arith, total-shift (λ i. bit (eqb a i)) x t, till x, till (x + t))
  where
    till : (u : ℕ) → total (λ i. bit (eqb a i)) u ≡ bit (ltb a u)
    till u = total-ap (λ i. bit (eqb a i)) (λ i. bit (eqb i a) * 1) u (λ i h. ap bit (eqb-sym a i) ∙ omega arith) ∙ total-pick (λ i. 1) a u ∙ omega arith

stretch-le : (a x t : ℕ) → stretch a x t ≤ 1
stretch-le a x t = omega (arith, stretch-is a x t, bit_le (ltb a (x + t)))

stretch-before : (a x t : ℕ) → x + t ≤ a → stretch a x t ≡ 0
unfolding bit
stretch-before a x t h = let e = rw (le-ltb a (x + t) h) at (stretch-is a x t) in omega arith

stretch-after : (a x t : ℕ) → a < x → stretch a x t ≡ 0
unfolding bit
stretch-after a x t h = let e = rw (lt-ltb a x h, lt-ltb a (x + t) (omega arith)) at (stretch-is a x t) in omega arith

-- ---- the nodes one by one

two : (P : ℕ → Type 0) → P 0 → P 1 → (v : ℕ) → v < 2 → P v
two P a b zero h = a
two P a b (suc zero) h = b
two P a b (suc (suc v)) h = absurd (omega arith)

four : (P : ℕ → Type 0) → P 0 → P 1 → P 2 → P 3 → (v : ℕ) → v < 4 → P v
four P a b c d zero h = a
four P a b c d (suc zero) h = b
four P a b c d (suc (suc zero)) h = c
four P a b c d (suc (suc (suc zero))) h = d
four P a b c d (suc (suc (suc (suc v)))) h = absurd (omega arith)

-- ---- the full queue

full-provisioned : Provisioned (link 0 1 1) full_figures
unfolding link full_figures per_node burst_after total bit feeds
full-provisioned =
    let N : Network = link 0 1 1 in
    let F : Flows = full_figures in
    record {
      interval_positive = lit< tt;
      exchange_positive = lit< tt;
      sink_is_node = lit< tt;
      next_is_node = λ v L. lit< tt;
      window_fits = λ v L. lit≤ tt;
      serves = λ v L. two (λ v. F.rate v ≤ 1) (lit≤ tt) (lit≤ tt) v L.node;
      latency_is = λ v L. two (λ v. v ≢ 0 → F.latency v + 1 ≡ 12) (λ n. absurd (n refl)) (λ n. refl) v L.node L.not_sink;
      rate_enters = two (λ v. F.own_rate v + total (λ w. bit (feeds N w v) * F.rate w) 2 ≤ F.rate v) (lit≤ tt) (lit≤ tt);
      burst_enters = two (λ v. F.own_burst v + total (λ w. bit (feeds N w v) * burst_after F w) 2 ≤ F.burst v) (lit≤ tt) (lit≤ tt);
      delay_covers = λ v L. two (λ v. v ≢ 0 → F.burst v + 1 * F.latency v ≤ 1 * F.delay v) (λ n. absurd (n refl)) (λ n. lit≤ tt) v L.node L.not_sink;
      route_covers = λ v L. two (λ v. v ≢ 0 → F.delay v + F.route 0 ≤ F.route v) (λ n. absurd (n refl)) (λ n. lit≤ tt) v L.node L.not_sink;
    }

-- the frames that node 1 makes, and the sink none
full-made : (t : ℕ) → made full_readings t 1 ≡ bit (eqb 0 t) + bit (eqb 10 t)
unfolding made full_readings one reading bit
full-made t = by (eqb 0 t) (eqb 10 t)
  where
    by : (a b : Bool) → cond {A = ℕ} (a && true) 1 0 + (cond {A = ℕ} (b && true) 1 0 + 0) ≡ bit a + bit b
    by true true = refl
    by true false = refl
    by false true = refl
    by false false = refl

full-none : (t : ℕ) → made full_readings t 0 ≡ 0
unfolding made full_readings one reading
full-none t = rw (and-false (eqb 0 t), and-false (eqb 10 t))

-- in any t symbols, 10 for each frame is at most 9 and t
full-few : (x t : ℕ) → (stretch 0 x t + stretch 10 x t) * 10 ≤ 9 + 1 * t
unfolding stretch total
full-few x zero = lit≤ tt
full-few x (suc t) = by (dec_le (x + suc t) 10) (dec_le 1 x)
  where
    by : Dec (x + suc t ≤ 10) → Dec (1 ≤ x) → (stretch 0 x (suc t) + stretch 10 x (suc t)) * 10 ≤ 9 + 1 * suc t
    by (yes h) k = omega (arith, stretch-before 10 x (suc t) h, stretch-le 0 x (suc t))
    by (no h) (yes k) = omega (arith, stretch-after 0 x (suc t) k, stretch-le 10 x (suc t))
    by (no h) (no k) = omega (arith, stretch-le 0 x (suc t), stretch-le 10 x (suc t))

full-buckets : Buckets (link 0 1 1) full_figures full_readings
unfolding link full_figures full_readings one reading per_node stretch
full-buckets = record {
  sensors = each (lit< tt) (each (lit< tt) none);
  bucket = λ v x t h. omega (arith, two (λ v. total (λ i. made full_readings (x + i) v) t * 10 ≤ full_figures.own_burst v + full_figures.own_rate v * t) (sink x t) (node x t) v h);
}
  where
    sink : (x t : ℕ) → total (λ i. made full_readings (x + i) 0) t * 10 ≤ 0 + 0 * t
    sink x t = omega (arith, total-ap (λ i. made full_readings (x + i) 0) (λ i. 0) t (λ i h. full-none (x + i)), total-zero t)

    node : (x t : ℕ) → total (λ i. made full_readings (x + i) 1) t * 10 ≤ 9 + 1 * t
    node x t = omega (
      arith,
      full-few x t,
      total-ap (λ i. made full_readings (x + i) 1) (λ i. bit (eqb 0 (x + i)) + bit (eqb 10 (x + i))) t (λ i h. full-made (x + i)),
      total-add (λ i. bit (eqb 0 (x + i))) (λ i. bit (eqb 10 (x + i))) t,
    )

pub full : Full
unfolding link full_figures full_readings one reading per_node burst_after first run symbol serve_all begun serve take_oldest behind idle is_start make_readings fresh end_exchanges arrivals arrived ends feeds deliver made queue keep join some_below
full = record { provisioned = full-provisioned; buckets = full-buckets; reached = refl }

-- ---- the tree

tree-provisioned : Provisioned tree tree_figures
unfolding tree tree_figures per_node burst_after total bit feeds
tree-provisioned =
    let N : Network = tree in
    let F : Flows = tree_figures in
    record {
      interval_positive = lit< tt;
      exchange_positive = lit< tt;
      sink_is_node = lit< tt;
      next_is_node = λ v L. four (λ v. N.next v < 4) (lit< tt) (lit< tt) (lit< tt) (lit< tt) v L.node;
      window_fits = λ v L. omega (arith, four (λ v. N.offset v + N.holds v * 1 ≤ 10) (lit≤ tt) (lit≤ tt) (lit≤ tt) (lit≤ tt) v L.node);
      serves = λ v L. four (λ v. v ≢ 0 → F.rate v ≤ N.holds v) (λ n. absurd (n refl)) (λ n. lit≤ tt) (λ n. lit≤ tt) (λ n. lit≤ tt) v L.node L.not_sink;
      latency_is = λ v L. four (λ v. v ≢ 0 → F.latency v + N.holds v * 1 ≡ 12) (λ n. absurd (n refl)) (λ n. refl) (λ n. refl) (λ n. refl) v L.node L.not_sink;
      rate_enters = four (λ v. F.own_rate v + total (λ w. bit (feeds N w v) * F.rate w) 4 ≤ F.rate v) (lit≤ tt) (lit≤ tt) (lit≤ tt) (lit≤ tt);
      burst_enters = four (λ v. F.own_burst v + total (λ w. bit (feeds N w v) * burst_after F w) 4 ≤ F.burst v) (lit≤ tt) (lit≤ tt) (lit≤ tt) (lit≤ tt);
      delay_covers = λ v L. four (λ v. v ≢ 0 → F.burst v + N.holds v * F.latency v ≤ N.holds v * F.delay v) (λ n. absurd (n refl)) (λ n. lit≤ tt) (λ n. lit≤ tt) (λ n. lit≤ tt) v L.node L.not_sink;
      route_covers = λ v L. four (λ v. v ≢ 0 → F.delay v + F.route (N.next v) ≤ F.route v) (λ n. absurd (n refl)) (λ n. lit≤ tt) (λ n. lit≤ tt) (λ n. lit≤ tt) v L.node L.not_sink;
    }

-- each sensor makes a frame in symbol 0
tree-made : (t v : ℕ) → v < 4 → made tree_readings t v ≡ bit (eqb 0 t)
unfolding made tree_readings reading bit
tree-made t v h = by (eqb 0 t)
  where
    by : (b : Bool) → cond {A = ℕ} (b && eqb 0 v) 1 0 + (cond {A = ℕ} (b && eqb 1 v) 1 0 + (cond {A = ℕ} (b && eqb 2 v) 1 0 + (cond {A = ℕ} (b && eqb 3 v) 1 0 + 0))) ≡ bit b
    by true = four (λ v. cond {A = ℕ} (eqb 0 v) 1 0 + (cond {A = ℕ} (eqb 1 v) 1 0 + (cond {A = ℕ} (eqb 2 v) 1 0 + (cond {A = ℕ} (eqb 3 v) 1 0 + 0))) ≡ 1) refl refl refl refl v h
    by false = refl

tree-buckets : Buckets tree tree_figures tree_readings
unfolding tree tree_figures tree_readings reading per_node stretch
tree-buckets = record {
  sensors = each (lit< tt) (each (lit< tt) (each (lit< tt) (each (lit< tt) none)));
  bucket = λ v x t h. omega (
    arith,
    four (λ v. v < 4 → total (λ i. made tree_readings (x + i) v) t * 10 ≤ tree_figures.own_burst v + tree_figures.own_rate v * t)
        (node 0 x t) (node 1 x t) (node 2 x t) (node 3 x t) v h h,
  );
}
  where
    node : (v x t : ℕ) → v < 4 → total (λ i. made tree_readings (x + i) v) t * 10 ≤ 10 + 1 * t
    node v x t h = omega (arith, stretch-le 0 x t, total-ap (λ i. made tree_readings (x + i) v) (λ i. bit (eqb 0 (x + i))) t (λ i k. tree-made (x + i) v h))

pub travelled : Travelled
unfolding tree per_node tree_readings reading received as_numbers first run symbol serve_all begun serve take_oldest behind idle is_start make_readings fresh end_exchanges arrivals arrived ends feeds deliver made keep join some_below
travelled = record { provisioned = tree-provisioned; buckets = tree-buckets; arrived = refl }
