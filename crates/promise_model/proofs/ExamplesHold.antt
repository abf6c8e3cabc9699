-- The examples of specs/Examples. Assumes nothing.
use mathlib.Core.Path.{◌≡◌, refl}
use mathlib.Core.List.{[], ◌∷◌}
use Prim.Native.Nat.{ℕ, zero, suc, ◌+◌, ◌*◌, ◌≤◌, ◌<◌}
use native.Mathlib.Omega.{arith}
use lib.Dec.{lit<, lit≤}
use lib.ListN.{length, get_or}
use Rattle.superframe_model.specs.Reservation.{frames_in}
use Rattle.network.specs.Counting.{total, count, bit, some_below, keep, join, All, none, each}
use Rattle.network.specs.Model.{Frame, queue}
use Rattle.network.specs.Readings.{made}
use Rattle.network.specs.Run.{deliver, feeds, ends, arrived, arrivals, end_exchanges, fresh, make_readings}
use Rattle.network.specs.Claim.{came_in}
use Rattle.network.specs.Oracle.{is_start, idle, behind, take_oldest, serve, begun, serve_all, symbol, run}
use Rattle.network.specs.Loads.{Flows, burst_after, Provisioned}
use Rattle.network.specs.Examples.{reading, first, as_numbers, received, soon_from}
use Rattle.network.proofs.Oracles.{every-choice-is-a-run}
use Rattle.network.proofs.Stretches.{soon-makes, soon-none, third-frame, too-late}
use Rattle.promise_model.specs.Promise.{network_of, Windows, Readings, Held, Keeps}
use Rattle.promise_model.specs.Laws.{Covered}
use Rattle.promise_model.specs.Examples.{timing, pair, figures, right, Examples}
use Rattle.promise_model.proofs.LawsHold.{covered-is-kept}

-- to unfold all that a run is computed with
unfoldable runs : Type 0
unfolding frames_in some_below bit keep join queue made deliver feeds ends arrived arrivals end_exchanges fresh make_readings is_start idle behind take_oldest serve begun serve_all symbol run reading first soon_from network_of timing pair figures right
runs = Unit

two : (P : ℕ → Type 0) → P 0 → P 1 → (v : ℕ) → v < 2 → P v
two P a b zero h = a
two P a b (suc zero) h = b
two P a b (suc (suc v)) h = absurd (omega (arith, h))

-- ---- the figures of the calculus

load : Flows
load = record {
  own_rate = λ v. get_or (0 ∷ 2 ∷ []) v 0;
  own_burst = λ v. get_or (0 ∷ 960 ∷ []) v 0;
  rate = λ v. 2;
  burst = λ v. get_or (2880 ∷ 960 ∷ []) v 0;
  latency = λ v. 960;
  delay = λ v. 1440;
  route = λ v. get_or (0 ∷ 1440 ∷ []) v 0;
}

load-covered : Covered (timing 60) pair right load
unfolding runs load burst_after
load-covered = record {
  own_burst = two _ (lit≤ tt) (lit≤ tt);
  own_rate = two _ (lit≤ tt) (lit≤ tt);
  buffer = two _ (λ m. absurd (m refl)) (λ m n h. omega (arith, h));
  delay = two _ (λ k. lit≤ tt) (λ k. lit≤ tt);
  sink_burst = lit≤ tt;
  sink_rate = lit≤ tt;
}

provided : (offset : ℕ → ℕ) → Windows (timing 60) pair right offset → Provisioned (network_of (timing 60) pair right offset) load
unfolding runs load burst_after total
provided offset O = record {
  interval_positive = lit< tt;
  exchange_positive = lit< tt;
  sink_is_node = lit< tt;
  next_is_node = λ v L. lit< tt;
  window_fits = λ v L. O v L;
  serves = λ v L. lit≤ tt;
  latency_is = λ v L. refl;
  rate_enters = two _ (lit≤ tt) (lit≤ tt);
  burst_enters = two _ (lit≤ tt) (lit≤ tt);
  delay_covers = λ v L. two (λ v. (v ≡ 0 → ⊥) → get_or (2880 ∷ 960 ∷ []) v 0 + 2 * 960 ≤ 2 * 1440) (λ m. absurd (m refl)) (λ m. lit≤ tt) v L.node L.not_sink;
  route_covers = λ v L. two (λ v. (v ≡ 0 → ⊥) → 1440 + 0 ≤ get_or (0 ∷ 1440 ∷ []) v 0) (λ m. absurd (m refl)) (λ m. lit≤ tt) v L.node L.not_sink;
}

pair-kept : Keeps (timing 60) pair right
unfolding timing
pair-kept = covered-is-kept (timing 60) pair right load (lit< tt) load-covered provided

-- ---- readings and windows

pair-readings : (x a : ℕ) → Readings (timing x) pair (soon_from a)
unfolding timing pair soon_from reading
pair-readings x a = record {
  sensors = each (lit< tt) (each (lit< tt) (each (lit< tt) none));
  bucket = λ v y n h. two (λ v. total (λ i. made (soon_from a) (y + i) v) n * 960 ≤ get_or (0 ∷ 1 ∷ []) v 0 * 960 + get_or (0 ∷ 2 ∷ []) v 0 * n) (omega (arith, soon-none a y n)) (omega (arith, soon-makes a y n)) v h;
}

pair-full : length (queue (run (network_of (timing 60) pair right (λ v. 0)) (soon_from 60) first 1020) 1) ≡ 3
unfolding runs
pair-full = refl

-- ---- figures that are too low

buffer-breaks : ¬ Keeps (timing 60) pair (figures 2 2 1440 2880 2)
unfolding runs
buffer-breaks keeps =
    let N = network_of (timing 60) pair (figures 2 2 1440 2880 2) (λ v. 0) in
    let held = keeps (λ v. 0) (λ v L. lit≤ tt) (soon_from 60) (pair-readings 60 60) (run N (soon_from 60) first) (every-choice-is-a-run N (soon_from 60) first) 1019 in
    let few : length (queue (run N (soon_from 60) first 1020) 1) ≤ 2 = held.queues 1 (record { node = lit< tt; not_sink = λ e. absurd (omega (arith, e)) }) in
    omega (arith, few, pair-full)

low_fits : (b d burst rate : ℕ) → Windows (timing 60) pair (figures 2 b d burst rate) (λ v. 0)
unfolding runs
low_fits b d burst rate v L = lit≤ tt

first_frame : Frame
first_frame = record { sensor = 1; made = 60; came = 1020 }

-- whatever is promised, the first frame comes in symbol 1020
late-comes : (run (network_of (timing 60) pair (figures 2 3 959 2880 2) (λ v. 0)) (soon_from 60) first 1021).received ≡ first_frame ∷ []
unfolding runs first_frame
late-comes = refl

little-comes : (run (network_of (timing 60) pair (figures 2 3 1440 957 2) (λ v. 0)) (soon_from 60) first 1021).received ≡ first_frame ∷ []
unfolding runs first_frame
little-comes = refl

-- and a promise of two slots holds of the state at its end
pair_held : (b d burst rate : ℕ) → Keeps (timing 60) pair (figures 2 b d burst rate)
    → Held (figures 2 b d burst rate) (network_of (timing 60) pair (figures 2 b d burst rate) (λ v. 0)) (soon_from 60) 1020
    (run (network_of (timing 60) pair (figures 2 b d burst rate) (λ v. 0)) (soon_from 60) first 1021)
pair_held b d burst rate keeps =
    let N = network_of (timing 60) pair (figures 2 b d burst rate) (λ v. 0) in
    keeps (λ v. 0) (low_fits b d burst rate) (soon_from 60) (pair-readings 60 60) (run N (soon_from 60) first) (every-choice-is-a-run N (soon_from 60) first) 1020

delay-breaks : ¬ Keeps (timing 60) pair (figures 2 3 959 2880 2)
unfolding figures first_frame
delay-breaks keeps = by (rw late-comes at (pair_held 3 959 2880 2 keeps).received)
  where
    by : All (λ (f : Frame). f.came ≤ f.made + 959) (first_frame ∷ []) → ⊥
    by (each h t) = omega (arith, h)

stretch-breaks : ¬ Keeps (timing 60) pair (figures 2 3 1440 957 2)
unfolding timing pair figures first_frame network_of count bit came_in
stretch-breaks keeps =
    let h : count (came_in 1020 1) (first_frame ∷ []) * 960 ≤ 957 + 2 * 1 = rw little-comes at ((pair_held 3 1440 957 2 keeps).stretches 1020 1) in
    omega (arith, h)

pair-waits : queue (run (network_of (timing 160) pair (figures 3 3 1440 2880 2) (λ v. 0)) (soon_from 0) first 2401) 1 ≡ third-frame ∷ []
unfolding runs third-frame
pair-waits = refl

loss-breaks : ¬ Keeps (timing 160) pair (figures 3 3 1440 2880 2)
unfolding runs
loss-breaks keeps =
    let N = network_of (timing 160) pair (figures 3 3 1440 2880 2) (λ v. 0) in
    let held = keeps (λ v. 0) (λ v L. lit≤ tt) (soon_from 0) (pair-readings 160 0) (run N (soon_from 0) first) (every-choice-is-a-run N (soon_from 0) first) 2400 in
    let waits : All (λ (f : Frame). 2400 ≤ f.made + 1440) (queue (run N (soon_from 0) first 2401) 1) = held.under_way 1 (lit< tt) in
    too-late (rw pair-waits at waits)

-- ---- edges

last-window : Windows (timing 60) pair right (λ v. 840)
unfolding runs
last-window v L = lit≤ tt

frame-comes : received (network_of (timing 160) pair (figures 3 3 1440 2880 2) (λ v. 0)) (soon_from 0) first 1120 ≡ 1 ∷ 0 ∷ 1120 ∷ []
unfolding runs received as_numbers
frame-comes = refl

pub examples-hold : Examples
examples-hold = record {
  kept = pair-kept;
  last = last-window;
  readings = pair-readings 60;
  full = pair-full;
  buffer = buffer-breaks;
  delay = delay-breaks;
  stretch = stretch-breaks;
  loss = loss-breaks;
  comes = frame-comes;
}
