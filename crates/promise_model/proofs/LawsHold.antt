-- The law of specs/Laws: network's theorem, read with the printed figures. Assumes nothing.
use mathlib.Core.Path.{◌≡◌, ap}
use mathlib.Core.List.{List}
use Prim.Native.Nat.{ℕ, suc, ◌+◌, ◌*◌, ◌≤◌, ◌<◌}
use native.Mathlib.Nat.{mul-le-mul_right}
use native.Mathlib.Decide.{dec_le}
use native.Mathlib.Omega.{arith}
use Rattle.links.specs.declared.Timing.{Timing}
use Rattle.network.specs.Counting.{total}
use Rattle.network.specs.Model.{Network, State}
use Rattle.network.specs.Readings.{Reading, made}
use Rattle.network.specs.Loads.{Flows, Buckets}
use Rattle.network.specs.Claim.{WithinBounds}
use Rattle.network.proofs.Lists.{All-imp, All-both}
use Rattle.network.proofs.Theorem.{every-run-is-kept}
use Rattle.promise_model.specs.Promise.{Site, Printed, network_of, Readings, Held}
use Rattle.promise_model.specs.Laws.{Covered, CoveredIsKept}
use Rattle.promise_model.proofs.Makers.{made-elsewhere, queue-made, received-made}

module _ (t : Timing) (S : Site) (P : Printed) (F : Flows) (some : 0 < t.interval.0) (C : Covered t S P F) (l : List Reading) (R : Readings t S l) where
  -- every node keeps to the bucket that the figures give it
  buckets : (offset : ℕ → ℕ) → Buckets (network_of t S P offset) F l
  unfolding network_of
  buckets offset = record {
    sensors = R.sensors;
    bucket = λ v x n h. omega (arith, R.bucket v x n h, C.own_burst v h, mul-le-mul_right n (C.own_rate v h));
  }

  -- a sensor that made a frame is a node whose bucket is not empty
  maker-known : (o c : ℕ) → 1 ≤ made l c o → o < S.nodes
  maker-known o c h = by (dec_le (suc o) S.nodes)
    where
      by : Dec (o < S.nodes) → o < S.nodes
      by (yes k) = k
      by (no k) = absurd (omega (arith, h, made-elsewhere l S.nodes c o R.sensors (omega arith)))

  maker-senses : (o c : ℕ) → 1 ≤ made l c o → S.burst o ≡ 0 → S.rate o ≡ 0 → ⊥
  unfolding total
  maker-senses o c h eb er =
      let here : total (λ i. made l (c + i) o) 1 ≡ made l c o = let z : c + 0 ≡ c = omega arith in rw z (omega arith) in
      absurd (omega (
        arith,
        R.bucket o c 1 (maker-known o c h),
        ap (λ (n : ℕ). n * t.interval.0) eb,
        er,
        ap (λ (n : ℕ). n * t.interval.0) here,
        mul-le-mul_right t.interval.0 h,
        some,
      ))

  -- so its route's delay is at most the promised one
  maker-delay : (o c : ℕ) → 1 ≤ made l c o → F.route o ≤ (P.delay o).0
  maker-delay o c h = C.delay o (maker-known o c h) (maker-senses o c h)

  module _ (offset : ℕ → ℕ) (u : ℕ) (now : State) (K : WithinBounds (network_of t S P offset) F l u now) where
    abbrev N : Network
    N = network_of t S P offset

    held : Held P N l u now
    unfolding network_of
    held = record {
      queues = λ v L. C.buffer v L.node L.not_sink _ (K.queues v L);
      sink_queue = K.sink_queue;
      under_way = λ v h. All-imp (λ f x. omega (arith, x.0, maker-delay f.sensor f.made x.1)) (All-both (K.under_way v h) (queue-made N now l u K.none_lost v h));
      received = All-imp (λ f x. omega (arith, x.0, maker-delay f.sensor f.made x.1)) (All-both K.received (received-made N now l u K.none_lost));
      stretches = λ x n. omega (arith, K.stretches x n, C.sink_burst, mul-le-mul_right n C.sink_rate);
      none_lost = K.none_lost;
    }

pub covered-is-kept : CoveredIsKept
covered-is-kept t S P F some C provided offset O l R state run u =
    held t S P F some C l R offset u (state (suc u))
    (every-run-is-kept (network_of t S P offset) F (provided offset O) l (buckets t S P F some C l R offset) state run u)
