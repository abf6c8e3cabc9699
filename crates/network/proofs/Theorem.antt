-- The theorem (`EveryRunIsKept` of specs/Claim): first for the run as a function, then for every run. Assumes nothing.
use mathlib.Core.Path.{◌≡◌, sym, ap, ap₂, ◌∙◌, subst}
use mathlib.Core.List.{List, [], ◌++◌, map}
use Prim.Native.Nat.{ℕ, suc, ◌+◌, ◌*◌, ◌≤◌, ◌<◌}
use native.Mathlib.Decide.{ℕ_discrete}
use native.Mathlib.Omega.{arith}
use borrow.Author.Tests.{lt-ltb}
use lib.ListN.{length, length-append, length-map}
use Rattle.network.specs.Counting.{count, All, none}
use Rattle.network.specs.Model.{Network, Frame, Exchange, State, queue}
use Rattle.network.specs.Readings.{Reading}
use Rattle.network.specs.Oracle.{run, Agree, Chosen}
use Rattle.network.specs.Loads.{Flows, burst_after, Linked, Provisioned, Buckets}
use Rattle.network.specs.Claim.{came_in, tagged, present, WithinBounds, EveryRunIsKept}
use Rattle.network.proofs.Sums.{total-ap}
use Rattle.network.proofs.Lists.{count-all, All-append, All-imp, All-both, All-map}
use Rattle.network.proofs.Serving.{came_before}
use Rattle.network.proofs.Steps.{sink-waiting, sink-air, Orderly, orderly}
use Rattle.network.proofs.Accounting.{waits, on_air}
use Rattle.network.proofs.Bounds.{queued}
use Rattle.network.proofs.Routes.{InTime, in-time, received-in-time, waiting-soon, air-soon}
use Rattle.network.proofs.AtSink.{sink-load}
use Rattle.network.proofs.NoLoss.{none-lost}
use Rattle.network.proofs.Oracles.{every-run-is-chosen}

module _ (N : Network) (F : Flows) (P : Provisioned N F) (l : List Reading) (Q : Buckets N F l) (pick : ℕ → ℕ → ℕ) where
  -- all frames in a queue, by their number
  queue-length : (v u : ℕ) → Linked N v → length (queue (run N l pick u) v) ≡ waits N l pick (came_before u) v u + on_air N l pick (came_before u) v u
  unfolding queue waits on_air came_before
  queue-length v u L =
      let s : State = run N l pick u in
      let o : Orderly N l pick v u = orderly N l pick v u L.not_sink in
      omega (
        arith,
        length-append (s.waiting v) (map (λ e. e.frame) (s.air v)),
        length-map (s.air v) (λ (e : Exchange). e.frame),
        count-all (came_before u) (s.waiting v) (All-imp (λ f h. lt-ltb f.came u h) o.earlier),
        count-all (λ e. came_before u e.frame) (s.air v) (All-imp (λ e h. lt-ltb e.frame.came u h) o.sent),
      )

  sink-queue : (u : ℕ) → queue (run N l pick u) N.sink ≡ []
  unfolding queue
  sink-queue u = rw (sink-waiting N l pick u, sink-air N l pick u)

  under-way : (v u : ℕ) → v < N.nodes → All (λ f. u ≤ f.made + F.route f.sensor) (queue (run N l pick (suc u)) v)
  unfolding queue
  under-way v u hv = by (ℕ_discrete v N.sink)
    where
      by : Dec (v ≡ N.sink) → All (λ f. u ≤ f.made + F.route f.sensor) (queue (run N l pick (suc u)) v)
      by (yes e) = subst (λ (q : List Frame). All (λ f. u ≤ f.made + F.route f.sensor) q) (sym (ap (queue (run N l pick (suc u))) e ∙ sink-queue (suc u))) none
      by (no ns) =
          let L : Linked N v = record { node = hv; not_sink = ns } in
          let I : InTime N F P l Q pick (suc u) v = in-time N F P l Q pick (suc u) v in
          All-append
          (All-imp (λ f h. omega (arith, h.0.time, h.1, P.route_covers v L)) (All-both I.waiting (waiting-soon N F P l Q pick v (suc u) L)))
          (All-map (λ e. e.frame) (All-imp (λ e h. omega (arith, h.0.time, h.1, P.route_covers v L)) (All-both I.air (air-soon N F P l Q pick v (suc u) L))))

  pub kept : (u : ℕ) → WithinBounds N F l u (run N l pick (suc u))
  unfolding burst_after
  kept u = record {
    queues = λ v L. omega (arith, queued N F P l Q pick v (suc u) L, ap (λ (k : ℕ). k * N.interval) (queue-length v (suc u) L));
    sink_queue = sink-queue (suc u);
    under_way = λ v h. under-way v u h;
    received = All-imp (λ f h. omega (arith, h.time)) (received-in-time N F P l Q pick (suc u));
    stretches = λ x t. sink-load N F P l Q pick x t (suc u);
    none_lost = λ o c. none-lost N l pick P.sink_is_node (λ w h ns. P.next_is_node w (record { node = h; not_sink = ns })) o c (All-imp (λ r h. omega (arith, h)) Q.sensors) u;
  }

-- ---- what holds of a state holds of one that agrees with it

queue-agree : (N : Network) {s s' : State} → Agree N s s' → (v : ℕ) → v < N.nodes → queue s v ≡ queue s' v
unfolding queue
queue-agree N A v h = ap₂ (λ (q : List Frame) (x : List Exchange). q ++ map (λ e. e.frame) x) (A.waiting v h) (A.air v h)

kept-agree : (N : Network) (F : Flows) (l : List Reading) (u : ℕ) {s s' : State} → N.sink < N.nodes → Agree N s s' → WithinBounds N F l u s' → WithinBounds N F l u s
unfolding present
kept-agree N F l u {s} {s'} hs A K = record {
  queues = λ v L. omega (arith, K.queues v L, ap (λ (q : List Frame). length q * N.interval) (queue-agree N A v L.node));
  sink_queue = queue-agree N A N.sink hs ∙ K.sink_queue;
  under_way = λ v h. subst (λ (q : List Frame). All (λ f. u ≤ f.made + F.route f.sensor) q) (sym (queue-agree N A v h)) (K.under_way v h);
  received = subst (λ (q : List Frame). All (λ f. f.came ≤ f.made + F.route f.sensor) q) (sym A.received) K.received;
  stretches = λ x t. subst (λ (q : List Frame). count (came_in x t) q * N.interval ≤ F.burst N.sink + F.rate N.sink * t) (sym A.received) (K.stretches x t);
  none_lost = λ o c. ap₂ ◌+◌ (total-ap (λ v. count (tagged o c) (queue s v)) (λ v. count (tagged o c) (queue s' v)) N.nodes (λ v h. ap (count (tagged o c)) (queue-agree N A v h)))
      (ap (count (tagged o c)) A.received) ∙ K.none_lost o c;
}

pub every-run-is-kept : EveryRunIsKept
every-run-is-kept N F P l Q s R u =
    let C : Chosen N l s = every-run-is-chosen N l s R in
    kept-agree N F l u P.sink_is_node (C.agrees (suc u)) (kept N F P l Q C.pick u)
