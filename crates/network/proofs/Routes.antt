-- Each frame comes to each node on its route within the delays of the links behind it. Assumes nothing.
use mathlib.Core.Path.{◌≡◌, refl, sym, subst}
use mathlib.Core.Bool.{Bool, true, false, cond, not}
use mathlib.Core.List.{List, [], ◌++◌, map}
use Prim.Native.Nat.{ℕ, zero, suc, ◌+◌, ◌≤◌, ◌<◌}
use native.Mathlib.Decide.{ℕ_discrete}
use native.Mathlib.Nat.{le_refl}
use native.Mathlib.Omega.{arith}
use Rattle.network.specs.Counting.{keep, All, none}
use Rattle.network.specs.Model.{Network, Frame, Exchange}
use Rattle.network.specs.Readings.{Reading, made}
use Rattle.network.specs.Run.{feeds, ends, arrived, arrivals, fresh}
use Rattle.network.specs.Oracle.{begun, is_start, run}
use Rattle.network.specs.Loads.{Flows, Linked, Provisioned, Buckets}
use Rattle.network.proofs.Lists.{All-append, All-imp, All-both, All-map, All-join, All-keep, All-replicate, All-counted}
use Rattle.network.proofs.Serving.{came_before, serve-all}
use Rattle.network.proofs.Steps.{comes, turn, next-waiting, next-air, next-received, sink-waiting, sink-air, orderly}
use Rattle.network.proofs.Accounting.{waits, on_air}
use Rattle.network.proofs.Bounds.{feeds-true, soon}

-- the frame f came to node v so early that the rest of its route fits into its route's delay
pub record Timely (F : Flows) (v : ℕ) (f : Frame) : Type 0 where
  pub time : f.came + F.route v ≤ f.made + F.route f.sensor

module _ (N : Network) (F : Flows) (P : Provisioned N F) (l : List Reading) (Q : Buckets N F l) (pick : ℕ → ℕ → ℕ) where
  pub waiting-soon : (v u : ℕ) → Linked N v → All (λ f. u ≤ f.came + F.delay v) ((run N l pick u).waiting v)
  unfolding waits on_air came_before
  waiting-soon v u L = All-imp (λ f h. let d = soon N F P l Q pick v (suc f.came) u L h.1 (omega (arith, h.0)) in omega arith)
      (All-both (All-counted (λ f. f.came) ((run N l pick u).waiting v)) (orderly N l pick v u L.not_sink).earlier)

  pub air-soon : (v u : ℕ) → Linked N v → All (λ e. u ≤ e.frame.came + F.delay v) ((run N l pick u).air v)
  unfolding waits on_air came_before
  air-soon v u L = All-imp (λ e h. let d = soon N F P l Q pick v (suc e.frame.came) u L h.1 (omega (arith, h.0)) in omega arith)
      (All-both (All-counted (λ e. e.frame.came) ((run N l pick u).air v)) (orderly N l pick v u L.not_sink).sent)

  comes-timely : (v u : ℕ) → ((w : ℕ) → All (λ e. Timely F w e.frame) ((run N l pick u).air w)) → All (Timely F v) (comes N l u v (run N l pick u))
  unfolding comes arrivals arrived fresh
  comes-timely v u all = All-append
      (All-join N.nodes _ (λ w hw. by w hw (feeds N w v) refl))
      (All-replicate _ (made l u v) (fresh u v) (record { time = le_refl (u + F.route v) }))
    where
      by : (w : ℕ) → w < N.nodes → (b : Bool) → feeds N w v ≡ b → All (Timely F v) (cond b (map (arrived u) (keep (ends N u) ((run N l pick u).air w))) [])
      by w hw true e =
          let L : Linked N w = record { node = hw; not_sink = (feeds-true N w v e).0 } in
          let to : N.next w ≡ v = (feeds-true N w v e).1 in
          All-map (arrived u) (All-imp (λ x h. subst (λ (k : ℕ). Timely F k (arrived u x)) to (record { time = omega (arith, h.0.0.time, h.0.1, P.route_covers w L) }))
          (All-keep (ends N u) (All-both (all w) (air-soon w u L))))
      by w hw false e = none

  pub record InTime (u v : ℕ) : Type 0 where
    pub waiting : All (Timely F v) ((run N l pick u).waiting v)
    pub air : All (λ e. Timely F v e.frame) ((run N l pick u).air v)

  at-sink : (u v : ℕ) → v ≡ N.sink → InTime u v
  at-sink u v e = subst (InTime u) (sym e) (record {
    waiting = subst (λ (q : List Frame). All (Timely F N.sink) q) (sym (sink-waiting N l pick u)) none;
    air = subst (λ (q : List Exchange). All (λ x. Timely F N.sink x.frame) q) (sym (sink-air N l pick u)) none;
  })

  pub in-time : (u v : ℕ) → InTime u v
  unfolding run turn begun
  in-time zero v = record { waiting = none; air = none }
  in-time (suc u) v = by (ℕ_discrete v N.sink) (in-time u v) (comes-timely v u (λ w. (in-time u w).air))
    where
      by : Dec (v ≡ N.sink) → InTime u v → All (Timely F v) (comes N l u v (run N l pick u)) → InTime (suc u) v
      by (yes e) old new = at-sink (suc u) v e
      by (no ns) old new =
          let both = serve-all (is_start N v u) (pick u v) u ((run N l pick u).waiting v ++ comes N l u v (run N l pick u)) (All-append old.waiting new) in
          record {
            waiting = subst (λ (q : List Frame). All (Timely F v) q) (sym (next-waiting N l pick v u ns)) both.1;
            air = subst (λ (q : List Exchange). All (λ x. Timely F v x.frame) q) (sym (next-air N l pick v u ns))
                (All-append (All-imp (λ x h. h.0) (All-keep (λ x. not (ends N u x)) old.air)) (All-map (begun u) both.0));
          }

  pub received-in-time : (u : ℕ) → All (Timely F N.sink) (run N l pick u).received
  unfolding run
  received-in-time zero = none
  received-in-time (suc u) = subst (λ (q : List Frame). All (Timely F N.sink) q) (sym (next-received N l pick u))
      (All-append (received-in-time u) (comes-timely N.sink u (λ w. (in-time u w).air)))
