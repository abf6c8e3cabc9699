-- Every run is the function with some oracle, with every oracle the function is a run, and it takes nothing from later readings.
-- Assumes nothing.
use mathlib.Core.Path.{◌≡◌, refl, sym, ap, ap₂, ◌∙◌, subst, fun_ext}
use mathlib.Core.Bool.{cond, not}
use mathlib.Core.List.{List, [], ◌++◌, map, append-eq-nil_iff, map-eq-nil_iff}
use Prim.Native.Nat.{ℕ, zero, suc, ◌≤◌, ◌<◌}
use native.Mathlib.Nat.{le_refl}
use native.Mathlib.Decide.{dec_le, ℕ_discrete}
use native.Mathlib.Omega.{arith}
use lib.Dec.{eqb}
use lib.ListN.{replicate}
use Rattle.network.specs.Counting.{keep, join}
use Rattle.network.specs.Model.{Network, Frame, Exchange, State, queue}
use Rattle.network.specs.Readings.{Reading, made}
use Rattle.network.specs.Run.{Run, deliver, feeds, ends, arrived, arrivals, end_exchanges, fresh, make_readings}
use Rattle.network.specs.Oracle.{serve, is_start, begun, serve_all, symbol, run, Agree, Chosen, EveryRunIsChosen, EveryChoiceIsARun, SameUntil, NothingFromLater}
use Rattle.network.proofs.Serving.{Ordered, empty}
use Rattle.network.proofs.Steps.{ready, ready-waiting, ready-sink, ordered-now, orderly, sink-waiting}
use Rattle.network.proofs.Rules.{answer, Answered, answered, serve-turn}

-- ---- lists

module _ {A : Type 0} where
  join-ap : (n : ℕ) (f g : ℕ → List A) → ((i : ℕ) → i < n → f i ≡ g i) → join n f ≡ join n g
  unfolding join
  join-ap zero f g h = refl
  join-ap (suc n) f g h = ap₂ ◌++◌ (join-ap n f g (λ i k. h i (omega arith))) (h n (le_refl (suc n)))

-- ---- states that agree are ready alike

module _ (N : Network) (l : List Reading) (t : ℕ) {s s' : State} (A : Agree N s s') where
  arrivals-agree : (v : ℕ) → arrivals N t s v ≡ arrivals N t s' v
  unfolding arrivals
  arrivals-agree v = join-ap N.nodes _ _ (λ w h. ap (λ (x : List Exchange). cond (feeds N w v) (map (arrived t) (keep (ends N t) x)) []) (A.air w h))

  ready-agree : Agree N (ready N l t s) (ready N l t s')
  unfolding ready make_readings end_exchanges deliver
  ready-agree = record {
    waiting = λ v h. ap₂ (λ (q a : List Frame). q ++ cond (eqb v N.sink) [] a ++ cond (eqb v N.sink) [] (replicate (made l t v) (fresh t v)))
        (A.waiting v h) (arrivals-agree v);
    air = λ v h. ap (keep (λ e. not (ends N t e))) (A.air v h);
    received = ap₂ (λ (q a : List Frame). q ++ a ++ replicate (made l t N.sink) (fresh t N.sink)) A.received (arrivals-agree N.sink);
  }

-- ---- frames wait in the order in which they came, at the sink too, where none wait

ready-ordered : (N : Network) (l : List Reading) (pick : ℕ → ℕ → ℕ) (t v : ℕ) → Ordered ((ready N l t (run N l pick t)).waiting v)
ready-ordered N l pick t v = by (ℕ_discrete v N.sink)
  where
    by : Dec (v ≡ N.sink) → Ordered ((ready N l t (run N l pick t)).waiting v)
    by (yes e) = subst (λ (i : ℕ). Ordered ((ready N l t (run N l pick t)).waiting i)) (sym e) (subst Ordered (sym (ready-sink N l t (run N l pick t) ∙ sink-waiting N l pick t)) empty)
    by (no ns) = subst Ordered (sym (ready-waiting N l t v (run N l pick t) ns)) (ordered-now N l pick v t (orderly N l pick v t ns))

pub every-choice-is-a-run : EveryChoiceIsARun
unfolding run symbol serve_all ready queue
every-choice-is-a-run N l pick = record {
  empty_queues = λ v h. refl;
  none_received = refl;
  symbols = λ t. record {
    turns = λ v h. serve-turn N pick t v (ready N l t (run N l pick t)) (ready-ordered N l pick t v);
    received = refl;
  };
}

-- ---- the oracle of a run

module _ (N : Network) (l : List Reading) (s : ℕ → State) (R : Run N l s) where
  asked : (t v : ℕ) → Dec (v < N.nodes) → ℕ
  asked t v (yes h) = answer N t v (make_readings N l t (end_exchanges N t (s t))) (s (suc t)) ((R.symbols t).turns v h)
  asked t v (no h) = 0

  choice : ℕ → ℕ → ℕ
  choice t v = asked t v (dec_le (suc v) N.nodes)

  agrees : (u : ℕ) → Agree N (s u) (run N l choice u)
  unfolding run queue symbol serve_all choice asked ready
  agrees zero = record {
    waiting = λ v h. ((append-eq-nil_iff {p = (s 0).waiting v} {q = map (λ e. e.frame) ((s 0).air v)}).0 (R.empty_queues v h)).0;
    air = λ v h. (map-eq-nil_iff (λ (e : Exchange). e.frame) {l = (s 0).air v}).0 ((append-eq-nil_iff {p = (s 0).waiting v} {q = map (λ e. e.frame) ((s 0).air v)}).0 (R.empty_queues v h)).1;
    received = R.none_received;
  }
  agrees (suc u) = record {
    waiting = λ v h. (same v (dec_le (suc v) N.nodes) h (ready-agree N l u (agrees u))).0;
    air = λ v h. (same v (dec_le (suc v) N.nodes) h (ready-agree N l u (agrees u))).1;
    received = (R.symbols u).received ∙ (ready-agree N l u (agrees u)).received;
  }
    where
      same : (v : ℕ) (d : Dec (v < N.nodes)) → v < N.nodes → Agree N (ready N l u (s u)) (ready N l u (run N l choice u))
          → ((s (suc u)).waiting v ≡ (serve (is_start N v u) (asked u v d) u ((ready N l u (run N l choice u)).waiting v)).kept)
          × ((s (suc u)).air v ≡ (ready N l u (run N l choice u)).air v ++ map (begun u) (serve (is_start N v u) (asked u v d) u ((ready N l u (run N l choice u)).waiting v)).sent)
      same v (yes k) h A =
          let b : ℕ = asked u v (yes k) in
          let o : Ordered ((ready N l u (s u)).waiting v) = subst Ordered (sym (A.waiting v h)) (ready-ordered N l choice u v) in
          let a : Answered N u v (ready N l u (s u)) (s (suc u)) b = answered N u v (ready N l u (s u)) (s (suc u)) ((R.symbols u).turns v k) o in (
            a.waiting ∙ ap (λ (q : List Frame). (serve (is_start N v u) b u q).kept) (A.waiting v h),
            a.air ∙ ap₂ (λ (x : List Exchange) (q : List Frame). x ++ map (begun u) (serve (is_start N v u) b u q).sent) (A.air v h) (A.waiting v h),
          )
      same v (no k) h A = absurd (k h)

pub every-run-is-chosen : EveryRunIsChosen
every-run-is-chosen N l s R = record { pick = choice N l s R; agrees = agrees N l s R }

-- ---- later readings

through : (N : Network) (l l' : List Reading) (u : ℕ) → ((t v : ℕ) → t ≤ u → made l t v ≡ made l' t v) → (pick : ℕ → ℕ → ℕ) (k : ℕ) → k ≤ suc u
    → run N l pick k ≡ run N l' pick k
unfolding run symbol make_readings
through N l l' u h pick zero i = refl
through N l l' u h pick (suc k) i = ap₂ (λ (r : State) (m : ℕ → ℕ). serve_all N pick k (deliver N (λ v. replicate (m v) (fresh k v)) (end_exchanges N k r)))
    (through N l l' u h pick k (omega arith)) (fun_ext (λ v. h k v (omega arith)))

pub same-until : SameUntil
same-until N l l' u h pick = through N l l' u h pick (suc u) (le_refl (suc u))

pub nothing-from-later : NothingFromLater
nothing-from-later N l l' u h s R =
    let C : Chosen N l s = every-run-is-chosen N l s R in
    record {
      other = run N l' C.pick;
      is_run = every-choice-is-a-run N l' C.pick;
      agrees = λ t i. subst (λ (r : State). Agree N (s t) r) (through N l l' u h C.pick t i) (C.agrees t);
    }
