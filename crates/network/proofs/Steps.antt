-- What one symbol does to each node in the run as a function (specs/Oracle), and what is always so of the frames at a node.
-- Assumes nothing.
use mathlib.Core.Path.{◌≡◌, refl, sym, ap, ap₂, ◌∙◌, subst}
use mathlib.Core.Logic.{◌≢◌}
use mathlib.Core.Bool.{Bool, true, false, cond, not}
use mathlib.Core.List.{List, [], ◌++◌, map, append_assoc, append-nil}
use Prim.Native.Nat.{ℕ, zero, suc, ◌<◌}
use native.Mathlib.Nat.{le_refl}
use native.Mathlib.Omega.{arith}
use lib.ListN.{replicate}
use borrow.Author.Tests.{eq-eqb, ne_eqb}
use Rattle.network.specs.Counting.{keep, All, none}
use Rattle.network.specs.Model.{Network, Frame, Exchange, State}
use Rattle.network.specs.Readings.{Reading, made}
use Rattle.network.specs.Run.{deliver, feeds, ends, arrived, arrivals, end_exchanges, fresh, make_readings}
use Rattle.network.specs.Oracle.{Served, idle, serve, is_start, begun, serve_all, symbol, run}
use Rattle.network.proofs.Lists.{All-append, All-imp, All-map, All-join, All-keep, All-replicate, All-true}
use Rattle.network.proofs.Serving.{Ordered, empty, ordered-append, serve-all, serve-ordered}

-- ---- before the links' turns

-- what comes to node v in symbol t, in the state s that the last symbol left: from its neighbours, and made there
unfoldable pub comes : Network → List Reading → ℕ → ℕ → State → List Frame
comes N l t v s = arrivals N t s v ++ replicate (made l t v) (fresh t v)

-- the state s when the exchanges have ended and the readings are made
unfoldable pub ready : Network → List Reading → ℕ → State → State
ready N l t s = make_readings N l t (end_exchanges N t s)

pub ready-waiting : (N : Network) (l : List Reading) (t v : ℕ) (s : State) → v ≢ N.sink → (ready N l t s).waiting v ≡ s.waiting v ++ comes N l t v s
unfolding ready make_readings end_exchanges deliver comes
ready-waiting N l t v s ns = rw (ne_eqb v N.sink ns) (append_assoc (s.waiting v) (arrivals N t s v) (replicate (made l t v) (fresh t v)))

pub ready-sink : (N : Network) (l : List Reading) (t : ℕ) (s : State) → (ready N l t s).waiting N.sink ≡ s.waiting N.sink
unfolding ready make_readings end_exchanges deliver
ready-sink N l t s = rw (eq-eqb N.sink N.sink refl) (append-nil (s.waiting N.sink ++ []) ∙ append-nil (s.waiting N.sink))

pub ready-air : (N : Network) (l : List Reading) (t v : ℕ) (s : State) → (ready N l t s).air v ≡ keep (λ e. not (ends N t e)) (s.air v)
unfolding ready make_readings end_exchanges deliver
ready-air N l t v s = refl

pub ready-received : (N : Network) (l : List Reading) (t : ℕ) (s : State) → (ready N l t s).received ≡ s.received ++ comes N l t N.sink s
unfolding ready make_readings end_exchanges deliver comes
ready-received N l t s = append_assoc s.received (arrivals N t s N.sink) (replicate (made l t N.sink) (fresh t N.sink))

-- what comes to a node in a symbol came in that symbol
pub comes-now : (N : Network) (l : List Reading) (t v : ℕ) (s : State) → All (λ f. f.came ≡ t) (comes N l t v s)
unfolding comes arrivals arrived fresh
comes-now N l t v s = All-append (All-join N.nodes _ (λ w k. from (feeds N w v) (s.air w))) (All-replicate _ (made l t v) (fresh t v) refl)
  where
    from : (b : Bool) (x : List Exchange) → All (λ f. f.came ≡ t) (cond b (map (arrived t) (keep (ends N t) x)) [])
    from true x = All-map (arrived t) (All-true (λ e. refl) (keep (ends N t) x))
    from false x = none

-- ---- one symbol

module _ (N : Network) (l : List Reading) (pick : ℕ → ℕ → ℕ) where
  -- the turn of node v's link in symbol u
  unfoldable pub turn : ℕ → ℕ → Served
  turn v u = serve (is_start N v u) (pick u v) u ((run N l pick u).waiting v ++ comes N l u v (run N l pick u))

  pub next-waiting : (v u : ℕ) → v ≢ N.sink → (run N l pick (suc u)).waiting v ≡ (turn v u).kept
  unfolding run symbol serve_all turn ready
  next-waiting v u ns = ap (λ (q : List Frame). (serve (is_start N v u) (pick u v) u q).kept) (ready-waiting N l u v (run N l pick u) ns)

  pub next-air : (v u : ℕ) → v ≢ N.sink → (run N l pick (suc u)).air v ≡ keep (λ e. not (ends N u e)) ((run N l pick u).air v) ++ map (begun u) (turn v u).sent
  unfolding run symbol serve_all turn ready
  next-air v u ns = ap₂ (λ (x : List Exchange) (q : List Frame). x ++ map (begun u) (serve (is_start N v u) (pick u v) u q).sent)
      (ready-air N l u v (run N l pick u)) (ready-waiting N l u v (run N l pick u) ns)

  pub next-received : (u : ℕ) → (run N l pick (suc u)).received ≡ (run N l pick u).received ++ comes N l u N.sink (run N l pick u)
  unfolding run symbol serve_all ready
  next-received u = ready-received N l u (run N l pick u)

  -- ---- the sink has no link and no queue

  sink-idle : (u : ℕ) → is_start N N.sink u ≡ false
  unfolding is_start
  sink-idle u = rw (eq-eqb N.sink N.sink refl)

  pub sink-waiting : (u : ℕ) → (run N l pick u).waiting N.sink ≡ []
  unfolding run symbol serve_all serve idle ready
  sink-waiting zero = refl
  sink-waiting (suc u) = rw (sink-idle u) (ready-sink N l u (run N l pick u) ∙ sink-waiting u)

  pub sink-air : (u : ℕ) → (run N l pick u).air N.sink ≡ []
  unfolding run symbol serve_all serve idle ready keep
  sink-air zero = refl
  sink-air (suc u) = rw (sink-idle u, ready-air N l u N.sink (run N l pick u), sink-air u)

  -- ---- what is always so at a node with a link

  -- its frames wait in the order in which they came, before this symbol, and its exchanges started before it
  pub record Orderly (v u : ℕ) : Type 0 where
    pub ordered : Ordered ((run N l pick u).waiting v)
    pub earlier : All (λ f. f.came < u) ((run N l pick u).waiting v)
    pub started : All (λ e. e.started < u) ((run N l pick u).air v)
    pub sent : All (λ e. e.frame.came < u) ((run N l pick u).air v)

  pub ordered-now : (v u : ℕ) → Orderly v u → Ordered ((run N l pick u).waiting v ++ comes N l u v (run N l pick u))
  ordered-now v u o = ordered-append u o.ordered o.earlier (comes-now N l u v (run N l pick u))

  pub orderly : (v u : ℕ) → v ≢ N.sink → Orderly v u
  unfolding run turn begun
  orderly v zero ns = record { ordered = empty; earlier = none; started = none; sent = none }
  orderly v (suc u) ns =
      let s : State = run N l pick u in
      let old : Orderly v u = orderly v u ns in
      let new : All (λ f. f.came ≡ u) (comes N l u v s) = comes-now N l u v s in
      let all : All (λ f. f.came < suc u) (s.waiting v ++ comes N l u v s) = All-append (All-imp (λ f h. omega arith) old.earlier) (All-imp (λ f h. omega arith) new) in
      let from : All (λ f. f.came < suc u) (turn v u).sent × All (λ f. f.came < suc u) (turn v u).kept = serve-all (is_start N v u) (pick u v) u (s.waiting v ++ comes N l u v s) all in
      record {
        ordered = subst Ordered (sym (next-waiting v u ns)) (serve-ordered (is_start N v u) (pick u v) u _ (ordered-now v u old));
        earlier = subst (λ (q : List Frame). All (λ f. f.came < suc u) q) (sym (next-waiting v u ns)) from.1;
        started = subst (λ (x : List Exchange). All (λ e. e.started < suc u) x) (sym (next-air v u ns))
            (All-append (All-imp (λ e h. omega arith) (All-keep (λ e. not (ends N u e)) old.started)) (All-map (begun u) (All-true (λ f. le_refl (suc u)) (turn v u).sent)));
        sent = subst (λ (x : List Exchange). All (λ e. e.frame.came < suc u) x) (sym (next-air v u ns))
            (All-append (All-imp (λ e h. omega arith) (All-keep (λ e. not (ends N u e)) old.sent)) (All-map (begun u) from.0));
      }
