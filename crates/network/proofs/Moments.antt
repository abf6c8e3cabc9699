-- One symbol of a run: no queue is longer than at its end, and what the sink receives came then (specs/Claim). Assumes nothing.
use mathlib.Core.Path.{◌≡◌, ap, ap₂, ◌∙◌}
use mathlib.Core.Bool.{cond}
use mathlib.Core.List.{List, [], ◌∷◌, map}
use Prim.Native.Nat.{ℕ, ◌+◌, ◌≤◌}
use native.Mathlib.Omega.{arith}
use lib.Dec.{eqb}
use lib.ListN.{length, replicate, length-append, length-map}
use Rattle.network.specs.Model.{Network, Exchange, State, queue}
use Rattle.network.specs.Readings.{Reading, made}
use Rattle.network.specs.Run.{deliver, end_exchanges, fresh, make_readings, Turn, no_start, unused, sends}
use Rattle.network.specs.Claim.{LongestAtEnd, ReceivedNow}
use Rattle.network.proofs.Steps.{comes, comes-now, ready, ready-received}

queue-length : (s : State) (v : ℕ) → length (queue s v) ≡ length (s.waiting v) + length (s.air v)
unfolding queue
queue-length s v = omega (arith, length-append (s.waiting v) (map (λ e. e.frame) (s.air v)), length-map (s.air v) (λ (e : Exchange). e.frame))

-- a link's turn moves a frame within the queue
turn-length : (N : Network) (t v : ℕ) (s s' : State) → Turn N t v s s' → length (queue s' v) ≡ length (queue s v)
turn-length N t v s s' (no_start n w a) = queue-length s' v ∙ ap₂ ◌+◌ (ap length w) (ap length a) ∙ omega (arith, queue-length s v)
turn-length N t v s s' (unused S late w a) = queue-length s' v ∙ ap₂ ◌+◌ (ap length w) (ap length a) ∙ omega (arith, queue-length s v)
turn-length N t v s s' (sends S front f back e h old w a) = omega (
  arith,
  queue-length s v,
  queue-length s' v,
  ap length w,
  ap length a,
  ap length e,
  length-append front (f ∷ back),
  length-append front back,
  length-append (s.air v) (record { frame = f; started = t } ∷ []),
)

-- what is made is added
ready-length : (N : Network) (l : List Reading) (t v : ℕ) (s : State) → length (queue s v) ≤ length (queue (make_readings N l t s) v)
unfolding make_readings deliver
ready-length N l t v s = omega (
  arith,
  queue-length s v,
  queue-length (make_readings N l t s) v,
  length-append (s.waiting v) (cond (eqb v N.sink) [] (replicate (made l t v) (fresh t v))),
)

pub longest-at-end : LongestAtEnd
longest-at-end N l t s s' S v h =
    let e = turn-length N t v (make_readings N l t (end_exchanges N t s)) s' (S.turns v h) in
    (omega (arith, e, ready-length N l t v (end_exchanges N t s)), omega (arith, e))

pub received-now : ReceivedNow
unfolding ready
received-now N l t s s' S = record {
  new = comes N l t N.sink s;
  added = S.received ∙ ready-received N l t s;
  now = comes-now N l t N.sink s;
}
