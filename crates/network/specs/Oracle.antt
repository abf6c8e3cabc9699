-- The same run as a function: an oracle says which of several frames that came in the same symbol goes first. It computes, and so
-- the examples are run with it. Nobody has to believe it: every run is this function with some oracle, and with every oracle it is a
-- run (the statements at the end; proofs/Oracles proves them). Assumes nothing.
use Rattle.std.specs.Prelude.{◌≡◌, Bool, true, false, cond, not, ◌&&◌, List, [], ◌∷◌, ◌++◌, map, ℕ, zero, suc, ◌+◌, ◌*◌, ◌-◌, ◌%◌, ◌≤◌, ◌<◌, eqb, ltb, leb}
use Rattle.network.specs.Counting.{some_below}
use Rattle.network.specs.Model.{Network, Frame, Exchange, State}
use Rattle.network.specs.Readings.{Reading, made}
use Rattle.network.specs.Run.{end_exchanges, make_readings, Run}

-- is symbol n a start of the link of node v?
unfoldable pub is_start : Network → ℕ → ℕ → Bool
is_start N v n = not (eqb v N.sink)
    && some_below (N.holds v) (λ j. let first : ℕ = N.offset v + j * N.exchange in leb first n && eqb ((n - first) % N.interval) 0)

-- what a link sends, one frame or none, and what it keeps waiting
pub record Served : Type 0 where
  pub sent : List Frame
  pub kept : List Frame

unfoldable pub idle : List Frame → Served
idle q = record { sent = []; kept = q }

unfoldable pub behind : Frame → Served → Served
behind f r = record { sent = r.sent; kept = f ∷ r.kept }

-- Of the frames f ∷ q, in the order in which they came, f is sent, or instead one that stands at most k places behind it and came in
-- the same symbol.
unfoldable pub take_oldest : ℕ → Frame → List Frame → Served
take_oldest zero f q = record { sent = f ∷ []; kept = q }
take_oldest (suc k) f [] = record { sent = f ∷ []; kept = [] }
take_oldest (suc k) f (g ∷ q) = cond (eqb g.came f.came) (behind f (take_oldest k g q)) (record { sent = f ∷ []; kept = g ∷ q })

-- a link's turn in symbol t with the waiting frames q, at a start or not
unfoldable pub serve : Bool → ℕ → ℕ → List Frame → Served
serve false k t q = idle q
serve true k t [] = idle []
serve true k t (f ∷ q) = cond (ltb f.came t) (take_oldest k f q) (idle (f ∷ q))

unfoldable pub begun : ℕ → Frame → Exchange
begun t f = record { frame = f; started = t }

-- the turns of all links in symbol t; the oracle `pick` is asked by symbol and node
unfoldable pub serve_all : Network → (ℕ → ℕ → ℕ) → ℕ → State → State
serve_all N pick t s = record {
  waiting = λ v. (serve (is_start N v t) (pick t v) t (s.waiting v)).kept;
  air = λ v. s.air v ++ map (begun t) (serve (is_start N v t) (pick t v) t (s.waiting v)).sent;
  received = s.received;
}

unfoldable pub symbol : Network → List Reading → (ℕ → ℕ → ℕ) → ℕ → State → State
symbol N l pick t s = serve_all N pick t (make_readings N l t (end_exchanges N t s))

-- the state before symbol u
unfoldable pub run : Network → List Reading → (ℕ → ℕ → ℕ) → ℕ → State
run N l pick zero = record { waiting = λ v. []; air = λ v. []; received = [] }
run N l pick (suc u) = symbol N l pick u (run N l pick u)

-- ---- statements

-- two states that are the same at every node of the network and at the sink
pub record Agree (N : Network) (s s' : State) : Type 0 where
  pub waiting : (v : ℕ) → v < N.nodes → s.waiting v ≡ s'.waiting v
  pub air : (v : ℕ) → v < N.nodes → s.air v ≡ s'.air v
  pub received : s.received ≡ s'.received

-- an oracle with which the function makes the run s
pub record Chosen (N : Network) (l : List Reading) (s : ℕ → State) : Type 0 where
  pub pick : ℕ → ℕ → ℕ
  pub agrees : (u : ℕ) → Agree N (s u) (run N l pick u)

-- every run is the function with some oracle
abbrev pub EveryRunIsChosen : Type 0
EveryRunIsChosen = (N : Network) (l : List Reading) (s : ℕ → State) → Run N l s → Chosen N l s

-- with every oracle the function is a run, so there is a run for every network and all readings
abbrev pub EveryChoiceIsARun : Type 0
EveryChoiceIsARun = (N : Network) (l : List Reading) (pick : ℕ → ℕ → ℕ) → Run N l (run N l pick)

-- The run through symbol u depends on the readings up to u alone. As a function, with the same oracle it is the same.
abbrev pub SameUntil : Type 0
SameUntil = (N : Network) (l l' : List Reading) (u : ℕ) → ((t v : ℕ) → t ≤ u → made l t v ≡ made l' t v)
    → (pick : ℕ → ℕ → ℕ) → run N l pick (suc u) ≡ run N l' pick (suc u)

-- a run fed the readings l that is the run s through symbol u
pub record Continued (N : Network) (l : List Reading) (u : ℕ) (s : ℕ → State) : Type 0 where
  pub other : ℕ → State
  pub is_run : Run N l other
  pub agrees : (t : ℕ) → t ≤ suc u → Agree N (s t) (other t)

-- Any run through symbol u is also one with other readings, if they make the same frames up to u.
abbrev pub NothingFromLater : Type 0
NothingFromLater = (N : Network) (l l' : List Reading) (u : ℕ) → ((t v : ℕ) → t ≤ u → made l t v ≡ made l' t v)
    → (s : ℕ → State) → Run N l s → Continued N l' u s
