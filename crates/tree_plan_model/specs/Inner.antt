-- What the walk over a tree requires and answers, and the conditions part by part. Assumes nothing: these are definitions.
use Rattle.std.specs.Prelude.{◌≡◌, cond, List, ◌++◌, ℕ, ◌+◌, ◌≤◌, ltb, length, get_or, take, set}
use Rattle.refusals.specs.declared.Refusal.{Refusal}
use Rattle.refusals.specs.Conditions.{Condition}
use Rattle.settings_model.specs.declared.Radio.{Radio}
use Rattle.settings_model.specs.Checks.{radio_checks}
use Rattle.links.specs.declared.Load.{Load}
use Rattle.links.specs.declared.Timing.{Timing}
use Rattle.links.specs.Link.{load}
use Rattle.links.specs.Answers.{Timed}
use Rattle.tree_model.specs.Tree.{Tree, tree_of, Rooted, Ranged, WithoutGaps}
use Rattle.tree_model.specs.Ways.{next, Beyond}
use Rattle.tree_model.specs.Loads.{input_of}
use Rattle.tree_model.specs.Checks.{routers_fit}
use Rattle.tree_model.proofs.LoadBounds.{Short}
use Rattle.tree_read_model.specs.Survey.{sink_right}

-- a tree's nodes and their parents alone
abbrev pub shape : List ℕ → Tree
shape ps = tree_of ps ps ps

-- the tree of n nodes, of which the entries up to n of three lists are
abbrev pub tree_up_to : ℕ → List ℕ → List ℕ → List ℕ → Tree
tree_up_to n ps bs rs = tree_of (take (n + 1) ps) (take (n + 1) bs) (take (n + 1) rs)

-- the lists of a tree that keeps number 10 but for the sink
pub record Listing (ps bs rs : List ℕ) : Type 0 where
  pub some : 2 ≤ length ps
  pub bursts : length bs ≡ length ps
  pub rates : length rs ≡ length ps
  pub planted : Rooted (tree_of ps bs rs)
  pub ranged : Ranged (tree_of ps bs rs)
  pub without_gaps : WithoutGaps (tree_of ps bs rs)

-- and times in their bounds
pub record Given (a : Timing) (ps bs rs : List ℕ) : Type 0 where
  pub timed : Timed a
  pub short : Short a
  pub listing : Listing ps bs rs

-- the conditions before numbers 5 and 7: the sink's, 3, 4 and 6
unfoldable pub checks_before_slots : Radio → Tree → ℕ → List (Condition Refusal)
checks_before_slots b t sink = sink_right t sink ++ radio_checks b ++ routers_fit b t

-- ---- notes

-- The notes of a walk have three parts of 256 numbers: entry v of each is the rate and the burst that enter node v, and v's neighbour
-- towards the sink, 0 at the sink.
unfoldable pub load_in : List ℕ → ℕ → Load
load_in ns v = load (get_or ns v 0) (get_or ns (256 + v) 0)

unfoldable pub towards_in : List ℕ → ℕ → ℕ
towards_in ns v = get_or ns (512 + v) 0

-- as they are read: nothing where there are none
unfoldable pub load_noted : List ℕ → ℕ → Load
load_noted ns v = cond (ltb v 256) (load_in ns v) (load 0 0)

unfoldable pub towards_noted : List ℕ → ℕ → ℕ
towards_noted ns v = cond (ltb v 256) (towards_in ns v) 0

-- those of one node, put
unfoldable pub note_set : List ℕ → ℕ → Load → ℕ → List ℕ
note_set ns v l from = cond (ltb v 256) (set (set (set ns v l.rate.0) (256 + v) l.burst.0) (512 + v) from) ns

-- the load that enters node u, and u's neighbour towards the sink s
pub record Right (a : Timing) (t : Tree) (s : ℕ) (ns : List ℕ) (u : ℕ) : Type 0 where
  pub entered : load_in ns u ≡ input_of a t u (next t s u)
  pub towards : towards_in ns u ≡ next t s u

-- s is a node, and `from` is v's neighbour towards it
pub record Seen (t : Tree) (v from s : ℕ) : Type 0 where
  pub node : 1 ≤ s
  pub known : s ≤ t.nodes
  pub towards : next t s v ≡ from

-- For any sink that lies at `from`: what was right of a node has stayed so, and all from v on is right.
pub record Noted (a : Timing) (t : Tree) (v from : ℕ) (ns ns' : List ℕ) : Type 0 where
  pub kept : (s u : ℕ) → u ≤ t.nodes → Seen t v from s → Right a t s ns u → Right a t s ns' u
  pub beyond : (s u : ℕ) → u ≤ t.nodes → Seen t v from s → Beyond t s v u → Right a t s ns' u

-- every node's are right
pub record AllRight (a : Timing) (t : Tree) (s : ℕ) (ns : List ℕ) : Type 0 where
  pub each : (u : ℕ) → 1 ≤ u → u ≤ t.nodes → Right a t s ns u
