-- A surveyed tree: its nodes, its routers and neighbours (document 02, E3), also where numbers are missing and where branches were planned
-- apart (E12). Assumes nothing: these are definitions.
use Rattle.std.specs.Prelude.{◌≡◌, Bool, false, not, ◌&&◌, ◌||◌, List, ℕ, zero, suc, ◌+◌, ◌-◌, ◌≤◌, ◌<◌, eqb, leb, length, get_or}
use Rattle.network.specs.Counting.{bit}

-- Nodes by number, each with a parent and the BURST and RATE of its own sensor. Number 0 is no node. In E3's lists each number is a node
-- (`Plain`, below). Where branches are planned apart, "both lists keep the whole's numbers, .. with gaps" (E12): a number of a gap has
-- parent, BURST and RATE 0.
pub record Tree : Type 0 where
  -- the largest number
  pub nodes : ℕ
  -- 0 for node 1, the root, and in a gap
  pub parent : ℕ → ℕ
  -- "both 0, for a node that doesn't sense"
  pub burst : ℕ → ℕ
  pub rate : ℕ → ℕ
  -- Does the number stand for a branch that was planned apart? Then only its summary is known, "rate, burst and router count" (E12). "It is of
  -- the load that has left the branch's link and counts as its parent's child": a leaf, whose burst is in frame-symbols.
  pub summary : ℕ → Bool
  -- the routers of that branch; 0 for any other number
  pub inside : ℕ → ℕ

-- the tree without summaries whose node v has entry v of each of three lists; their entries 0 are of no node
abbrev pub tree_of : List ℕ → List ℕ → List ℕ → Tree
tree_of parents bursts rates = record {
  nodes = length parents - 1;
  parent = λ v. get_or parents v 0;
  burst = λ v. get_or bursts v 0;
  rate = λ v. get_or rates v 0;
  summary = λ v. false;
  inside = λ v. 0;
}

-- ---- the rules of a node list, as propositions: what number 10 leaves of trees

-- v is in no gap: it is the root, or has a parent
abbrev pub NoGap : Tree → ℕ → Type 0
NoGap t v = 2 ≤ v → 1 ≤ t.parent v

abbrev pub WithoutGaps : Tree → Type 0
WithoutGaps t = (v : ℕ) → v ≤ t.nodes → NoGap t v

-- "Node 1 is the root with PARENT 0; any other parent has a smaller number", and "is listed" (E12): it is in no gap
pub record Rooted (t : Tree) : Type 0 where
  pub few : t.nodes ≤ 254
  pub root : t.parent 1 ≡ 0
  pub listed : (v : ℕ) → 1 ≤ v → v ≤ t.nodes → NoGap t (t.parent v)
  pub smaller : (v : ℕ) → 1 ≤ v → v ≤ t.nodes → t.parent v < v

-- "BURST and RATE are both in range or both 0"
pub record Ranged (t : Tree) : Type 0 where
  pub bursts : (v : ℕ) → 1 ≤ v → v ≤ t.nodes → t.burst v ≤ 255
  pub rates : (v : ℕ) → 1 ≤ v → v ≤ t.nodes → t.rate v ≤ 4095
  pub both : (v : ℕ) → 1 ≤ v → v ≤ t.nodes → t.rate v ≡ 0 → t.burst v ≡ 0

-- no number stands for a branch
abbrev pub WithoutSummaries : Tree → Type 0
WithoutSummaries t = (v : ℕ) → t.summary v ≡ false

-- E3's lists: "the nodes 1, 2, .. in order", and nothing planned apart
pub record Plain (t : Tree) : Type 0 where
  pub without_gaps : WithoutGaps t
  pub without_summaries : WithoutSummaries t
  pub none_inside : (v : ℕ) → t.inside v ≡ 0

-- ---- sums over nodes

-- f 1 + .. + f n
unfoldable pub sum_to : (ℕ → ℕ) → ℕ → ℕ
sum_to f zero = 0
sum_to f (suc n) = sum_to f n + f (suc n)

-- does one of 1 to n pass the test?
unfoldable pub some_to : (ℕ → Bool) → ℕ → Bool
some_to p zero = false
some_to p (suc n) = some_to p n || p (suc n)

-- ---- routers

-- a number of the list, from 1 to the largest
unfoldable pub is_number : Tree → ℕ → Bool
is_number t v = leb 1 v && leb v t.nodes

-- "A router is node 1 or a node with children"
unfoldable pub is_router : Tree → ℕ → Bool
is_router t v = eqb v 1 || some_to (λ w. eqb (t.parent w) v) t.nodes

-- all of them, also those inside the branches that were planned apart
unfoldable pub routers : Tree → ℕ
routers t = sum_to (λ v. bit (is_router t v) + t.inside v) t.nodes

-- a node that has a line, in the list and in the plan: it is in no gap and stands for no branch
unfoldable pub is_listed : Tree → ℕ → Bool
is_listed t v = (eqb v 1 || leb 1 (t.parent v)) && not (t.summary v)

-- ---- neighbours

-- w is a neighbour of v, its child or its parent, and not the one at `from`
abbrev pub other_neighbour : Tree → ℕ → ℕ → ℕ → Bool
other_neighbour t v from w = not (eqb w from) && (eqb (t.parent w) v || eqb (t.parent v) w)

-- v is a number of the list, and `from` is a neighbour of v, or 0
pub record Facing (t : Tree) (v from : ℕ) : Type 0 where
  pub node : 1 ≤ v
  pub known : v ≤ t.nodes
  pub apart : v ≡ from → ⊥
  pub up : 1 ≤ from → from < v → t.parent v ≡ from
  pub down : v < from → t.parent from ≡ v
  pub known_from : from ≤ t.nodes
