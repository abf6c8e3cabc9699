-- Surveyed trees and their plans, refusals and slots, computed in small tables: what the definitions give, beside what one finds by hand.
-- Assumes nothing: these are definitions and statements; proofs/ExamplesHold proves them.
use Rattle.std.specs.Prelude.{◌≡◌, true, false, cond, List, [], ◌∷◌, ◌++◌, map, ℕ, suc, eqb, get_or}
use Rattle.measure.specs.Measures.{slots}
use Rattle.refusals.specs.declared.Refusal.TheVariants.{OutOfRange, AtOdds, Superframes, InTree}
use Rattle.refusals.specs.declared.TreeRefusal.TheVariants.{RouterReservations, RouterSlots}
use Rattle.refusals.specs.declared.Conflict.TheVariants.{Orders, FrameLength, Unacknowledged}
use Rattle.network.specs.Counting.{bit, join}
use Rattle.settings_model.specs.declared.Radio.{Radio}
use Rattle.plan_model.specs.Lines.{letter, columns}
use Rattle.plan_model.specs.declared.NodeLine.{NodeLine}
use Rattle.tree_model.specs.Tree.{Tree, tree_of, is_router, routers}
use Rattle.tree_model.specs.Ways.{next, superframe_of, kind_of, depth_of}
use Rattle.settings_model.specs.Checks.{radio}
use Rattle.tree_model.specs.Lines.{lines}
use Rattle.tree_model.specs.Checks.{reservations_at, used_at, reservable_at}
use Rattle.refusals.specs.Outcome.{Planned, Refused}
use Rattle.tree_model.specs.Outcome.{outcome_of}
use Rattle.tree_model.specs.Promise.{longest}

-- the nodes 1 to n
unfoldable pub up_to : ℕ → List ℕ
up_to n = join n (λ i. suc i ∷ [])

-- a line's letter, its eight numbers and ROUTE
unfoldable pub node_columns : NodeLine → List ℕ
node_columns n = columns n.line ++ n.route.0 ∷ []

-- all lines of a plan
unfoldable pub table : Radio → Tree → ℕ → List (List ℕ)
table b t sink = map node_columns (lines b t sink)

-- ---- document 01's P1 and P2 as a surveyed tree

-- BO 8, SO 4, HEAD 19, DATA 7, ACK 0: BI = 245760, S = 960, X = 104
unfoldable pub common : Radio
common = radio 8 4 19 7 0 0

-- Nodes 2 and 3 are child routers of the root; the end nodes 4, 5 and 6 are of the routers 1, 2 and 3. These sense.
unfoldable pub balanced_tree : Tree
balanced_tree = tree_of (0 ∷ 0 ∷ 1 ∷ 1 ∷ 1 ∷ 2 ∷ 3 ∷ []) (0 ∷ 0 ∷ 0 ∷ 0 ∷ 1 ∷ 1 ∷ 1 ∷ []) (0 ∷ 0 ∷ 0 ∷ 0 ∷ 1 ∷ 1 ∷ 1 ∷ [])

pub record BalancedTrees : Type 0 where
  -- P1: the sink is the root. KIND's letter, DEPTH, RATE, BURST, SLOTS, FRAMES, LATENCY, BUFFER, DELAY, ROUTE
  pub root_lines : table common balanced_tree 1
      ≡ (83 ∷ 0 ∷ 3 ∷ 1962440 ∷ 0 ∷ 0 ∷ 0 ∷ 8 ∷ 0 ∷ 0 ∷ [])
      ∷ (85 ∷ 1 ∷ 1 ∷ 490792 ∷ 1 ∷ 9 ∷ 245032 ∷ 3 ∷ 299565 ∷ 299565 ∷ [])
      ∷ (85 ∷ 1 ∷ 1 ∷ 490792 ∷ 1 ∷ 9 ∷ 245032 ∷ 3 ∷ 299565 ∷ 299565 ∷ [])
      ∷ (69 ∷ 1 ∷ 1 ∷ 245760 ∷ 1 ∷ 9 ∷ 245032 ∷ 2 ∷ 272339 ∷ 272339 ∷ [])
      ∷ (69 ∷ 2 ∷ 1 ∷ 245760 ∷ 1 ∷ 9 ∷ 245032 ∷ 2 ∷ 272339 ∷ 571904 ∷ [])
      ∷ (69 ∷ 2 ∷ 1 ∷ 245760 ∷ 1 ∷ 9 ∷ 245032 ∷ 2 ∷ 272339 ∷ 571904 ∷ [])
      ∷ []
  pub root_planned : outcome_of common balanced_tree 1 ≡ Planned (lines common balanced_tree 1)
  -- DELAY of the row's line S
  pub root_longest : longest (lines common balanced_tree 1) ≡ 571904
  -- P2: the sink is node 2
  pub below_lines : table common balanced_tree 2
      ≡ (68 ∷ 0 ∷ 2 ∷ 1226616 ∷ 1 ∷ 9 ∷ 245032 ∷ 7 ∷ 381323 ∷ 381323 ∷ [])
      ∷ (83 ∷ 1 ∷ 3 ∷ 2207472 ∷ 0 ∷ 0 ∷ 0 ∷ 9 ∷ 0 ∷ 0 ∷ [])
      ∷ (85 ∷ 1 ∷ 1 ∷ 490792 ∷ 1 ∷ 9 ∷ 245032 ∷ 3 ∷ 299565 ∷ 680888 ∷ [])
      ∷ (69 ∷ 1 ∷ 1 ∷ 245760 ∷ 1 ∷ 9 ∷ 245032 ∷ 2 ∷ 272339 ∷ 653662 ∷ [])
      ∷ (69 ∷ 2 ∷ 1 ∷ 245760 ∷ 1 ∷ 9 ∷ 245032 ∷ 2 ∷ 272339 ∷ 272339 ∷ [])
      ∷ (69 ∷ 2 ∷ 1 ∷ 245760 ∷ 1 ∷ 9 ∷ 245032 ∷ 2 ∷ 272339 ∷ 953227 ∷ [])
      ∷ []
  pub below_planned : outcome_of common balanced_tree 2 ≡ Planned (lines common balanced_tree 2)
  pub below_longest : longest (lines common balanced_tree 2) ≡ 953227

-- ---- branches above, beside and below the sink

-- BO 6, SO 2, HEAD 19, DATA 7, ACK 1: BI = 61440, S = 240, X = 138
unfoldable pub acknowledged : Radio
acknowledged = radio 6 2 19 7 1 0

-- The sink, 4, stands below router 2, and that below the root, which only forwards. Router 7 with its end node 8 is below the sink. Beside
-- its path are the end node 5 of router 2, and below the root router 3, which only forwards, with its end node 6, and router 9, of whose branch
-- nothing senses.
unfoldable pub branches : Tree
branches = tree_of
    (0 ∷ 0 ∷ 1 ∷ 1 ∷ 2 ∷ 2 ∷ 3 ∷ 4 ∷ 7 ∷ 1 ∷ 9 ∷ [])
    (0 ∷ 0 ∷ 2 ∷ 0 ∷ 1 ∷ 3 ∷ 1 ∷ 2 ∷ 1 ∷ 0 ∷ 0 ∷ [])
    (0 ∷ 0 ∷ 1 ∷ 0 ∷ 2 ∷ 2 ∷ 4 ∷ 3 ∷ 1 ∷ 0 ∷ 0 ∷ [])

pub record Branches : Type 0 where
  pub neighbours : map (next branches 4) (up_to 10) ≡ 2 ∷ 4 ∷ 1 ∷ 0 ∷ 2 ∷ 3 ∷ 4 ∷ 7 ∷ 1 ∷ 9 ∷ []
  -- the router in whose superframe each link lies; the sink has none
  pub superframes : map (superframe_of branches 4) (1 ∷ 2 ∷ 3 ∷ 5 ∷ 6 ∷ 7 ∷ 8 ∷ 9 ∷ 10 ∷ []) ≡ 1 ∷ 2 ∷ 1 ∷ 2 ∷ 3 ∷ 4 ∷ 7 ∷ 1 ∷ 9 ∷ []
  -- D, D, U, S, E, E, U, E, U, E
  pub kinds : map (λ v. letter (kind_of branches 4 v)) (up_to 10) ≡ 68 ∷ 68 ∷ 85 ∷ 83 ∷ 69 ∷ 69 ∷ 85 ∷ 69 ∷ 85 ∷ 69 ∷ []
  pub depths : map (depth_of branches) (up_to 10) ≡ 0 ∷ 1 ∷ 1 ∷ 2 ∷ 2 ∷ 2 ∷ 3 ∷ 4 ∷ 1 ∷ 2 ∷ []
  pub routers_are : map (is_router branches) (up_to 10) ≡ true ∷ true ∷ true ∷ true ∷ false ∷ false ∷ true ∷ false ∷ true ∷ false ∷ []
  pub routers_count : routers branches ≡ 6
  -- what routers 1, 2, 3, 4, 7 and 9 have of reservations, of slots in use and of slots to be reserved. At SO 2, L is 14 of a router that has no
  -- reservation and 13 of one that has 1 to 7.
  pub reservations : map (reservations_at acknowledged branches 4) (1 ∷ 2 ∷ 3 ∷ 4 ∷ 7 ∷ 9 ∷ []) ≡ 2 ∷ 2 ∷ 1 ∷ 1 ∷ 1 ∷ 0 ∷ []
  pub used : map (λ r. (used_at acknowledged branches 4 r).0) (1 ∷ 2 ∷ 3 ∷ 4 ∷ 7 ∷ 9 ∷ []) ≡ 6 ∷ 7 ∷ 3 ∷ 3 ∷ 1 ∷ 0 ∷ []
  pub reservable : map (λ r. (reservable_at acknowledged branches 4 r).0) (1 ∷ 2 ∷ 3 ∷ 4 ∷ 7 ∷ 9 ∷ []) ≡ 13 ∷ 13 ∷ 13 ∷ 13 ∷ 13 ∷ 14 ∷ []
  -- RATE of router 2's line is its own 1, 2 of end node 5 and 4 of the root; ROUTE of node 6 is 73314 + 122135 + 170956 + 213557
  pub printed : table acknowledged branches 4
      ≡ (68 ∷ 0 ∷ 4 ∷ 549648 ∷ 3 ∷ 5 ∷ 61026 ∷ 13 ∷ 170956 ∷ 384513 ∷ [])
      ∷ (68 ∷ 1 ∷ 7 ∷ 1223556 ∷ 5 ∷ 8 ∷ 60612 ∷ 27 ∷ 213557 ∷ 213557 ∷ [])
      ∷ (85 ∷ 1 ∷ 4 ∷ 305544 ∷ 3 ∷ 5 ∷ 61026 ∷ 9 ∷ 122135 ∷ 506648 ∷ [])
      ∷ (83 ∷ 2 ∷ 13 ∷ 2199282 ∷ 0 ∷ 0 ∷ 0 ∷ 36 ∷ 0 ∷ 0 ∷ [])
      ∷ (69 ∷ 2 ∷ 2 ∷ 184320 ∷ 2 ∷ 3 ∷ 61302 ∷ 5 ∷ 122742 ∷ 336299 ∷ [])
      ∷ (69 ∷ 2 ∷ 4 ∷ 61440 ∷ 3 ∷ 5 ∷ 61026 ∷ 5 ∷ 73314 ∷ 579962 ∷ [])
      ∷ (85 ∷ 3 ∷ 4 ∷ 245898 ∷ 3 ∷ 5 ∷ 61026 ∷ 8 ∷ 110206 ∷ 110206 ∷ [])
      ∷ (69 ∷ 4 ∷ 1 ∷ 61440 ∷ 1 ∷ 1 ∷ 61578 ∷ 3 ∷ 123018 ∷ 233224 ∷ [])
      ∷ (85 ∷ 1 ∷ 0 ∷ 0 ∷ 0 ∷ 0 ∷ 0 ∷ 0 ∷ 0 ∷ 0 ∷ [])
      ∷ (69 ∷ 2 ∷ 0 ∷ 0 ∷ 0 ∷ 0 ∷ 0 ∷ 0 ∷ 0 ∷ 0 ∷ [])
      ∷ []
  pub planned : outcome_of acknowledged branches 4 ≡ Planned (lines acknowledged branches 4)
  -- that of end node 6: no router's ROUTE is as large
  pub largest_route : longest (lines acknowledged branches 4) ≡ 579962

-- ---- gaps, and branches planned apart (document 02, E12)

-- `branches` without router 3 and its end node 6: numbers 3 and 6 are missing. And the same nodes numbered 1, 2, ..
unfoldable pub gapped : Tree
gapped = tree_of
    (0 ∷ 0 ∷ 1 ∷ 0 ∷ 2 ∷ 2 ∷ 0 ∷ 4 ∷ 7 ∷ 1 ∷ 9 ∷ [])
    (0 ∷ 0 ∷ 2 ∷ 0 ∷ 1 ∷ 3 ∷ 0 ∷ 2 ∷ 1 ∷ 0 ∷ 0 ∷ [])
    (0 ∷ 0 ∷ 1 ∷ 0 ∷ 2 ∷ 2 ∷ 0 ∷ 3 ∷ 1 ∷ 0 ∷ 0 ∷ [])

unfoldable pub closed_up : Tree
closed_up = tree_of (0 ∷ 0 ∷ 1 ∷ 2 ∷ 2 ∷ 3 ∷ 5 ∷ 1 ∷ 7 ∷ []) (0 ∷ 0 ∷ 2 ∷ 1 ∷ 3 ∷ 2 ∷ 1 ∷ 0 ∷ 0 ∷ []) (0 ∷ 0 ∷ 1 ∷ 2 ∷ 2 ∷ 3 ∷ 1 ∷ 0 ∷ 0 ∷ [])

-- t with a branch planned apart, a router c and its end node d: c stands for the branch, whose summary is this rate, this burst and one router,
-- and d is missing
unfoldable pub apart : Tree → ℕ → ℕ → ℕ → ℕ → Tree
apart t c d rate burst = record {
  nodes = t.nodes;
  parent = λ v. cond (eqb v d) 0 (t.parent v);
  burst = λ v. cond (eqb v d) 0 (cond (eqb v c) burst (t.burst v));
  rate = λ v. cond (eqb v d) 0 (cond (eqb v c) rate (t.rate v));
  summary = λ v. eqb v c;
  inside = λ v. bit (eqb v c);
}

-- Router 3 hangs below the root, which lies on the sink's path. Its line in the whole has RATE 4, BURST 305544 and LATENCY 61026, so 305544 +
-- 4 × 61026 has left its link.
unfoldable pub loaded_apart : Tree
loaded_apart = apart branches 3 6 4 549648

-- of router 9's branch nothing senses
unfoldable pub silent_apart : Tree
silent_apart = apart branches 9 10 0 0

-- of the whole tree's lines those at these places, counted from 0
unfoldable pub lines_of_whole : List ℕ → List (List ℕ)
lines_of_whole places = map (λ i. get_or (table acknowledged branches 4) i []) places

pub record GapsAndSummaries : Type 0 where
  -- a gap has no line and is no router: all is as if the nodes had other numbers
  pub gap_lines : table acknowledged gapped 4 ≡ table acknowledged closed_up 3
  pub gap_routers : routers gapped ≡ 5
  pub gap_planned : outcome_of acknowledged gapped 4 ≡ Planned (lines acknowledged gapped 4)
  -- with a summary every remaining node has the whole's line, and its routers have the whole's reservations and slots
  pub loaded_lines : table acknowledged loaded_apart 4 ≡ lines_of_whole (0 ∷ 1 ∷ 3 ∷ 4 ∷ 6 ∷ 7 ∷ 8 ∷ 9 ∷ [])
  pub loaded_reservations : map (reservations_at acknowledged loaded_apart 4) (1 ∷ 2 ∷ 4 ∷ 7 ∷ 9 ∷ []) ≡ 2 ∷ 2 ∷ 1 ∷ 1 ∷ 0 ∷ []
  pub loaded_slots : map (λ r. (used_at acknowledged loaded_apart 4 r).0) (1 ∷ 2 ∷ 4 ∷ 7 ∷ 9 ∷ []) ≡ 6 ∷ 7 ∷ 3 ∷ 1 ∷ 0 ∷ []
  pub loaded_planned : outcome_of acknowledged loaded_apart 4 ≡ Planned (lines acknowledged loaded_apart 4)
  -- number 6 counts the branch's router: six, where four superframes fit an interval
  pub loaded_six : outcome_of (radio 4 2 19 7 1 0) loaded_apart 4 ≡ Refused (Superframes 6 4)
  pub whole_six : outcome_of (radio 4 2 19 7 1 0) branches 4 ≡ Refused (Superframes 6 4)
  -- a summary of rate 0 has no reservation, and its router counts
  pub silent_lines : table acknowledged silent_apart 4 ≡ lines_of_whole (0 ∷ 1 ∷ 2 ∷ 3 ∷ 4 ∷ 5 ∷ 6 ∷ 7 ∷ [])
  pub silent_reservations : map (reservations_at acknowledged silent_apart 4) (1 ∷ 2 ∷ 3 ∷ 4 ∷ 7 ∷ []) ≡ 2 ∷ 2 ∷ 1 ∷ 1 ∷ 1 ∷ []
  pub silent_six : outcome_of (radio 4 2 19 7 1 0) silent_apart 4 ≡ Refused (Superframes 6 4)

-- ---- tries that may fail (document 02, E5)

-- P1's tree with ACK 1 and LOSS 2: X = 138, and an exchange lasts 138 + 2 × 158 = 454 of the 960 symbols of a slot
unfoldable pub two_failures : Radio
two_failures = radio 8 4 19 7 1 2

pub record WithLoss : Type 0 where
  pub printed : table two_failures balanced_tree 1
      ≡ (83 ∷ 0 ∷ 3 ∷ 1966080 ∷ 0 ∷ 0 ∷ 0 ∷ 8 ∷ 0 ∷ 0 ∷ [])
      ∷ (85 ∷ 1 ∷ 1 ∷ 491520 ∷ 1 ∷ 2 ∷ 245760 ∷ 3 ∷ 491520 ∷ 491520 ∷ [])
      ∷ (85 ∷ 1 ∷ 1 ∷ 491520 ∷ 1 ∷ 2 ∷ 245760 ∷ 3 ∷ 491520 ∷ 491520 ∷ [])
      ∷ (69 ∷ 1 ∷ 1 ∷ 245760 ∷ 1 ∷ 2 ∷ 245760 ∷ 2 ∷ 368640 ∷ 368640 ∷ [])
      ∷ (69 ∷ 2 ∷ 1 ∷ 245760 ∷ 1 ∷ 2 ∷ 245760 ∷ 2 ∷ 368640 ∷ 860160 ∷ [])
      ∷ (69 ∷ 2 ∷ 1 ∷ 245760 ∷ 1 ∷ 2 ∷ 245760 ∷ 2 ∷ 368640 ∷ 860160 ∷ [])
      ∷ []
  pub planned : outcome_of two_failures balanced_tree 1 ≡ Planned (lines two_failures balanced_tree 1)
  -- with LOSS 1 each of two end nodes takes 4 slots of 60 for an exchange of 94 + 114, 8 of 7 together, where 2 are enough without loss
  pub too_long : outcome_of (radio 3 0 17 1 1 1) (tree_of (0 ∷ 0 ∷ 1 ∷ 1 ∷ []) (0 ∷ 0 ∷ 1 ∷ 1 ∷ []) (0 ∷ 0 ∷ 1 ∷ 1 ∷ [])) 1 ≡ Refused (InTree (RouterSlots 1 (slots 8) (slots 7)))
  pub without : (used_at (radio 3 0 17 1 1 0) (tree_of (0 ∷ 0 ∷ 1 ∷ 1 ∷ []) (0 ∷ 0 ∷ 1 ∷ 1 ∷ []) (0 ∷ 0 ∷ 1 ∷ 1 ∷ [])) 1 1).0 ≡ 4

-- ---- without traffic

-- nothing senses
unfoldable pub silent : Tree
silent = tree_of (0 ∷ 0 ∷ 1 ∷ 1 ∷ 2 ∷ []) (0 ∷ 0 ∷ 0 ∷ 0 ∷ 0 ∷ []) (0 ∷ 0 ∷ 0 ∷ 0 ∷ 0 ∷ [])

-- the root alone, with BURST 3 and RATE 2
unfoldable pub lone : Tree
lone = tree_of (0 ∷ 0 ∷ []) (0 ∷ 3 ∷ []) (0 ∷ 2 ∷ [])

pub record WithoutLinks : Type 0 where
  pub silent_lines : table common silent 2
      ≡ (68 ∷ 0 ∷ 0 ∷ 0 ∷ 0 ∷ 0 ∷ 0 ∷ 0 ∷ 0 ∷ 0 ∷ [])
      ∷ (83 ∷ 1 ∷ 0 ∷ 0 ∷ 0 ∷ 0 ∷ 0 ∷ 0 ∷ 0 ∷ 0 ∷ [])
      ∷ (69 ∷ 1 ∷ 0 ∷ 0 ∷ 0 ∷ 0 ∷ 0 ∷ 0 ∷ 0 ∷ 0 ∷ [])
      ∷ (69 ∷ 2 ∷ 0 ∷ 0 ∷ 0 ∷ 0 ∷ 0 ∷ 0 ∷ 0 ∷ 0 ∷ [])
      ∷ []
  pub silent_planned : outcome_of common silent 2 ≡ Planned (lines common silent 2)
  pub lone_line : table common lone 1 ≡ (83 ∷ 0 ∷ 2 ∷ 737280 ∷ 0 ∷ 0 ∷ 0 ∷ 3 ∷ 0 ∷ 0 ∷ []) ∷ []
  pub lone_planned : outcome_of common lone 1 ≡ Planned (lines common lone 1)

-- ---- numbers 3, 4 and 6

-- a chain of two routers and an end node
unfoldable pub chain : Tree
chain = tree_of (0 ∷ 0 ∷ 1 ∷ 2 ∷ []) (0 ∷ 0 ∷ 0 ∷ 1 ∷ []) (0 ∷ 0 ∷ 0 ∷ 1 ∷ [])

pub record SettingsRefused : Type 0 where
  -- 3 at document 01's columns, just outside each range
  pub order : outcome_of (radio 15 4 19 7 0 0) lone 1 ≡ Refused (OutOfRange 1 15)
  pub superframe_order : outcome_of (radio 14 15 19 7 0 0) lone 1 ≡ Refused (OutOfRange 2 15)
  pub short_head : outcome_of (radio 8 4 4 7 0 0) lone 1 ≡ Refused (OutOfRange 10 4)
  pub long_head : outcome_of (radio 8 4 127 7 0 0) lone 1 ≡ Refused (OutOfRange 10 127)
  pub no_payload : outcome_of (radio 8 4 19 0 0 0) lone 1 ≡ Refused (OutOfRange 11 0)
  pub long_payload : outcome_of (radio 8 4 5 123 0 0) lone 1 ≡ Refused (OutOfRange 11 123)
  pub acknowledgement : outcome_of (radio 8 4 19 7 2 0) lone 1 ≡ Refused (OutOfRange 12 2)
  pub loss : outcome_of (radio 8 4 19 7 1 8) lone 1 ≡ Refused (OutOfRange 13 8)
  -- the lowest column answers
  pub lowest_column : outcome_of (radio 8 15 4 0 2 0) lone 1 ≡ Refused (OutOfRange 2 15)
  -- 4
  pub orders_at_odds : outcome_of (radio 4 8 19 7 0 0) lone 1 ≡ Refused (AtOdds (Orders 8 4))
  pub frame_at_odds : outcome_of (radio 8 4 126 2 0 0) lone 1 ≡ Refused (AtOdds (FrameLength 126 2))
  pub frame_longest : outcome_of (radio 8 4 126 1 0 0) lone 1 ≡ Planned (lines (radio 8 4 126 1 0 0) lone 1)
  pub unacknowledged : outcome_of (radio 8 4 19 7 0 1) lone 1 ≡ Refused (AtOdds (Unacknowledged 1 0))
  pub most_loss : outcome_of (radio 8 4 19 7 1 7) lone 1 ≡ Planned (lines (radio 8 4 19 7 1 7) lone 1)
  pub frame_first : outcome_of (radio 8 4 126 2 0 1) lone 1 ≡ Refused (AtOdds (FrameLength 126 2))
  pub orders_first : outcome_of (radio 4 8 126 2 0 0) lone 1 ≡ Refused (AtOdds (Orders 8 4))
  -- 3 before 4, and 4 before 6: three routers, where an interval of SO above BO has room for none
  pub three_before_four : outcome_of (radio 4 8 19 7 2 0) lone 1 ≡ Refused (OutOfRange 12 2)
  pub four_before_six : outcome_of (radio 4 8 19 7 0 0) balanced_tree 1 ≡ Refused (AtOdds (Orders 8 4))
  pub frame_before_six : outcome_of (radio 4 4 126 2 0 0) balanced_tree 1 ≡ Refused (AtOdds (FrameLength 126 2))
  pub loss_before_six : outcome_of (radio 4 4 19 7 0 1) balanced_tree 1 ≡ Refused (AtOdds (Unacknowledged 1 0))
  -- 6: three routers where two superframes fit an interval, and two where two fit
  pub too_many_routers : outcome_of (radio 5 4 19 7 0 0) balanced_tree 1 ≡ Refused (Superframes 3 2)
  pub root_is_router : outcome_of (radio 4 4 19 7 0 0) chain 1 ≡ Refused (Superframes 2 1)
  pub just_met : outcome_of (radio 5 4 19 7 0 0) chain 1 ≡ Planned (lines (radio 5 4 19 7 0 0) chain 1)

-- ---- numbers 5 and 7

-- BO 3, SO 0, HEAD 17, DATA 1, ACK 0: S = X = 60, so a link takes as many slots as its rate; L is 7 of a router with 1 to 10 reservations
unfoldable pub whole : Radio
whole = radio 3 0 17 1 0 0

-- a root with as many end nodes as the list has entries, which are their BURST and RATE
unfoldable pub star : List ℕ → Tree
star l = tree_of (0 ∷ 0 ∷ map (λ (n : ℕ). 1) l) (0 ∷ 0 ∷ l) (0 ∷ 0 ∷ l)

unfoldable pub eight : List ℕ
eight = 1 ∷ 1 ∷ 1 ∷ 1 ∷ 1 ∷ 1 ∷ 1 ∷ 1 ∷ []

unfoldable pub eight_one_silent : List ℕ
eight_one_silent = 1 ∷ 1 ∷ 1 ∷ 0 ∷ 1 ∷ 1 ∷ 1 ∷ 1 ∷ []

unfoldable pub eleven_four_silent : List ℕ
eleven_four_silent = 1 ∷ 1 ∷ 1 ∷ 0 ∷ 1 ∷ 1 ∷ 1 ∷ 1 ∷ 0 ∷ 0 ∷ 0 ∷ []

-- Router 3 has eight end nodes, and its link to the sink, 2, takes eight slots.
unfoldable pub both_broken : Tree
both_broken = tree_of
    (0 ∷ 0 ∷ 1 ∷ 2 ∷ 3 ∷ 3 ∷ 3 ∷ 3 ∷ 3 ∷ 3 ∷ 3 ∷ 3 ∷ [])
    (0 ∷ 0 ∷ 0 ∷ 0 ∷ 1 ∷ 1 ∷ 1 ∷ 1 ∷ 1 ∷ 1 ∷ 1 ∷ 1 ∷ [])
    (0 ∷ 0 ∷ 0 ∷ 0 ∷ 1 ∷ 1 ∷ 1 ∷ 1 ∷ 1 ∷ 1 ∷ 1 ∷ 1 ∷ [])

-- Two downward links, of the root and of router 2; the sink is 3. The root senses with RATE 3 and has end node 4; router 2 senses with RATE 2;
-- end node 5 of the sink has RATE 2.
unfoldable pub two_down : Tree
two_down = tree_of (0 ∷ 0 ∷ 1 ∷ 2 ∷ 1 ∷ 3 ∷ []) (0 ∷ 1 ∷ 1 ∷ 0 ∷ 1 ∷ 1 ∷ []) (0 ∷ 3 ∷ 2 ∷ 0 ∷ 1 ∷ 2 ∷ [])

-- the same routers; the root senses with RATE 3, end node 4 of router 2 with RATE 3, end node 5 of the sink with RATE 1
unfoldable pub full_below : Tree
full_below = tree_of (0 ∷ 0 ∷ 1 ∷ 2 ∷ 2 ∷ 3 ∷ []) (0 ∷ 1 ∷ 0 ∷ 0 ∷ 1 ∷ 1 ∷ []) (0 ∷ 3 ∷ 0 ∷ 0 ∷ 3 ∷ 1 ∷ [])

-- routers 2 and 3 below the root; end node 4 of router 2 senses, end node 5 of router 3 does not
unfoldable pub one_silent : Tree
one_silent = tree_of (0 ∷ 0 ∷ 1 ∷ 1 ∷ 2 ∷ 3 ∷ []) (0 ∷ 0 ∷ 0 ∷ 0 ∷ 1 ∷ 0 ∷ []) (0 ∷ 0 ∷ 0 ∷ 0 ∷ 1 ∷ 0 ∷ [])

pub record RoutersRefused : Type 0 where
  -- 5: eight reservations; links of rate 0 do not count
  pub too_many : outcome_of common (star eight) 1 ≡ Refused (InTree (RouterReservations 1 8))
  pub seven_of_eight : outcome_of common (star eight_one_silent) 1 ≡ Planned (lines common (star eight_one_silent) 1)
  -- seven slots of seven: L is of a router with 7 reservations, not with 11, which would leave 6
  pub seven_of_eleven : outcome_of whole (star eleven_four_silent) 1 ≡ Planned (lines whole (star eleven_four_silent) 1)
  -- a router that breaks both, 8 reservations and 8 slots of 7
  pub five_before_seven : outcome_of whole (star eight) 1 ≡ Refused (InTree (RouterReservations 1 8))
  -- "router by router from the lowest number": 7 of router 2 before 5 of router 3, and 6 before both
  pub lowest_router : outcome_of whole both_broken 2 ≡ Refused (InTree (RouterSlots 2 (slots 8) (slots 7)))
  pub six_before_seven : outcome_of (radio 1 0 17 1 0 0) both_broken 2 ≡ Refused (Superframes 3 2)
  -- A downward link lies in its own node's superframe: 1 and 4 slots in the root's, 6 in router 2's, 2 in the sink's. With 6 more of router 2's
  -- link the root's or the sink's superframe would have too many.
  pub own_slots : map (λ r. (used_at whole two_down 3 r).0) (1 ∷ 2 ∷ 3 ∷ []) ≡ 5 ∷ 6 ∷ 2 ∷ []
  pub own_planned : outcome_of whole two_down 3 ≡ Planned (lines whole two_down 3)
  -- 3 slots of end node 4 and 6 of the downward link are too many in router 2's superframe, where the root's and the sink's have room
  pub own_refused : outcome_of whole full_below 3 ≡ Refused (InTree (RouterSlots 2 (slots 9) (slots 7)))
  -- each router's own L: of the root and router 2 with one reservation each, and of router 3 with none
  pub short_slots : map (λ r. (reservable_at whole one_silent 1 r).0) (1 ∷ 2 ∷ 3 ∷ []) ≡ 7 ∷ 7 ∷ 8 ∷ []
  pub long_slots : map (λ r. (reservable_at (radio 8 3 19 7 0 0) one_silent 1 r).0) (1 ∷ 2 ∷ 3 ∷ []) ≡ 14 ∷ 14 ∷ 15 ∷ []
