-- What the stages from a text to its plan's numbers answer: the verdict on more and more conditions, and what lent tables hold then. Assumes
-- nothing: these are definitions.
use Rattle.std.specs.Prelude.{◌≡◌, List, ◌∷◌, ◌++◌, map, ℕ, suc, ◌≤◌, take, Option, Some, None, IsSomeAnd, Result, Ok, Err, IfOk, ⊤}
use Rattle.refusals.specs.declared.Refusal.{Refusal}
use Rattle.refusals.specs.Conditions.{Condition, verdict}
use Rattle.settings_model.specs.declared.Radio.{Radio}
use Rattle.settings_model.specs.Checks.{radio_checks}
use Rattle.settings_model.specs.Laws.{CheckedRadio}
use Rattle.plan_model.specs.Times.{timing_of}
use Rattle.tree_model.specs.Checks.{routers_fit, conditions}
use Rattle.tree_read_model.specs.Entries.{entry_in}
use Rattle.tree_read_model.specs.Survey.{node_lines, parent_in, burst_in, rate_in, tree_in, surveyed}
use Rattle.tree_plan_model.specs.declared.Stage.{Stage}
use Rattle.tree_plan_model.specs.declared.RefusedTree.{RefusedTree}
use Rattle.tree_plan_model.specs.Children.{Linked}
use Rattle.tree_plan_model.specs.Inner.{Listing, AllRight}
use Rattle.tree_plan_model.specs.Filled.{DepthsSet, WaysSet}

-- ---- conditions

-- 10, then 3, 4 and 6
unfoldable pub conditions_before_slots : List ℕ → Radio → ℕ → List (Condition Refusal)
conditions_before_slots input b sink = surveyed input sink ++ radio_checks b ++ routers_fit b (tree_in input)

-- and 5 and 7: all of them, as the outcome asks
unfoldable pub conditions_in : List ℕ → Radio → ℕ → List (Condition Refusal)
conditions_in input b sink = surveyed input sink ++ conditions b (tree_in input) sink

-- ---- tables

-- what the lines of a text say of their nodes; entry 0 is of no node
abbrev pub parents_in : List ℕ → List ℕ
parents_in input = 0 ∷ map (λ l. parent_in (entry_in l)) (node_lines input)

abbrev pub bursts_in : List ℕ → List ℕ
bursts_in input = 0 ∷ map (λ l. burst_in (entry_in l)) (node_lines input)

abbrev pub rates_in : List ℕ → List ℕ
rates_in input = 0 ∷ map (λ l. rate_in (entry_in l)) (node_lines input)

-- what holds of n nodes, their kin and the notes of the walk, where 10, 3, 4 and 6 are kept
pub record LoadsHeld (input : List ℕ) (b : Radio) (sink n : ℕ) (ks ns : List ℕ) : Type 0 where
  pub listing : Listing (parents_in input) (bursts_in input) (rates_in input)
  pub checked : CheckedRadio b
  pub sink_some : 1 ≤ sink
  pub sink_known : sink ≤ n
  pub nodes : n ≡ (tree_in input).nodes
  pub parents : take (suc n) ks ≡ parents_in input
  pub linked : Linked (parents_in input) ks
  pub right : AllRight (timing_of b) (tree_in input) sink ns

-- A stage's nodes and kin are the list's. By the verdict on these conditions: where they are kept, notes are made, also where 5 or 7
-- refuses the tree; else every number is as it was.
pub record LoadsLeft (input : List ℕ) (b : Radio) (sink : ℕ) (r : Result Stage Refusal) (ns ns' : List ℕ) : Type 0 where
  pub held : IfOk r (λ s. LoadsHeld input b sink s.nodes s.kin ns')
  pub kept : verdict (conditions_before_slots input b sink) ≡ Ok tt → AllRight (timing_of b) (tree_in input) sink ns'
  pub refused : (x : Refusal) → verdict (conditions_before_slots input b sink) ≡ Err x → ns' ≡ ns

-- what a stage behind that one answers, but for the stage of a tree that it refuses
abbrev pub told : Result Stage RefusedTree → Result Stage Refusal
told (Ok s) = Ok s
told (Err r) = Err r.refusal

-- and the stage that it answers, of a tree that is kept or refused
abbrev pub stage_in : Result Stage RefusedTree → Option Stage
stage_in (Ok s) = Some s
stage_in (Err r) = r.stage

-- by the verdict on the same conditions: where they are kept, there is a stage, also where 5 or 7 refuses the tree, and its nodes and kin are
-- the list's; else there is none
pub record StageLeft (input : List ℕ) (b : Radio) (sink : ℕ) (r : Result Stage RefusedTree) (ns' : List ℕ) : Type 0 where
  pub kept : verdict (conditions_before_slots input b sink) ≡ Ok tt → IsSomeAnd (stage_in r) (λ s. LoadsHeld input b sink s.nodes s.kin ns')
  pub refused : (x : Refusal) → verdict (conditions_before_slots input b sink) ≡ Err x → stage_in r ≡ None

-- by the verdict on all: where they are kept, the depths and the ways' delays stand in two tables more; else every number is as it was
pub record WaysLeft (input : List ℕ) (b : Radio) (sink : ℕ) (v : Result ⊤ Refusal) (ns' hs hs' ws ws' : List ℕ) : Type 0 where
  pub depths : v ≡ Ok tt → DepthsSet (parents_in input) hs'
  pub ways : v ≡ Ok tt → WaysSet (timing_of b) (parents_in input) ns' sink ws'
  pub refused : (x : Refusal) → v ≡ Err x → (hs' ≡ hs) × (ws' ≡ ws)
