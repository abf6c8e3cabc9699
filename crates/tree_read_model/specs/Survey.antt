-- The tree that a text lists, and number 10 (document 02, E3). Assumes nothing: these are definitions.
use Rattle.tree_read_model.specs.declared.Entry.{Entry}
use Rattle.std.specs.Prelude.{true, not, ◌&&◌, List, [], ◌∷◌, ◌++◌, map, ℕ, suc, get_or, drop, Option, Some, None}
use Rattle.refusals.specs.declared.Refusal.{Refusal}
use Rattle.refusals.specs.declared.Refusal.TheVariants.{InTree}
use Rattle.refusals.specs.declared.TreeRefusal.TheVariants.{NodeNames, NodeLine, SinkNode}
use Rattle.refusals.specs.Conditions.{Condition, condition, first_broken}
use Rattle.lines.specs.Text as text
use Rattle.settings_model.specs.declared.Radio.{Radio}
use Rattle.tree_model.specs.Tree.{Tree, tree_of, is_number, is_router}
use Rattle.tree_model.specs.Lines.{lines}
use Rattle.tree_model.specs.Checks.{conditions}
use Rattle.refusals.specs.Outcome.{Planned, Refused}
use Rattle.tree_model.specs.Outcome.{TreeOutcome}
use Rattle.tree_read_model.specs.Entries.{is_name_line, entry_in, line_right}

-- ---- the tree

-- the lines behind the line of names: node 1's is the first. "A line ends with LF; the last may lack it"
unfoldable pub node_lines : List ℕ → List (List ℕ)
node_lines input = drop 1 (text.lines input)

-- what a line says of its node; 0 where it cannot be read, in a text that number 10 refuses
unfoldable pub parent_in : Option Entry → ℕ
parent_in (Some e) = e.parent
parent_in None = 0

unfoldable pub burst_in : Option Entry → ℕ
burst_in (Some e) = e.burst
burst_in None = 0

unfoldable pub rate_in : Option Entry → ℕ
rate_in (Some e) = e.rate
rate_in None = 0

-- the tree of these node lines
unfoldable pub tree_from : List (List ℕ) → Tree
tree_from ls = tree_of (0 ∷ map (λ l. parent_in (entry_in l)) ls) (0 ∷ map (λ l. burst_in (entry_in l)) ls) (0 ∷ map (λ l. rate_in (entry_in l)) ls)

unfoldable pub tree_in : List ℕ → Tree
tree_in input = tree_from (node_lines input)

-- ---- number 10

-- "names first": the first line, empty where there is none
unfoldable pub named : List ℕ → List (Condition Refusal)
named input = condition (not (is_name_line (get_or (text.lines input) 0 []))) (InTree NodeNames) ∷ []

-- line by line, from line k on
unfoldable pub lines_from : ℕ → List (List ℕ) → List (Condition Refusal)
lines_from k [] = []
lines_from k (l ∷ ls) = condition (not (line_right k l)) (InTree (NodeLine k)) ∷ lines_from (suc k) ls

-- "node 1's is 1, also if missing"
unfoldable pub listed : List (List ℕ) → List (Condition Refusal)
listed [] = condition true (InTree (NodeLine 1)) ∷ []
listed (l ∷ ls) = lines_from 1 (l ∷ ls)

-- "sink last": it must be a router
unfoldable pub sink_right : Tree → ℕ → List (Condition Refusal)
sink_right t sink = condition (not (is_number t sink && is_router t sink)) (InTree SinkNode) ∷ []

unfoldable pub surveyed : List ℕ → ℕ → List (Condition Refusal)
surveyed input sink = named input ++ listed (node_lines input) ++ sink_right (tree_in input) sink

-- ---- the outcome of a text: 10 "before all others", then numbers 3 to 7

unfoldable pub outcome_in : List ℕ → Radio → ℕ → TreeOutcome
outcome_in input b sink = first_broken Refused (Planned (lines b (tree_in input) sink)) (surveyed input sink ++ conditions b (tree_in input) sink)
