-- What reading a list answers, and what its inner functions require of one another. Assumes nothing: these are definitions.
use Rattle.refusals.specs.declared.Refusal.{Refusal}
use Rattle.std.specs.Prelude.{◌≡◌, Bool, true, List, ◌∷◌, ◌++◌, map, ℕ, zero, suc, length, get_or, take, drop, set, Result, IfOk}
use Rattle.lines.specs.Text.{lines}
use Rattle.refusals.specs.declared.Refusal.TheVariants.{InTree}
use Rattle.refusals.specs.declared.TreeRefusal.{TreeRefusal}
use Rattle.refusals.specs.declared.TreeRefusal.TheVariants.{NodeLine}
use Rattle.refusals.specs.Conditions.{verdict, verdict_of}
use Rattle.tree_read_model.specs.Entries.{entry_in, line_right}
use Rattle.tree_read_model.specs.Survey.{node_lines, parent_in, burst_in, rate_in, named, listed}

-- three lists for 254 nodes and entry 0
pub record Space (ps bs rs : List ℕ) : Type 0 where
  pub parents : length ps ≡ 255
  pub bursts : length bs ≡ 255
  pub rates : length rs ≡ 255

-- whose entries 0 are of no node
pub record Front (ps bs rs : List ℕ) : Type 0 where
  pub parents : get_or ps 0 0 ≡ 0
  pub bursts : get_or bs 0 0 ≡ 0
  pub rates : get_or rs 0 0 ≡ 0

-- the values of node k's line stand in entry k, where the line keeps the rules
pub record TakenNode (k : ℕ) (line : List ℕ) (r : Bool) (ps bs rs ps' bs' rs' : List ℕ) : Type 0 where
  pub right : r ≡ line_right k line
  pub parents : r ≡ true → ps' ≡ set ps k (parent_in (entry_in line))
  pub bursts : r ≡ true → bs' ≡ set bs k (burst_in (entry_in line))
  pub rates : r ≡ true → rs' ≡ set rs k (rate_in (entry_in line))

-- the values of these node lines stand in the entries from 1 on
pub record Holding (ls : List (List ℕ)) (ps bs rs : List ℕ) : Type 0 where
  pub parents : take (suc (length ls)) ps ≡ 0 ∷ map (λ l. parent_in (entry_in l)) ls
  pub bursts : take (suc (length ls)) bs ≡ 0 ∷ map (λ l. burst_in (entry_in l)) ls
  pub rates : take (suc (length ls)) rs ≡ 0 ∷ map (λ l. rate_in (entry_in l)) ls

-- all of them, where the list keeps the rules
pub record Whole (ls : List (List ℕ)) (n : ℕ) (ps bs rs : List ℕ) : Type 0 where
  pub count : n ≡ length ls
  pub holding : Holding ls ps bs rs

-- node lines as they were read: how many they are, or the refusal
pub record ReadFrom (ls : List (List ℕ)) (r : Result ℕ Refusal) (ps bs rs : List ℕ) : Type 0 where
  pub verdict : verdict_of r ≡ verdict (listed ls)
  pub whole : IfOk r (λ n. Whole ls n ps bs rs)

-- and a text
pub record ReadText (input : List ℕ) (r : Result ℕ Refusal) (ps bs rs : List ℕ) : Type 0 where
  pub verdict : verdict_of r ≡ verdict (named input ++ listed (node_lines input))
  pub whole : IfOk r (λ n. Whole (node_lines input) n ps bs rs)

-- the lines of a text from a position on
unfoldable pub lines_behind : List ℕ → ℕ → List (List ℕ)
lines_behind input at = lines (drop at input)
