-- Calls that plan or explain a surveyed tree, with buffers at the edges, computed in one table. Assumes nothing.
use Rattle.std.specs.Prelude.{◌≡◌, List, [], ◌++◌, ℕ}
use Rattle.decimal_model.specs.Ascii.{ascii}
use Rattle.settings_model.specs.Checks.{radio}
use Rattle.calls_model.specs.Calls.{Left, left}
use Rattle.calls_model.specs.Examples.{answer, lent}
use Rattle.tree_calls_model.specs.Entries.{plan_tree, check_tree, explain_tree}
use Rattle.tree_calls_model.specs.Broken.{pair_list}

-- the plan of the list of Broken's pair, a root and an end node, with BO 0, SO 0, HEAD 17, DATA 1 and ACK 0 beside; it has 115 bytes
unfoldable pub tree_plan : List ℕ
tree_plan = ascii "KIND DEPTH RATE BURST SLOTS FRAMES LATENCY BUFFER DELAY ROUTE\nS 0 2 2880 0 0 0 3 0 0\nE 1 2 960 2 2 960 3 1440 1440\n"

-- a call of the entry that writes, with this BO, this sink and that many bytes lent; and of the one that speaks
unfoldable pub tree_call : ℕ → ℕ → ℕ → Left
tree_call bo sink n = plan_tree pair_list (radio bo 0 17 1 0 0) sink (lent n)

unfoldable pub tree_explained : ℕ → ℕ → Left
tree_explained sink n = explain_tree pair_list (radio 0 0 17 1 0 0) sink (lent n)

pub record TreeExamples : Type 0 where
  pub check : check_tree pair_list (radio 0 0 17 1 0 0) 1 ≡ answer 0 0 115
  pub exact : tree_call 0 1 115 ≡ left (answer 0 0 115) tree_plan
  pub one_more : tree_call 0 1 116 ≡ left (answer 0 0 115) (tree_plan ++ lent 1)
  pub one_less : tree_call 0 1 114 ≡ left (answer 8 0 0) (lent 114)
  -- 10 before 3, and both before 8
  pub three : tree_call 15 1 0 ≡ left (answer 3 1 0) []
  pub ten_before_three : tree_call 15 2 0 ≡ left (answer 10 0 0) []
  -- LOSS beside (document 02, E5)
  pub lossy : check_tree pair_list (radio 0 0 5 1 1 1) 1 ≡ answer 0 0 115
  pub loss_outside : plan_tree pair_list (radio 0 0 5 1 1 8) 1 (lent 2) ≡ left (answer 3 13 0) (lent 2)
  pub unacknowledged : plan_tree pair_list (radio 0 0 5 1 0 1) 1 (lent 2) ≡ left (answer 4 13 0) (lent 2)
  -- lines of English
  pub refused_line : tree_explained 2 35 ≡ left (answer 10 0 34) (ascii "The sink is no router of the tree." ++ lent 1)
  pub planned_line : tree_explained 1 20 ≡ left (answer 0 0 20) (ascii "The tree is planned.")
  pub short_line : tree_explained 1 19 ≡ left (answer 8 0 0) (lent 19)
