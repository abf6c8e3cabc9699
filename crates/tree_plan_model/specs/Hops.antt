-- Beside a plan's table, three numbers a node: where its frames go next, and in whose superframe. Assumes nothing: these are definitions.
use Rattle.std.specs.Prelude.{cond, List, [], ◌∷◌, ℕ, suc, eqb, length, get_or}
use Rattle.network.specs.Counting.{join}
use Rattle.plan_model.specs.declared.NodeLine.{NodeLine}
use Rattle.tree_model.specs.Tree.{Tree}
use Rattle.tree_model.specs.Ways.{next, superframe_of}
use Rattle.tree_plan_model.specs.Inner.{towards_in}
use Rattle.tree_plan_model.specs.Tables.{superframe_in}

-- node v's parent, its neighbour towards the sink, and the router in whose superframe its link lies; the sink has no link: 0 and 0
unfoldable pub hop_of : Tree → ℕ → ℕ → List ℕ
hop_of t sink v = t.parent v ∷ next t sink v ∷ cond (eqb v sink) 0 (superframe_of t sink v) ∷ []

-- those of a plan's nodes, one node behind another
unfoldable pub hops_of : Tree → ℕ → List NodeLine → List ℕ
hops_of t sink p = join (length p) (λ i. hop_of t sink (suc i))

-- the same of parents and notes, and of n nodes
unfoldable pub hop_by : List ℕ → List ℕ → ℕ → ℕ → List ℕ
hop_by ps ns sink v = get_or ps v 0 ∷ towards_in ns v ∷ cond (eqb v sink) 0 (superframe_in ps ns v) ∷ []

unfoldable pub hops_by : List ℕ → List ℕ → ℕ → ℕ → List ℕ
hops_by ps ns sink n = join n (λ i. hop_by ps ns sink (suc i))
