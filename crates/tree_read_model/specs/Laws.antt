-- What holds of node lists, for the layers above. Assumes nothing: these are statements; proofs/LawsHold proves them.
use Rattle.std.specs.Prelude.{◌≡◌, true, List, ℕ}
use Rattle.refusals.specs.Conditions.{Unbroken}
use Rattle.settings_model.specs.declared.Radio.{Radio}
use Rattle.plan_model.specs.declared.NodeLine.{NodeLine}
use Rattle.tree_model.specs.Tree.{is_router}
use Rattle.refusals.specs.Outcome.{Planned}
use Rattle.tree_model.specs.Outcome.{outcome_of}
use Rattle.tree_model.specs.Promise.{Keeps}
use Rattle.tree_model.specs.Laws.{Surveyed}
use Rattle.tree_read_model.specs.Survey.{tree_in, surveyed, outcome_in}

-- a text that number 10 lets pass lists a tree that keeps every rule, and the sink is one of its routers
abbrev pub UnbrokenIsSurveyed : Type 0
UnbrokenIsSurveyed = (input : List ℕ) (sink : ℕ) → Unbroken (surveyed input sink) → Surveyed (tree_in input) sink × (is_router (tree_in input) sink ≡ true)

-- a text that is planned passes number 10, and its tree is planned with the same lines
abbrev pub PlannedText : Type 0
PlannedText = (input : List ℕ) (b : Radio) (sink : ℕ) (p : List NodeLine) → outcome_in input b sink ≡ Planned p
    → Unbroken (surveyed input sink) × (outcome_of b (tree_in input) sink ≡ Planned p)

-- and so keeps its promise
abbrev pub EveryTextKeeps : Type 0
EveryTextKeeps = (input : List ℕ) (b : Radio) (sink : ℕ) (p : List NodeLine) → outcome_in input b sink ≡ Planned p → Keeps b (tree_in input) sink p
