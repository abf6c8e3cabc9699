-- What holds of what these calls leave: `plan_tree` is `leaves` of a tree's plan and conditions, so that the laws of calls_model hold of it, and
-- besides: Assumes nothing: these are statements; proofs/LawsHold proves them.
use Rattle.std.specs.Prelude.{ℕ, List}
use Rattle.settings_model.specs.declared.Radio.{Radio}
use Rattle.tree_calls_model.specs.Entries.{plan_tree}
use Rattle.tree_calls_model.specs.Promise.{PromisedTree}

-- demand 3: the promise holds of what every call leaves
abbrev pub TreeEntryPromises : Type 0
TreeEntryPromises = (nodes : List ℕ) (b : Radio) (sink : ℕ) (before : List ℕ)
    → PromisedTree nodes b sink (plan_tree nodes b sink before).answer (plan_tree nodes b sink before).buffer
