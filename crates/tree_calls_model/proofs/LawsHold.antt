-- The promise of specs/Laws. Assumes nothing.
use mathlib.Core.Path.{◌≡◌, ap, sym, ◌∙◌, subst}
use mathlib.Core.List.{List, ◌++◌}
use Prim.Native.Nat.{ℕ}
use Rattle.refusals.specs.Outcome.{Planned}
use Rattle.refusals.proofs.Outcomes.{unbroken-planned}
use Rattle.settings_model.specs.declared.Radio.{Radio}
use Rattle.report_model.specs.TreeText.{tree_text}
use Rattle.report_model.proofs.OneTreeText.{one-text-for-trees}
use Rattle.tree_model.specs.Checks.{conditions}
use Rattle.tree_model.specs.Lines.{lines}
use Rattle.tree_read_model.specs.Survey.{tree_in, surveyed, outcome_in}
use Rattle.tree_read_model.proofs.LawsHold.{every-text-keeps}
use Rattle.calls_model.specs.declared.Answer.{Answer}
use Rattle.calls_model.specs.Calls.{Left, left}
use Rattle.calls_model.proofs.LawsHold.{standing}
use Rattle.tree_calls_model.specs.Entries.{plan_tree}
use Rattle.tree_calls_model.specs.Promise.{PromisedTree}
use Rattle.tree_calls_model.specs.Laws.{TreeEntryPromises}

pub tree-entry-promises : TreeEntryPromises
unfolding plan_tree outcome_in
tree-entry-promises nodes b sink before n q w =
    let t = tree_in nodes in
    let cs = surveyed nodes sink ++ conditions b t sink in
    let u = standing tree_text (lines b t sink) cs before one-text-for-trees n q w in
    every-text-keeps nodes b sink q (unbroken-planned (lines b t sink) cs u.0 ∙ ap Planned u.1)

-- the promise of a call, from what it left
pub promised-tree-left : (nodes : List ℕ) (b : Radio) (sink : ℕ) (before : List ℕ) (r : Answer) (after : List ℕ) → left r after ≡ plan_tree nodes b sink before
    → PromisedTree nodes b sink r after
promised-tree-left nodes b sink before r after e = subst (λ (l : Left). PromisedTree nodes b sink l.answer l.buffer) (sym e) (tree-entry-promises nodes b sink before)
