-- `tree_calls::plan_tree` meets its contract. Assumes nothing.
use mathlib.Core.Path.{◌≡◌, sym, ap, ◌∙◌}
use mathlib.Core.List.{◌++◌}
use native.Mathlib.Omega.{arith}
use Rattle.settings_model.specs.Checks.{radio}
use Rattle.tree_model.specs.Lines.{lines}
use Rattle.tree_model.specs.Checks.{conditions}
use Rattle.tree_read_model.specs.Survey.{tree_in, surveyed, outcome_in}
use Rattle.report_model.specs.TreeText.{tree_text}
use Rattle.calls_model.specs.Calls.{left}
use Rattle.calls_model.specs.Inner.{answer_of}
use Rattle.calls_model.proofs.Fitting.{short-left, whole-left}
use Rattle.tree_calls_model.specs.Entries.{plan_tree}
use Rattle.tree_calls_model.proofs.LawsHold.{promised-tree-left}
use Rattle.tree_calls.proofs.plan_tree.Goals as goal
use Rattle.tree_calls.proofs.plan_tree.Goals.{in_default-via-in-Ok+else-out-length, in_default-via-in-Err-1}

-- the text is too long for the buffer
short : (c : goal.After-refused)
    → left c.refused.result c.plan_within.new.out ≡ plan_tree c.args.nodes.now (radio c.args.bo c.args.so c.args.head c.args.payload c.args.ack c.args.loss) c.args.sink c.args.out.now
unfolding plan_tree outcome_in
short c =
    let a = c.args in
    let b = radio a.bo a.so a.head a.payload a.ack a.loss in
    let p = c.plan_within in
    let v = rw (c.radio_from-b.ensures, c.from.ensures) at p.ensures.value in
    let o = rw (c.radio_from-b.ensures, c.from.ensures) at p.ensures.out_after in
    short-left tree_text (lines b (tree_in a.nodes.now) a.sink) (surveyed a.nodes.now a.sink ++ conditions b (tree_in a.nodes.now) a.sink) p.result v a.out.now p.new.out o
    c.in-Ok.length c.in-Ok.is (omega (arith, c.if-out-length.true, p.auto.out)) _ c.refused.ensures

pub returns-in-Ok-clause-out_after : goal.returns-in-Ok-clause-out_after
returns-in-Ok-clause-out_after c = short c

pub returns-in-Ok-clause-promised_tree : goal.returns-in-Ok-clause-promised_tree
returns-in-Ok-clause-promised_tree c =
    let a = c.args in
    promised-tree-left a.nodes.now (radio a.bo a.so a.head a.payload a.ack a.loss) a.sink a.out.now _ _ (short c)

-- it fits, or the tree is refused
whole : (c : goal.After-answer_of)
    → left c.answer_of.result c.plan_within.new.out ≡ plan_tree c.args.nodes.now (radio c.args.bo c.args.so c.args.head c.args.payload c.args.ack c.args.loss) c.args.sink c.args.out.now
unfolding plan_tree outcome_in
whole c =
    let a = c.args in
    let b = radio a.bo a.so a.head a.payload a.ack a.loss in
    let p = c.plan_within in
    let v = rw (c.radio_from-b.ensures, c.from.ensures) at p.ensures.value in
    let o = rw (c.radio_from-b.ensures, c.from.ensures) at p.ensures.out_after in
    let left-by = whole-left tree_text (lines b (tree_in a.nodes.now) a.sink) (surveyed a.nodes.now a.sink ++ conditions b (tree_in a.nodes.now) a.sink) p.result v a.out.now p.new.out o in
    elim c.in_default-1.branch [
      | in_default-via-in-Ok+else-out-length w ↦
          left-by (λ n q. let same : n ≡ w.in-Ok.length = cc in omega (arith, same, w.if-out-length.false, p.auto.out)) _
          (c.answer_of.ensures ∙ ap answer_of (w.planned-is ∙ sym w.in-Ok.is))
      | in_default-via-in-Err-1 w ↦ left-by (λ n q. absurd (cc)) _ (c.answer_of.ensures ∙ ap answer_of w.planned-is)
    ]

pub returns-in_default-clause-out_after : goal.returns-in_default-clause-out_after
returns-in_default-clause-out_after c = whole c

pub returns-in_default-clause-promised_tree : goal.returns-in_default-clause-promised_tree
returns-in_default-clause-promised_tree c =
    let a = c.args in
    promised-tree-left a.nodes.now (radio a.bo a.so a.head a.payload a.ack a.loss) a.sink a.out.now _ _ (whole c)
