-- `row_calls::plan_row` meets its contract. Assumes nothing.
use mathlib.Core.Path.{◌≡◌, sym, ap, ◌∙◌}
use native.Mathlib.Omega.{arith}
use Rattle.row_read_model.specs.Names.{heading_of}
use Rattle.row_model.specs.Lines.{lines}
use Rattle.row_answer_model.specs.Outcomes.{spelled_settings, row_conditions, row_outcome, named_outcome}
use Rattle.report_model.specs.Text.{text}
use Rattle.calls_model.specs.Calls.{left}
use Rattle.calls_model.specs.Inner.{answer_of}
use Rattle.calls_model.proofs.Fitting.{short-left, whole-left}
use Rattle.row_calls_model.specs.Entries.{plan_row}
use Rattle.row_calls_model.proofs.LawsHold.{promised-left}
use Rattle.row_calls.proofs.plan_row.Goals as goal
use Rattle.row_calls.proofs.plan_row.Goals.{in_default-via-in-Ok+else-out-length, in_default-via-in-Err-1}

-- the text is too long for the buffer
short : (c : goal.After-refused) → left c.refused.result c.plan_named_row.new.out ≡ plan_row c.args.names.now c.args.row.now c.args.out.now
unfolding plan_row named_outcome row_outcome
short c =
    let a = c.args in
    let w = c.plan_named_row in
    short-left text (lines (spelled_settings a.row.now)) (row_conditions (heading_of a.names.now) a.row.now) w.result w.ensures.value a.out.now w.new.out w.ensures.out_after
    c.in-Ok.length c.in-Ok.is (omega (arith, c.if-out-length.true, w.auto.out)) _ c.refused.ensures

pub returns-in-Ok-clause-out_after : goal.returns-in-Ok-clause-out_after
returns-in-Ok-clause-out_after c = short c

pub returns-in-Ok-clause-promised : goal.returns-in-Ok-clause-promised
returns-in-Ok-clause-promised c = promised-left c.args.names.now c.args.row.now c.args.out.now _ _ (short c)

-- it fits, or the row is refused
whole : (c : goal.After-answer_of) → left c.answer_of.result c.plan_named_row.new.out ≡ plan_row c.args.names.now c.args.row.now c.args.out.now
unfolding plan_row named_outcome row_outcome
whole c =
    let a = c.args in
    let p = c.plan_named_row in
    let left-by = whole-left text (lines (spelled_settings a.row.now)) (row_conditions (heading_of a.names.now) a.row.now) p.result p.ensures.value a.out.now p.new.out p.ensures.out_after in
    elim c.in_default-1.branch [
      | in_default-via-in-Ok+else-out-length w ↦
          left-by (λ n q. let same : n ≡ w.in-Ok.length = cc in omega (arith, same, w.if-out-length.false, p.auto.out)) _
          (c.answer_of.ensures ∙ ap answer_of (w.planned-is ∙ sym w.in-Ok.is))
      | in_default-via-in-Err-1 w ↦ left-by (λ n q. absurd (cc)) _ (c.answer_of.ensures ∙ ap answer_of w.planned-is)
    ]

pub returns-in_default-clause-out_after : goal.returns-in_default-clause-out_after
returns-in_default-clause-out_after c = whole c

pub returns-in_default-clause-promised : goal.returns-in_default-clause-promised
returns-in_default-clause-promised c = promised-left c.args.names.now c.args.row.now c.args.out.now _ _ (whole c)
