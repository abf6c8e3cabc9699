-- The promise of specs/Laws. Assumes nothing.
use mathlib.Core.Path.{◌≡◌, ap, sym, ◌∙◌, subst}
use mathlib.Core.List.{List, ◌++◌}
use Prim.Native.Nat.{ℕ}
use Rattle.lines.specs.Text.{fields}
use Rattle.refusals.specs.Outcome.{Planned}
use Rattle.refusals.proofs.Unbroken.{unbroken-right}
use Rattle.refusals.proofs.Outcomes.{unbroken-planned}
use Rattle.report_model.specs.Text.{text}
use Rattle.report_model.proofs.OneText.{one-text-for-lines}
use Rattle.row_read_model.specs.Names.{heading_of, columns_under}
use Rattle.row_read_model.specs.Rows.{headed, columns_read}
use Rattle.row_model.specs.Checks.{conditions}
use Rattle.row_model.specs.Lines.{lines}
use Rattle.row_model.specs.Outcome.{outcome_of}
use Rattle.row_model.proofs.LawsHold.{every-plan-keeps}
use Rattle.row_answer_model.specs.Outcomes.{spelled_settings, row_conditions}
use Rattle.calls_model.specs.declared.Answer.{Answer}
use Rattle.calls_model.specs.Calls.{Left, left}
use Rattle.calls_model.proofs.LawsHold.{standing}
use Rattle.row_calls_model.specs.Entries.{plan_row}
use Rattle.row_calls_model.specs.Promise.{Promised}
use Rattle.row_calls_model.specs.Laws.{EntryPromises}

pub entry-promises : EntryPromises
unfolding plan_row row_conditions outcome_of
entry-promises names row before n q w =
    let s = spelled_settings row in
    let h = heading_of names in
    let of-text = columns_read 1 (columns_under h) (fields row) in
    let u = standing text (lines s) (row_conditions h row) before one-text-for-lines n q w in
    let c = unbroken-right of-text (conditions s) (unbroken-right (headed h) (of-text ++ conditions s) u.0) in
    every-plan-keeps s q (unbroken-planned (lines s) (conditions s) c ∙ ap Planned u.1)

-- the promise of a call, from what it left
pub promised-left : (names row before : List ℕ) (r : Answer) (after : List ℕ) → left r after ≡ plan_row names row before → Promised row r after
promised-left names row before r after e = subst (λ (l : Left). Promised row l.answer l.buffer) (sym e) (entry-promises names row before)
