-- What holds of what these calls leave: `plan_row` is `leaves` of a row's plan and conditions, so that the laws of calls_model hold of it, and
-- besides: Assumes nothing: these are statements; proofs/LawsHold and WithoutLoss prove them.
use Rattle.std.specs.Prelude.{ℕ, ◌≡◌, List, length}
use Rattle.lines.specs.Text.{fields}
use Rattle.settings_model.specs.Columns.{twelve, every_column}
use Rattle.row_read_model.specs.Names.{name_line}
use Rattle.row_read_model.specs.Laws.{with_zero}
use Rattle.row_calls_model.specs.Entries.{plan_row, check_row, explain_row}
use Rattle.row_calls_model.specs.Promise.{Promised}

-- demand 3: the promise holds of what every call leaves
abbrev pub EntryPromises : Type 0
EntryPromises = (names row before : List ℕ) → Promised row (plan_row names row before).answer (plan_row names row before).buffer

-- E5: "A name line of 12 names still stands for LOSS 0." Twelve values under 12 names, and the same row with LOSS 0 under 13 names: every call
-- answers and leaves the same
pub record SameWithoutLoss : Type 0 where
  pub plans : (row before : List ℕ) → length (fields row) ≡ 12 → plan_row (name_line every_column) (with_zero row) before ≡ plan_row (name_line twelve) row before
  pub checks : (row : List ℕ) → length (fields row) ≡ 12 → check_row (name_line every_column) (with_zero row) ≡ check_row (name_line twelve) row
  pub explains : (row before : List ℕ) → length (fields row) ≡ 12 → explain_row (name_line every_column) (with_zero row) before ≡ explain_row (name_line twelve) row before
