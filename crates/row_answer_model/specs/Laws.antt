-- What holds of outcomes, for the layers above. Assumes nothing: these are statements; proofs/WithoutLoss proves them.
use Rattle.std.specs.Prelude.{◌≡◌, List, ℕ, length}
use Rattle.lines.specs.Text.{fields}
use Rattle.settings_model.specs.Columns.{twelve, every_column}
use Rattle.row_read_model.specs.declared.Heading.TheVariants.{Twelve, Thirteen}
use Rattle.row_read_model.specs.Names.{name_line}
use Rattle.row_read_model.specs.Laws.{with_zero}
use Rattle.row_answer_model.specs.Outcomes.{row_outcome, named_outcome}

-- E5: "A name line of 12 names still stands for LOSS 0." Twelve values under 12 names, and the same row with LOSS 0 under 13 names: the same plan,
-- or the same refusal with the same values
pub record SameWithoutLoss : Type 0 where
  pub rows : (row : List ℕ) → length (fields row) ≡ 12 → row_outcome Thirteen (with_zero row) ≡ row_outcome Twelve row
  pub named : (row : List ℕ) → length (fields row) ≡ 12 → named_outcome (name_line every_column) (with_zero row) ≡ named_outcome (name_line twelve) row
