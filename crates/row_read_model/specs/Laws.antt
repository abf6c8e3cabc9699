-- What holds of rows, for the layers above. Assumes nothing: these are statements; proofs/LawsHold and WithoutLoss prove them.
use Rattle.std.specs.Prelude.{◌≡◌, ◌↔◌, List, ◌++◌, ℕ, length, Ok}
use Rattle.decimal_model.specs.Ascii.{ascii}
use Rattle.lines.specs.Text.{fields}
use Rattle.refusals.specs.Conditions.{Unbroken}
use Rattle.settings_model.specs.declared.Settings.{Settings}
use Rattle.row_read_model.specs.declared.Heading.{Heading}
use Rattle.row_read_model.specs.declared.Heading.TheVariants.{Twelve, Thirteen}
use Rattle.row_read_model.specs.Rows.{values_in, settings_of, conditions, row_under}

-- a row is read exactly where none of its conditions is broken, and then as what it spells
abbrev pub ReadWhereUnbroken : Type 0
ReadWhereUnbroken =
    (heading : Heading) (row : List ℕ) (s : Settings)
    → (row_under heading row ≡ Ok s) ↔ (Unbroken (conditions heading row) × (settings_of (values_in row) ≡ s))

-- two different rows under the same names never give the same settings
abbrev pub OneRowForSettings : Type 0
OneRowForSettings = (heading : Heading) (a b : List ℕ) (s : Settings) → row_under heading a ≡ Ok s → row_under heading b ≡ Ok s → a ≡ b

-- the same row with LOSS 0
unfoldable pub with_zero : List ℕ → List ℕ
with_zero row = row ++ ascii " 0"

-- E5: "A name line of 12 names still stands for LOSS 0." Twelve values, readable or not, under 12 names, and the same row with LOSS 0 under 13
-- names: the same settings, or the same refusal
abbrev pub SameWithoutLoss : Type 0
SameWithoutLoss = (row : List ℕ) → length (fields row) ≡ 12 → row_under Thirteen (with_zero row) ≡ row_under Twelve row
