-- A row's outcome from its bytes: its plan, or the first refusal of numbers 1 to 7 (document 01, 'Rows of settings'). Assumes nothing:
-- these are definitions.
use Rattle.std.specs.Prelude.{ℕ, List, ◌++◌}
use Rattle.lines.specs.Text.{fields}
use Rattle.refusals.specs.declared.Refusal.{Refusal}
use Rattle.refusals.specs.Conditions.{Condition, first_broken}
use Rattle.settings_model.specs.declared.Settings.{Settings}
use Rattle.row_read_model.specs.declared.Heading.{Heading}
use Rattle.row_read_model.specs.Names.{heading_of, columns_under}
use Rattle.row_read_model.specs.Rows.{headed, columns_read, values_in, settings_of}
use Rattle.row_model.specs.Checks as balanced
use Rattle.row_model.specs.Lines.{lines}
use Rattle.refusals.specs.Outcome.{Planned, Refused}
use Rattle.row_model.specs.Outcome.{RowOutcome}

-- the settings that a row spells
unfoldable pub spelled_settings : List ℕ → Settings
spelled_settings row = settings_of (values_in row)

-- numbers 1 to 7 of a row under a line of names, without its LF, in their order
unfoldable pub row_conditions : Heading → List ℕ → List (Condition Refusal)
row_conditions heading row = headed heading ++ (columns_read 1 (columns_under heading) (fields row) ++ balanced.conditions (spelled_settings row))

-- "Checked in the order of this table, the first failure answering"
unfoldable pub row_outcome : Heading → List ℕ → RowOutcome
row_outcome heading row = first_broken Refused (Planned (lines (spelled_settings row))) (row_conditions heading row)

-- both as bytes, without their LF
unfoldable pub named_outcome : List ℕ → List ℕ → RowOutcome
named_outcome names row = row_outcome (heading_of names) row
