-- A row's outcome: its plan, or the first refusal (document 01, 'Rows of settings' and 'The printed plan'). Assumes nothing: these are
-- definitions.
use Rattle.std.specs.Prelude.{List}
use Rattle.refusals.specs.Conditions.{first_broken}
use Rattle.refusals.specs.Outcome.{Outcome, Planned, Refused}
use Rattle.settings_model.specs.declared.Settings.{Settings}
use Rattle.plan_model.specs.declared.Line.{Line}
use Rattle.row_model.specs.Checks.{conditions}
use Rattle.row_model.specs.Lines.{lines}

abbrev pub RowOutcome : Type 0
RowOutcome = Outcome (List Line)

-- "Checked in the order of this table, the first failure answering"; for any settings, also such as nobody has checked
unfoldable pub outcome_of : Settings → RowOutcome
outcome_of s = first_broken Refused (Planned (lines s)) (conditions s)
