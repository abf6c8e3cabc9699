-- A surveyed tree's outcome: its plan, or the first refusal of numbers 3 to 7. Assumes nothing: these are definitions.
use Rattle.std.specs.Prelude.{ℕ, List}
use Rattle.refusals.specs.Conditions.{first_broken}
use Rattle.refusals.specs.Outcome.{Outcome, Planned, Refused}
use Rattle.settings_model.specs.declared.Radio.{Radio}
use Rattle.plan_model.specs.declared.NodeLine.{NodeLine}
use Rattle.tree_model.specs.Tree.{Tree}
use Rattle.tree_model.specs.Checks.{conditions}
use Rattle.tree_model.specs.Lines.{lines}

abbrev pub TreeOutcome : Type 0
TreeOutcome = Outcome (List NodeLine)

unfoldable pub outcome_of : Radio → Tree → ℕ → TreeOutcome
outcome_of b t sink = first_broken Refused (Planned (lines b t sink)) (conditions b t sink)
