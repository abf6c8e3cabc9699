-- `row_loads::row_timing` meets its contract. Assumes nothing.
use mathlib.Core.Path.{◌∙◌}
use Rattle.settings_model.specs.Checks.{radio_of}
use Rattle.plan_model.proofs.TimesMade.{timing-fits}
use Rattle.row_loads.proofs.row_timing.Goals as goal

pub returns : goal.returns
returns c = c.timing_of.ensures ∙ rw c.radio_of.ensures (timing-fits (radio_of c.args.s) c.requires.checked.radio)
