-- `row_loads::loads::sensor_load` meets its contract. Assumes nothing.
use mathlib.Core.Path.{sym}
use Rattle.row_plan_model.proofs.Made.{sensor-made}
use Rattle.row_loads.proofs.loads.sensor_load.Goals as goal

pub returns : goal.returns
returns c = sensor-made c.args.s c.requires.sound _ (rw (sym c.requires.t_value) c.burst_of.ensures)
