-- `row_loads::loads::near_load` meets its contract. Assumes nothing.
use Rattle.row_plan_model.specs.Inner.{link_of}
use Rattle.row_plan_model.proofs.Made.{near-made}
use Rattle.row_loads.proofs.loads.near_load.Goals as goal

pub returns : goal.returns
unfolding link_of
returns c = near-made c.args.s c.requires.sound _ _ _ _ _ _ c.requires.made_value c.requires.end_value c.times.ensures c.after.ensures c.times-2.ensures c.plus.ensures
