-- `tree_slots::tally::superframe_of` meets its contract. Assumes nothing.
use Rattle.tree_plan_model.proofs.Noting.{superframe-read}
use Rattle.tree_slots.proofs.tally.superframe_of.Goals as goal

pub returns : goal.returns
returns c = superframe-read _ _ _ _ c.requires.v_bound c.superframe_at.ensures
