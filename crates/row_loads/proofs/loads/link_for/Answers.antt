-- `row_loads::loads::link_for` meets its contract. Assumes nothing.
use mathlib.Core.Path.{refl, ◌∙◌}
use Rattle.links.proofs.Making.{reservation-fits}
use Rattle.row_plan_model.specs.Inner.{link_of}
use Rattle.row_loads.proofs.loads.link_for.Goals as goal

pub returns : goal.returns
unfolding link_of
returns c = λ timed low. rw (c.reservation_for-reservation.ensures ∙ reservation-fits c.args.t c.args.load.rate timed low) refl
