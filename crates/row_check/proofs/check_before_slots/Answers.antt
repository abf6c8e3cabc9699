-- `row_check::check_before_slots` meets its contract. Assumes nothing.
use mathlib.Core.Path.{sym}
use Rattle.row_plan_model.proofs.Answers.{kept-checked}
use Rattle.row_check.proofs.check_before_slots.Goals as goal

pub reservations_fit-requires : goal.reservations_fit-requires
reservations_fit-requires c = kept-checked c.args.s (sym c.in_ok-check.ensures)

pub routers_fit-requires : goal.routers_fit-requires
routers_fit-requires c = kept-checked c.args.s (sym c.in_ok-check.ensures)
