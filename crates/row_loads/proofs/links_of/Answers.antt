-- `row_loads::links_of` meets its contract. Assumes nothing.
use mathlib.Core.Path.{sym}
use Rattle.row_plan_model.proofs.Answers.{kept-sound}
use Rattle.row_loads.proofs.links_of.Goals as goal

pub sound_links-requires : goal.sound_links-requires
sound_links-requires c = kept-sound c.args.s (sym c.in_ok-check_before_slots.ensures)
