-- To unfold `plans` is to unfold all that a plan is computed with. Assumes nothing.
use Rattle.network.specs.Counting.{total, join}
use Rattle.plan_model.proofs.Computing.{links}
use Rattle.row_model.specs.Times.{routers_below, reservations_at, reservable_at}
use Rattle.row_model.specs.Loads.{sensor, left, near, above, upward, downward, sink_at, at_sink}
use Rattle.row_model.specs.Checks.{reservations, routers, routers_fit, slots_needed, used_below, used_off_path, used_on_path, has_off_path, has_on_path, off_path_at, on_path_at, used_at, used_from, conditions}
use Rattle.row_model.specs.Lines.{link_for, end_link, up_link, down_link, total_delay, sink_figures, end_lines, up_lines, down_lines, lines, figures_at}
use Rattle.row_model.specs.Outcome.{outcome_of}

unfoldable pub plans : Type 0
unfolding links total join routers_below reservations_at reservable_at sensor left near above upward downward sink_at at_sink reservations routers routers_fit slots_needed used_below used_off_path used_on_path has_off_path has_on_path off_path_at on_path_at used_at used_from conditions link_for end_link up_link down_link total_delay sink_figures end_lines up_lines down_lines lines outcome_of figures_at
plans = Unit
