-- To unfold `checking` is to unfold all that the conditions of numbers 3 and 4 are computed with. Assumes nothing.
use Rattle.refusals.specs.Conditions.{first_broken}
use Rattle.settings_model.specs.Columns.{twelve, every_column, column_at}
use Rattle.settings_model.specs.Checks.{ranged, values_of, radio_ranged, orders_at_odds, shape_at_odds, frame_at_odds, at_odds, radio_at_odds, checks, radio_checks}

unfoldable pub checking : Type 0
unfolding first_broken twelve every_column column_at ranged values_of radio_ranged orders_at_odds shape_at_odds frame_at_odds at_odds radio_at_odds checks radio_checks
checking = Unit
