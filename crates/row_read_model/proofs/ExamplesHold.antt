-- The examples of specs/Examples, computed. Assumes nothing.
use mathlib.Core.Path.{refl}
use Rattle.decimal_model.specs.Ascii.{ascii}
use Rattle.decimal_model.specs.Number.{digits, zero_led, shaped, readable, spelled_after}
use Rattle.lines.specs.Text.{same, before, pieces, fields, joined}
use Rattle.refusals.proofs.Computing.{tabled}
use Rattle.refusals.specs.Conditions.{first_broken}
use Rattle.settings_model.specs.Columns.{twelve, every_column}
use Rattle.row_read_model.specs.Names.{name_line, heading_of, is_other, columns_under}
use Rattle.row_read_model.specs.Rows.{headed, columns_read, values_in, settings_of, conditions, row_under, named_row}
use Rattle.row_read_model.specs.Examples.{answered, under, asked, asked_lossy, behind, behind_loss, Examples}

pub examples-hold : Examples
unfolding ascii digits zero_led shaped readable spelled_after before pieces fields joined name_line same heading_of is_other columns_under tabled first_broken twelve every_column headed columns_read values_in settings_of conditions row_under named_row answered under asked asked_lossy behind behind_loss
examples-hold = record {
  names = refl;
  lossy_names = refl;
  twelve_names = refl;
  thirteen_names = refl;
  empty_input = refl;
  other_names = refl;
  space_after_names = refl;
  right_names = refl;
  thirteen_with_space = refl;
  other_thirteenth = refl;
  right_thirteen = refl;
  thirteen_under_twelve = refl;
  twelve_under_thirteen = refl;
  first = refl;
  largest = refl;
  first_lossy = refl;
  largest_lossy = refl;
  leading_zero = refl;
  nothing = refl;
  leading_space = refl;
  two_spaces = refl;
  five_digits = refl;
  three_values = refl;
  three_and_space = refl;
  eleven_values = refl;
  letter_behind = refl;
  return_behind = refl;
  tab_behind = refl;
  feed_behind = refl;
  space_behind = refl;
  value_behind = refl;
  twelve_of_thirteen = refl;
  twelve_and_space = refl;
  loss_leading_zero = refl;
  letter_behind_loss = refl;
  nothing_behind_loss = refl;
  space_behind_loss = refl;
  value_behind_loss = refl;
}
