-- To unfold `worded` is to unfold all that a line is computed with, and `taken_in` all that number and place of a line are. Assumes nothing.
use Rattle.decimal_model.specs.Ascii.{ascii}
use Rattle.decimal_model.specs.Number.{digits, zero_led, spelled_after}
use Rattle.decimal_model.specs.Decimal.{digits_by, decimal}
use Rattle.lines.specs.Text.{same}
use Rattle.refusals.proofs.Computing.{tabled}
use Rattle.settings_model.specs.Columns.{twelve, every_column, column_at}
use Rattle.reason_model.specs.Reasons.{named, column_name, phrase_at, part_of, part_text, taken, filled, reason, verdict_line}
use Rattle.reason_model.specs.Reading.{word_byte, word_length, numeral, place_in, column_from, unnamed, column_in, extent, meant, matched, read_as, read_from, read_reason}

unfoldable pub worded : Type 0
unfolding ascii digits_by decimal tabled twelve every_column column_at named column_name phrase_at part_of part_text taken filled reason verdict_line
worded = Unit

unfoldable pub taken_in : Type 0
unfolding worded digits zero_led spelled_after same word_byte word_length numeral place_in column_from unnamed column_in extent meant matched read_as read_from read_reason
taken_in = Unit
