-- The examples of specs/Examples, computed. Assumes nothing.
use mathlib.Core.Path.{refl}
use Rattle.decimal_model.specs.Ascii.{ascii}
use Rattle.decimal_model.specs.Number.{digits, zero_led, shaped, readable, spelled_after, number_in}
use Rattle.decimal_model.specs.Decimal.{digits_by, decimal}
use Rattle.decimal_model.specs.Examples.{Examples}

pub examples-hold : Examples
unfolding ascii digits zero_led shaped readable spelled_after number_in digits_by decimal
examples-hold = record {
  zero = refl;
  nine = refl;
  ten = refl;
  rate = refl;
  largest = refl;
  five_digits = refl;
  empty = refl;
  leading_zero = refl;
  two_zeros = refl;
  letter = refl;
  sign = refl;
  space = refl;
  slash = refl;
  colon = refl;
  last = refl;
  written_zero = refl;
  written_nine = refl;
  written_ten = refl;
  written_six = refl;
  written_largest = refl;
}
