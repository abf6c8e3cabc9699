-- The examples of specs/Examples, computed. Assumes nothing.
use mathlib.Core.Path.{refl}
use Rattle.decimal_model.specs.Ascii.{ascii}
use Rattle.decimal_model.specs.Number.{digits}
use Rattle.lines.specs.Text.{same}
use Rattle.program_model.specs.Arguments.{dashed, word_of, by_file, by_value_or_file, by_count, by_only, asked}
use Rattle.program_model.specs.Examples.{examples, last_of, ours, ExamplesHold}

pub examples-hold : ExamplesHold
unfolding ascii digits same dashed word_of by_file by_value_or_file by_count by_only asked examples last_of ours ExamplesHold
examples-hold = refl
