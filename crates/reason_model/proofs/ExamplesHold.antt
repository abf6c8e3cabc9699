-- The examples of specs/Examples, computed. Assumes nothing.
use mathlib.Core.Path.{refl}
use Rattle.reason_model.specs.Examples as examples
use Rattle.reason_model.specs.Examples.{ExamplesHold, OthersHold, ConflictsNamed}
use Rattle.reason_model.proofs.Computing.{worded, taken_in}

pub examples-hold : ExamplesHold
unfolding worded taken_in examples.examples
examples-hold = record { lines = refl; readings = refl }

pub others-hold : OthersHold
unfolding taken_in examples.others
others-hold = refl

pub conflicts-named : ConflictsNamed
unfolding taken_in examples.begins_named
conflicts-named = refl
