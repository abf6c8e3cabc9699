-- The examples of specs/Examples, computed. Assumes nothing.
use mathlib.Core.Path.{refl}
use Rattle.refusals.specs.Conditions.{first_broken}
use Rattle.refusals.specs.Examples.{of_two, Examples}

pub examples-hold : Examples
unfolding first_broken of_two
examples-hold = record { both_broken = refl; first_alone = refl; second_alone = refl; none_broken = refl }
