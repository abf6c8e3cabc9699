-- The examples of specs/Examples, computed. Assumes nothing.
use mathlib.Core.Path.{refl}
use Rattle.refusals.proofs.Computing.{tabled}
use Rattle.row_answer_model.specs.Examples as examples
use Rattle.row_answer_model.specs.Examples.{Examples}
use Rattle.row_answer_model.proofs.Computing.{answered}

pub examples-hold : Examples
unfolding answered tabled examples.answered examples.asked examples.asked_lossy examples.under
examples-hold = record {
  one = refl;
  two = refl;
  three = refl;
  four = refl;
  five = refl;
  six = refl;
  seven = refl;
  planned = refl;
  planned_alone = refl;
  two_under_names = refl;
  one_before_two = refl;
  two_before_three = refl;
  three_before_four = refl;
  four_before_five = refl;
  five_before_six = refl;
  six_before_seven = refl;
  seven_alone = refl;
  lossless = refl;
  one_failure = refl;
  two_failures = refl;
  loss_before_five = refl;
  planned_lossy = refl;
  loss_under_twelve = refl;
  outside = refl;
  lowest_column = refl;
  loss_outside = refl;
  ack_before_loss = refl;
  loss_before_four = refl;
  superframe_too_long = refl;
  no_children = refl;
  no_depth = refl;
  no_sensors = refl;
  sink_too_deep = refl;
  sink_only_child = refl;
  frame_too_long = refl;
  frame_longest = refl;
  first_of_four = refl;
  unacknowledged = refl;
  loss_last = refl;
}
