-- The examples of specs/Examples, computed. Assumes nothing.
use mathlib.Core.Path.{refl}
use Rattle.settings_model.specs.Examples.{asked, Examples, asked_beside, ExamplesBeside}
use Rattle.settings_model.proofs.Computing.{checking}

pub examples-hold : Examples
unfolding checking asked
examples-hold = record {
  first = refl;
  longest_payload = refl;
  payload_over = refl;
  three_before_four = refl;
  orders = refl;
  frame_before_loss = refl;
  unacknowledged = refl;
  most_loss = refl;
  loss_over = refl;
}

pub examples-beside-hold : ExamplesBeside
unfolding checking asked_beside
examples-beside-hold = record {
  first = refl;
  order_over = refl;
  head_under = refl;
  three_before_four = refl;
  orders = refl;
  frame_before_loss = refl;
  unacknowledged = refl;
}
