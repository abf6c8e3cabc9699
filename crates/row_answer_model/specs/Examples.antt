-- Document 01's examples of refusals 1 to 7 ('Rows of settings'), and which of several answers, computed in one table. Assumes nothing.
use Rattle.std.specs.Prelude.{◌≡◌, List, [], ◌∷◌, ℕ}
use Prim.Native.String.{String}
use Rattle.decimal_model.specs.Ascii.{ascii}
use Rattle.refusals.specs.Refusals.{number_of, place_of}
use Rattle.refusals.specs.Outcome.{Planned, Refused}
use Rattle.row_model.specs.Outcome.{RowOutcome}
use Rattle.row_read_model.specs.declared.Heading.TheVariants.{Twelve, Thirteen}
use Rattle.row_answer_model.specs.Outcomes.{row_outcome, named_outcome}

-- number and place of a refusal; 0 and 0 where the row is planned
unfoldable pub answered : RowOutcome → List ℕ
answered (Planned p) = 0 ∷ 0 ∷ []
answered (Refused r) = number_of r ∷ place_of r ∷ []

unfoldable pub asked : String → List ℕ
asked row = answered (row_outcome Twelve (ascii row))

unfoldable pub asked_lossy : String → List ℕ
asked_lossy row = answered (row_outcome Thirteen (ascii row))

unfoldable pub under : String → String → List ℕ
under names row = answered (named_outcome (ascii names) (ascii row))

abbrev pub of : ℕ → ℕ → List ℕ
of number place = number ∷ place ∷ []

pub record Examples : Type 0 where
  -- the table
  pub one : under "" "8 4 1 2 1 0 0 1 1 19 7 0" ≡ of 1 0
  pub two : asked "08 4 1 2 1 0 0 1 1 19 7 0" ≡ of 2 1
  pub three : asked "8 4 1 2 1 0 0 0 1 19 7 0" ≡ of 3 8
  pub four : asked "4 8 1 2 1 0 0 1 1 19 7 0" ≡ of 4 2
  pub five : asked "8 4 1 4 4 0 0 1 1 19 7 0" ≡ of 5 0
  pub six : asked "5 4 1 2 1 0 0 1 1 19 7 0" ≡ of 6 0
  pub seven : asked "0 0 0 0 5 0 0 1 1 19 7 0" ≡ of 7 0
  pub planned : under "BO SO H NR NE OWN SINK BURST RATE HEAD DATA ACK" "8 4 1 2 1 0 0 1 1 19 7 0" ≡ of 0 0
  pub planned_alone : asked "8 4 1 2 1 0 0 1 1 19 7 0" ≡ of 0 0
  pub two_under_names : under "BO SO H NR NE OWN SINK BURST RATE HEAD DATA ACK" "08 4 1 2 1 0 0 1 1 19 7 0" ≡ of 2 1
  -- each before the next, where a row breaks both
  pub one_before_two : under "BO" "x" ≡ of 1 0
  pub two_before_three : asked "15 4 1 2 1 0 0 1 1 19 7 x" ≡ of 2 12
  pub three_before_four : asked "4 8 1 2 1 0 0 1 1 19 7 2" ≡ of 3 12
  pub four_before_five : asked "4 8 1 4 4 0 0 1 1 19 7 0" ≡ of 4 2
  pub five_before_six : asked "4 4 1 4 4 0 0 1 1 19 7 0" ≡ of 5 0
  pub six_before_seven : asked "4 4 1 2 1 0 0 1 4095 19 7 0" ≡ of 6 0
  pub seven_alone : asked "8 4 1 2 1 0 0 1 4095 19 7 0" ≡ of 7 0
  -- LOSS (document 02, E5): a longer exchange takes more slots
  pub lossless : asked_lossy "0 0 0 0 3 0 0 1 1 19 7 1 0" ≡ of 7 0
  pub one_failure : asked_lossy "0 0 0 0 1 0 0 1 1 19 7 1 1" ≡ of 0 0
  pub two_failures : asked_lossy "0 0 0 0 1 0 0 1 1 19 7 1 2" ≡ of 7 0
  pub loss_before_five : asked_lossy "8 4 1 4 4 0 0 1 1 19 7 0 1" ≡ of 4 13
  pub planned_lossy : under "BO SO H NR NE OWN SINK BURST RATE HEAD DATA ACK LOSS" "8 4 1 2 1 0 0 1 1 19 7 1 7" ≡ of 0 0
  pub loss_under_twelve : under "BO SO H NR NE OWN SINK BURST RATE HEAD DATA ACK" "8 4 1 2 1 0 0 1 1 19 7 1 7" ≡ of 2 13
  -- within 3 the lowest column
  pub outside : asked "8 4 1 2 1 0 0 0 1 19 7 0" ≡ of 3 8
  pub lowest_column : asked "15 15 13 8 8 2 13 256 4096 127 123 2" ≡ of 3 1
  pub loss_outside : asked_lossy "8 4 1 2 1 0 0 1 1 19 7 1 8" ≡ of 3 13
  pub ack_before_loss : asked_lossy "8 4 1 2 1 0 0 1 1 19 7 2 8" ≡ of 3 12
  pub loss_before_four : asked_lossy "4 8 1 2 1 0 0 1 1 19 7 1 8" ≡ of 3 13
  -- values at odds, in the order given
  pub superframe_too_long : asked "4 8 1 2 1 0 0 1 1 19 7 0" ≡ of 4 2
  pub no_children : asked "8 4 1 0 1 0 0 1 1 19 7 0" ≡ of 4 4
  pub no_depth : asked "8 4 0 2 1 0 0 1 1 19 7 0" ≡ of 4 4
  pub no_sensors : asked "8 4 1 2 0 0 0 1 1 19 7 0" ≡ of 4 5
  pub sink_too_deep : asked "8 4 1 2 1 0 2 1 1 19 7 0" ≡ of 4 7
  pub sink_only_child : asked "8 4 1 1 1 0 1 1 1 19 7 0" ≡ of 4 7
  pub frame_too_long : asked "8 4 1 2 1 0 0 1 1 126 2 0" ≡ of 4 11
  pub frame_longest : asked "8 4 1 2 1 0 0 1 1 126 1 0" ≡ of 0 0
  pub first_of_four : asked "4 8 1 0 0 0 2 1 1 126 2 0" ≡ of 4 2
  pub unacknowledged : asked_lossy "8 4 1 2 1 0 0 1 1 19 7 0 1" ≡ of 4 13
  pub loss_last : asked_lossy "8 4 1 2 1 0 0 1 1 126 2 0 1" ≡ of 4 11
