-- Settings at the edges of numbers 3 and 4, and which condition answers where several are broken, computed. Assumes nothing.
use Rattle.refusals.specs.declared.Refusal.{Refusal}
use Rattle.std.specs.Prelude.{◌≡◌, ℕ, Result, Ok, Err, ⊤}
use Rattle.refusals.specs.declared.Conflict.TheVariants.{Orders, FrameLength, Unacknowledged}
use Rattle.refusals.specs.declared.Refusal.TheVariants.{OutOfRange, AtOdds}
use Rattle.refusals.specs.Conditions.{verdict}
use Rattle.settings_model.specs.Checks.{radio, checks, radio_checks}

-- the answer to the settings of document 01's P1 with other BO, SO, HEAD, DATA, ACK and LOSS
unfoldable pub asked : (bo so head payload ack loss : ℕ) → Result ⊤ Refusal
asked bo so head payload ack loss =
    verdict (checks (record { bo = bo; so = so; h = 1; nr = 2; ne = 1; own = 0; sink = 0; burst = 1; rate = 1; head = head; payload = payload; ack = ack; loss = loss }))

pub record Examples : Type 0 where
  pub first : asked 8 4 19 7 0 0 ≡ Ok tt
  -- the longest payload, and one octet more: the range comes before the frame's length
  pub longest_payload : asked 8 4 5 122 0 0 ≡ Ok tt
  pub payload_over : asked 8 4 5 123 0 0 ≡ Err (OutOfRange 11 123)
  -- number 3 of a later column comes before number 4
  pub three_before_four : asked 4 8 19 7 2 0 ≡ Err (OutOfRange 12 2)
  pub orders : asked 4 8 19 7 0 0 ≡ Err (AtOdds (Orders 8 4))
  -- place 11 comes before place 13
  pub frame_before_loss : asked 8 4 126 2 0 1 ≡ Err (AtOdds (FrameLength 126 2))
  pub unacknowledged : asked 8 4 19 7 0 1 ≡ Err (AtOdds (Unacknowledged 1 0))
  pub most_loss : asked 8 4 19 7 1 7 ≡ Ok tt
  pub loss_over : asked 8 4 19 7 1 8 ≡ Err (OutOfRange 13 8)

-- the same values beside a node list
unfoldable pub asked_beside : (bo so head payload ack loss : ℕ) → Result ⊤ Refusal
asked_beside bo so head payload ack loss =
    verdict (radio_checks (radio bo so head payload ack loss))

pub record ExamplesBeside : Type 0 where
  pub first : asked_beside 8 4 19 7 0 0 ≡ Ok tt
  -- each at its column of a row
  pub order_over : asked_beside 15 4 19 7 0 0 ≡ Err (OutOfRange 1 15)
  pub head_under : asked_beside 8 4 4 7 0 0 ≡ Err (OutOfRange 10 4)
  pub three_before_four : asked_beside 4 8 19 7 0 8 ≡ Err (OutOfRange 13 8)
  pub orders : asked_beside 4 8 126 2 0 1 ≡ Err (AtOdds (Orders 8 4))
  pub frame_before_loss : asked_beside 8 4 126 2 0 1 ≡ Err (AtOdds (FrameLength 126 2))
  pub unacknowledged : asked_beside 8 4 19 7 0 1 ≡ Err (AtOdds (Unacknowledged 1 0))
