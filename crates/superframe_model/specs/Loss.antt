-- How long an exchange lasts where tries of a frame may fail (document 02, E5): "LOSS, 0 to 7, says how many tries of one frame may fail in
-- a row, the frame or its acknowledgement lost." Assumes nothing: these are definitions and statements; proofs/LossLaws proves them.
use Rattle.std.specs.Prelude.{ℕ, ◌+◌, ◌*◌, ◌≤◌, min, ◌≡◌, Bool, true}
use Rattle.measure.specs.declared.Symbols.{Symbols}
use Rattle.measure.specs.Measures.{symbols}
use Rattle.superframe_model.specs.Exchange.{air_time, spacing, exchange, exchange_for}

-- "A failed try takes 20 symbols more than X, for the acknowledgement wait of 54."
unfoldable pub failed_try : Symbols → Symbols
failed_try x = symbols (x.0 + 20)

-- "An exchange so lasts X + LOSS × (X + 20)"
unfoldable pub with_loss : Symbols → ℕ → Symbols
with_loss x loss = symbols (x.0 + loss * (failed_try x).0)

-- of a frame of m octets: what every slot, latency and run is built on
unfoldable pub lossy_exchange : ℕ → Bool → ℕ → Symbols
lossy_exchange m acknowledged loss = with_loss (exchange m acknowledged) loss

-- what is answered for any count of octets and any LOSS: one above 7 counts as 7
unfoldable pub lossy_exchange_for : ℕ → Bool → ℕ → Symbols
lossy_exchange_for m acknowledged loss = with_loss (exchange_for m acknowledged) (min loss 7)

-- ---- that this is the time of the tries

-- some tries that fail, and the one that does not
unfoldable pub tries : Symbols → ℕ → Symbols
tries x failed = symbols (failed * (failed_try x).0 + x.0)

pub record HoldsTries : Type 0 where
  -- the frame on the air, the acknowledgement that is waited for in vain, and the inter-frame space, which "goes by M alone"
  pub wait : (m : ℕ) → (failed_try (exchange m true)).0 ≡ air_time m + 54 + spacing m
  -- with up to LOSS failures the tries fit the exchange, and with LOSS they fill it
  pub fit : (x : Symbols) (failed loss : ℕ) → failed ≤ loss → (tries x failed).0 ≤ (with_loss x loss).0
  pub filled : (x : Symbols) (loss : ℕ) → tries x loss ≡ with_loss x loss
  -- without loss it is X
  pub without : (m : ℕ) (acknowledged : Bool) → lossy_exchange m acknowledged 0 ≡ exchange m acknowledged
