-- The times that are set on every radio (document 01, 'Time on the air'), in a row or beside a node list. Assumes nothing: these are
-- definitions.
use Rattle.std.specs.Prelude.{ℕ, ◌+◌, ◌-◌, ◌^◌, min, eqb}
use Rattle.measure.specs.Measures.{up_to_64}
use Rattle.superframe_model.specs.Orders.{beacon_interval, slot}
use Rattle.superframe_model.specs.Loss.{lossy_exchange, lossy_exchange_for}
use Rattle.links.specs.declared.Timing.{Timing}
use Rattle.settings_model.specs.declared.Radio.{Radio}

-- BI of BO, S of SO, and the exchange of M = HEAD + DATA octets, acknowledged where ACK is 1, of which LOSS tries may fail: X + LOSS × (X + 20).
-- Document 01's X is this one wherever a row or a tree is planned or run: "all that was built on X follows" (document 02, E5)
unfoldable pub timing_of : Radio → Timing
timing_of b = record {
  interval = beacon_interval b.bo;
  slot = slot b.so;
  exchange = lossy_exchange (b.head + b.payload) (eqb b.ack 1) b.loss;
}

-- the superframes that fit a beacon interval: 2^(BO − SO)
unfoldable pub superframes : Radio → ℕ
superframes b = 2 ^ (b.bo - b.so)

-- The times as they are answered where nobody has checked the settings: an order above 14 counts as 14, a LOSS above 7 as 7, and octets outside
-- their range as the longest frame. Of checked settings they are those above (proofs/TimesMade: `timing-fits`).
unfoldable pub timing_answered : Radio → Timing
timing_answered b = record {
  interval = beacon_interval (min b.bo 14);
  slot = slot (min b.so 14);
  exchange = lossy_exchange_for (up_to_64 (b.head + b.payload)) (eqb b.ack 1) b.loss;
}
