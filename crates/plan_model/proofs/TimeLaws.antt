-- The times of checked settings, in their bounds. Assumes nothing.
use Prim.Native.Nat.{◌+◌, ◌≤◌, ◌<◌}
use native.Mathlib.Omega.{arith}
use lib.Dec.{eqb}
use Rattle.superframe_model.proofs.OrderLaws.{interval-some, interval-most, slot-some, slot-most}
use Rattle.superframe_model.proofs.LossLaws.{lossy-some, lossy-most}
use Rattle.links.specs.Answers.{Timed}
use Rattle.settings_model.specs.declared.Radio.{Radio}
use Rattle.settings_model.specs.Laws.{CheckedRadio}
use Rattle.plan_model.specs.Times.{timing_of}

-- checked times are in their bounds
pub timed : (b : Radio) → CheckedRadio b → Timed (timing_of b)
unfolding timing_of
timed b h = record {
  interval = omega (arith, interval-most b.bo h.bo);
  slot_some = omega (arith, slot-some b.so);
  slot = omega (arith, slot-most b.so h.so);
  exchange_some = lossy-some _ _ _;
  exchange = omega (arith, lossy-most (b.head + b.payload) (eqb b.ack 1) b.loss h.frame h.loss);
}

-- BI ≤ 15,728,640, and an exchange lasts at most 2,860
pub interval-low : (b : Radio) → CheckedRadio b → (timing_of b).interval.0 ≤ 15728640
unfolding timing_of
interval-low b h = interval-most b.bo h.bo

pub exchange-low : (b : Radio) → CheckedRadio b → (timing_of b).exchange.0 ≤ 2860
unfolding timing_of
exchange-low b h = lossy-most (b.head + b.payload) _ _ h.frame h.loss

-- an interval lasts at least a symbol
pub interval-positive : (b : Radio) → 0 < (timing_of b).interval.0
unfolding timing_of
interval-positive b = omega (arith, interval-some b.bo)
