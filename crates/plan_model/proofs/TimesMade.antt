-- The times of checked settings, as superframe's functions answer them. Assumes nothing.
use mathlib.Core.Path.{◌≡◌, ◌∙◌}
use Prim.Native.Nat.{ℕ, ◌+◌, ◌*◌, ◌%◌, ◌^◌, ◌≤◌, min}
use native.Mathlib.Omega.{arith}
use lib.Dec.{eqb}
use Rattle.superframe_model.proofs.LossLaws.{lossy-for-octets}
use Rattle.settings_model.specs.declared.Radio.{Radio}
use Rattle.settings_model.specs.Laws.{CheckedRadio}
use Rattle.measure.specs.Measures.{up_to_64}
use Rattle.measure.proofs.Limits.{up_to_fits}
use Rattle.superframe_model.proofs.OrderLaws.{shifted}
use Rattle.plan_model.specs.Times.{timing_of, timing_answered}

-- an order in its range is taken as it is
pub order_is : (o : ℕ) → o ≤ 14 → min o 14 ≡ o
order_is o h = omega arith

-- times as they are answered of checked settings
pub timing-fits : (b : Radio) → CheckedRadio b → timing_answered b ≡ timing_of b
unfolding timing_answered timing_of
timing-fits b h =
    let o : up_to_64 (b.head + b.payload) ≡ b.head + b.payload = up_to_fits (omega (arith, h.frame)) in
    rw (o, order_is b.bo h.bo, order_is b.so h.so, lossy-for-octets (b.head + b.payload) (eqb b.ack 1) b.loss (omega (arith, h.head.0, h.payload.0)) h.frame h.loss)

-- the superframes of an interval, by a shift
pub one_shifted : (k : ℕ) → k ≤ 14 → 1 * 2 ^ k % 2 ^ 64 ≡ 2 ^ k
one_shifted k h = shifted 1 (omega arith) h ∙ omega arith
