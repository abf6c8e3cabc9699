-- Laws of the exchange time with loss. Assumes nothing.
use mathlib.Core.Path.{◌≡◌, ap}
use Prim.Native.Nat.{ℕ, ◌+◌, ◌≤◌, min}
use native.Mathlib.Nat.{mul-le-mul, mul-le-mul_right}
use mathlib.Core.Bool.{Bool}
use native.Mathlib.Omega.{arith}
use Rattle.measure.specs.declared.Symbols.{Symbols}
use Rattle.measure.specs.Measures.{symbols}
use Rattle.superframe_model.specs.Exchange.{air_time, acknowledgement, exchange}
use Rattle.superframe_model.specs.Loss.{failed_try, with_loss, lossy_exchange, lossy_exchange_for, tries, HoldsTries}
use Rattle.superframe_model.proofs.ExchangeLaws.{exchange-for-octets, exchange-some, exchange-most}

pub holds-tries : HoldsTries
unfolding failed_try with_loss lossy_exchange tries exchange air_time acknowledgement
holds-tries = record {
  wait = λ m. omega arith;
  fit = λ x failed loss h. omega (arith, mul-le-mul_right (x.0 + 20) h);
  filled = λ x loss. ap symbols (omega arith);
  without = λ m a. ap symbols (omega arith);
}

-- for document 01's counts of octets and a LOSS in its range the answer is the exchange with loss
pub lossy-for-octets : (m : ℕ) (a : Bool) (loss : ℕ) → 6 ≤ m → m ≤ 127 → loss ≤ 7 → lossy_exchange_for m a loss ≡ lossy_exchange m a loss
unfolding lossy_exchange_for lossy_exchange
lossy-for-octets m a loss low high few =
    let n : min loss 7 ≡ loss = omega arith in
    rw (exchange-for-octets m a low high, n)

-- it lasts at least a symbol
pub lossy-some : (m : ℕ) (a : Bool) (loss : ℕ) → 1 ≤ (lossy_exchange m a loss).0
unfolding lossy_exchange with_loss
lossy-some m a loss = omega (arith, exchange-some m a)

-- none is longer than 2,860: 340 and 7 tries of 360
with-loss-most : (x : Symbols) (loss : ℕ) → x.0 ≤ 340 → loss ≤ 7 → (with_loss x loss).0 ≤ 2860
unfolding with_loss failed_try
with-loss-most x loss h few =
    let y : x.0 + 20 ≤ 360 = omega arith in
    omega (arith, mul-le-mul few y)

pub lossy-most : (m : ℕ) (a : Bool) (loss : ℕ) → m ≤ 127 → loss ≤ 7 → (lossy_exchange m a loss).0 ≤ 2860
unfolding lossy_exchange
lossy-most m a loss high few = with-loss-most (exchange m a) loss (exchange-most m a high) few
