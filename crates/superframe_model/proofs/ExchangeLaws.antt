-- Laws of the exchange time X. Assumes nothing.
use mathlib.Core.Path.{◌≡◌}
use Prim.Native.Nat.{ℕ, ◌+◌, ◌≤◌, ◌<◌}
use mathlib.Core.Bool.{Bool, true, false, cond}
use lib.Dec.{leb}
use borrow.Author.Tests.{le-leb, lt-leb}
use native.Mathlib.Omega.{arith}
use native.Mathlib.Decide.{dec_le}
use Rattle.measure.specs.Measures.{symbols}
use Rattle.superframe_model.specs.Exchange.{air_time, acknowledgement, spacing, exchange, exchange_for}

-- for document 01's counts of octets the answer is X
pub exchange-for-octets : (m : ℕ) (a : Bool) → 6 ≤ m → m ≤ 127 → exchange_for m a ≡ exchange m a
unfolding exchange_for
exchange-for-octets m a low high = rw (le-leb 6 m low, le-leb m 127 high)

-- and outside them the longest
pub exchange-for-short : (m : ℕ) (a : Bool) → m < 6 → exchange_for m a ≡ symbols 340
unfolding exchange_for
exchange-for-short m a h = rw (lt-leb 6 m h)

pub exchange-for-long : (m : ℕ) (a : Bool) → 127 < m → exchange_for m a ≡ symbols 340
unfolding exchange_for
exchange-for-long m a h = rw (le-leb 6 m (omega arith), lt-leb m 127 h)

-- the inter-frame space is one of the two, and no shorter after a longer frame
spacing-grows : (m n : ℕ) → m ≤ n → spacing m ≤ spacing n
unfolding spacing
spacing-grows m n h = elim (dec_le n 18) [
  | yes l ↦ rw (le-leb n 18 l, le-leb m 18 (omega arith)) (omega arith)
  | no f ↦ rw (lt-leb n 18 (omega arith)) (at_most (leb m 18))
]
  where
    at_most : (b : Bool) → cond b 12 40 ≤ 40
    at_most true = omega arith
    at_most false = omega arith

-- X ≥ 1
pub exchange-some : (m : ℕ) (a : Bool) → 1 ≤ (exchange m a).0
unfolding exchange air_time
exchange-some m a = omega arith

-- X grows with the octets
pub exchange-grows : (m n : ℕ) (a : Bool) → m ≤ n → (exchange m a).0 ≤ (exchange n a).0
unfolding exchange air_time
exchange-grows m n a h = omega (arith, spacing-grows m n h)

-- an acknowledgement makes it 34 longer
pub exchange-acknowledged : (m : ℕ) → (exchange m true).0 ≡ (exchange m false).0 + 34
unfolding exchange acknowledgement
exchange-acknowledged m = omega arith

-- no answer is longer than 340, that of 127 octets acknowledged
pub exchange-most : (m : ℕ) (a : Bool) → m ≤ 127 → (exchange m a).0 ≤ 340
unfolding exchange acknowledgement air_time spacing
exchange-most m true h = exchange-grows m 127 true h
exchange-most m false h = omega (arith, exchange-grows m 127 false h)

pub exchange-for-most : (m : ℕ) (a : Bool) → (exchange_for m a).0 ≤ 340
exchange-for-most m a = elim (dec_le 6 m) [
  | yes low ↦ elim (dec_le m 127) [
    | yes high ↦ rw (exchange-for-octets m a low high) (exchange-most m a high)
    | no f ↦ rw (exchange-for-long m a (omega arith)) (omega arith)
  ]
  | no f ↦ rw (exchange-for-short m a (omega arith)) (omega arith)
]

-- for functions that time exchanges
pub ruleset exchanges = (exchange-for-most)
