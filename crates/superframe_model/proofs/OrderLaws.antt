-- Laws of the beacon interval, the superframe, its slots, the beacon, the contention period and the reservable slots. Assumes nothing.
use mathlib.Core.Path.{◌≡◌, refl}
use Prim.Native.Nat.{ℕ, zero, suc, ◌+◌, ◌-◌, ◌*◌, ◌%◌, ◌^◌, ◌≤◌, ◌<◌}
use native.Mathlib.Omega.{arith}
use native.Mathlib.Nat.{mod-eq_of_lt, mul-le-mul, mul-le-mul_right}
use borrow.Author.Tests.{ne_eqb}
use lib.Pow.{pow_mono, pow_pos}
use Rattle.measure.specs.declared.Slots.{Slots}
use Rattle.superframe_model.specs.Orders.{beacon_interval, superframe, slot, beacon_length, contention, reservable}
use Rattle.measure.specs.Measures.{rounded_up}
use Rattle.measure.proofs.Rounding.{rounded-up-holds, rounded-up-least}

-- a constant of up to 1024 shifted by an order of up to 14 does not wrap
pub shifted : (a : ℕ) {o : ℕ} → a ≤ 1024 → o ≤ 14 → a * 2 ^ o % 2 ^ 64 ≡ a * 2 ^ o
shifted a {o} ha h = mod-eq_of_lt (omega (arith, mul-le-mul ha (pow_mono h)))

-- no interval and no slot is empty, and none passes what order 14 gives
pub interval-some : (bo : ℕ) → 960 ≤ (beacon_interval bo).0
unfolding beacon_interval
interval-some bo = omega (arith, pow_pos bo)

pub interval-most : (bo : ℕ) → bo ≤ 14 → (beacon_interval bo).0 ≤ 15728640
unfolding beacon_interval
interval-most bo h = omega (arith, pow_mono h)

pub slot-some : (so : ℕ) → 60 ≤ (slot so).0
unfolding slot
slot-some so = omega (arith, pow_pos so)

pub slot-most : (so : ℕ) → so ≤ 14 → (slot so).0 ≤ 983040
unfolding slot
slot-most so h = omega (arith, pow_mono h)

-- a superframe is 16 slots, and fits the interval
pub superframe-slots : (so : ℕ) → 16 * (slot so).0 ≡ (superframe so).0
unfolding superframe slot
superframe-slots so = omega arith

pub superframe-fits : (so bo : ℕ) → so ≤ bo → 16 * (slot so).0 ≤ (beacon_interval bo).0
unfolding beacon_interval slot
superframe-fits so bo h = omega (arith, pow_mono h)

-- the beacon without reservations and with some
pub beacon-none : (beacon_length 0).0 ≡ 38
unfolding beacon_length
beacon-none = refl

pub beacon-of : (g : ℕ) → 0 < g → (beacon_length g).0 ≡ 40 + 6 * g
unfolding beacon_length
beacon-of g h = rw (ne_eqb g 0 (λ e. omega arith))

-- it takes at least 38 symbols, and no fewer for more reservations
pub beacon-some : (g : ℕ) → 38 ≤ (beacon_length g).0
beacon-some zero = omega (arith, beacon-none)
beacon-some (suc g) = omega (arith, beacon-of (suc g) (omega arith))

pub beacon-grows : (g n : ℕ) → g ≤ n → (beacon_length g).0 ≤ (beacon_length n).0
beacon-grows zero n h = omega (arith, beacon-none, beacon-some n)
beacon-grows (suc g) n h = omega (arith, beacon-of (suc g) (omega arith), beacon-of n (omega arith))

-- the contention period holds 440 symbols and the beacon, and no smaller count of slots does
pub contention-holds : (so g : ℕ) → 440 + (beacon_length g).0 ≤ (contention so g).0 * (slot so).0
unfolding contention
contention-holds so g = rounded-up-holds (440 + (beacon_length g).0) (slot so).0 (omega (arith, slot-some so))

pub contention-least : (so g k : ℕ) → 440 + (beacon_length g).0 ≤ k * (slot so).0 → (contention so g).0 ≤ k
unfolding contention
contention-least so g k h = rounded-up-least (440 + (beacon_length g).0) (slot so).0 k (omega (arith, slot-some so)) h

-- it takes at least one slot, no fewer for more reservations, and no fewer than 440 symbols take alone
pub contention-some : (so g : ℕ) → 1 ≤ (contention so g).0
contention-some so g =
    let none : ((contention so g).0 ≤ 0 → ⊥) =
    λ z. omega (arith, contention-holds so g, mul-le-mul_right (slot so).0 z) in
    omega arith

pub contention-grows : (so g n : ℕ) → g ≤ n → (contention so g).0 ≤ (contention so n).0
contention-grows so g n h = contention-least so g (contention so n).0 (omega (arith, beacon-grows g n h, contention-holds so n))

pub contention-more : (so g : ℕ) → rounded_up 440 (slot so).0 ≤ (contention so g).0
contention-more so g = rounded-up-least 440 (slot so).0 (contention so g).0 (omega (arith, slot-some so)) (omega (arith, contention-holds so g))

-- what it leaves of the 16 slots may be reserved: 15 at most
pub reservable-rest : (so g : ℕ) → (contention so g).0 ≤ 16 → (contention so g).0 + (reservable so g).0 ≡ 16
unfolding reservable
reservable-rest so g h = omega arith

pub reservable-most : (so g : ℕ) → (reservable so g).0 ≤ 15
unfolding reservable
reservable-most so g = omega (arith, contention-some so g)

-- L never grows with the reservations, and is at most the count for 440 symbols alone
pub reservable-falls : (so g n : ℕ) → g ≤ n → (reservable so n).0 ≤ (reservable so g).0
unfolding reservable
reservable-falls so g n h = omega (arith, contention-grows so g n h)

pub reservable-fewer : (so g : ℕ) → (reservable so g).0 ≤ 16 - rounded_up 440 (slot so).0
unfolding reservable
reservable-fewer so g = omega (arith, contention-more so g)

-- nothing is left where 16 slots do not hold 440 symbols and the beacon
pub reservable-none : (so g : ℕ) → 16 * (slot so).0 < 440 + (beacon_length g).0 → (reservable so g).0 ≡ 0
unfolding reservable
reservable-none so g h = omega (arith, many)
  where
    many : 16 ≤ (contention so g).0
    many =
        let few : ((contention so g).0 ≤ 16 → ⊥) =
        λ z. omega (arith, contention-holds so g, mul-le-mul_right (slot so).0 z) in
        omega arith

-- a window of reservable slots fits the interval
pub window-fits : (so bo g : ℕ) (k : Slots) → so ≤ bo → k.0 ≤ (reservable so g).0 → k.0 * (slot so).0 ≤ (beacon_interval bo).0
window-fits so bo g k h l =
    let few : k.0 ≤ 16 = omega (arith, reservable-most so g) in
    omega (arith, mul-le-mul_right (slot so).0 few, superframe-fits so bo h)

-- 440 symbols and a beacon that pass 64 bits leave nothing of any superframe
pub reservable-past : (so g : ℕ) → so ≤ 14 → 2 ^ 64 ≤ 440 + (beacon_length g).0 → (reservable so g).0 ≡ 0
reservable-past so g l h = reservable-none so g (omega (arith, slot-most so l))

-- for functions that count what is left of a superframe
pub ruleset leftovers = (reservable-past)
