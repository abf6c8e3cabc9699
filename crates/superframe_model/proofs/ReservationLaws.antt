-- Laws of a reservation: frames held, slots for a rate, latency. Assumes nothing.
use mathlib.Core.Path.{◌≡◌, refl, ap}
use Prim.Native.Nat.{ℕ, ◌+◌, ◌-◌, ◌*◌, ◌≤◌, ◌<◌}
use native.Mathlib.Omega.{arith}
use native.Mathlib.Nat.{mul-le-mul_right, le-div_iff_mul-le, div-mul-le_self, div-zero, add-sub_of_le}
use Rattle.measure.specs.declared.Symbols.{Symbols}
use Rattle.measure.specs.declared.Slots.{Slots}
use Rattle.measure.specs.declared.Frames.{Frames}
use Rattle.measure.specs.declared.Rate.{Rate}
use Rattle.measure.specs.Measures.{frames}
use Rattle.superframe_model.specs.Reservation.{frames_in, rate, slots_for, Smallest, latency}
use Rattle.measure.proofs.Rounding.{rounded-up-holds, rounded-up-least}

-- k slots hold ρ frames exactly where they are as long as ρ exchanges
pub held-long : (ρ : ℕ) (k : Slots) (s x : Symbols) → 0 < x.0 → ρ ≤ (frames_in k s x).0 → ρ * x.0 ≤ k.0 * s.0
unfolding frames_in
held-long ρ k s x p h = (le-div_iff_mul-le p).0 h

pub long-held : (ρ : ℕ) (k : Slots) (s x : Symbols) → 0 < x.0 → ρ * x.0 ≤ k.0 * s.0 → ρ ≤ (frames_in k s x).0
unfolding frames_in
long-held ρ k s x p h = (le-div_iff_mul-le p).1 h

-- m·X ≤ k·S
pub frames-fit : (k : Slots) (s x : Symbols) → (frames_in k s x).0 * x.0 ≤ k.0 * s.0
unfolding frames_in
frames-fit k s x = div-mul-le_self (k.0 * s.0) x.0

-- more slots hold no fewer frames
pub frames-grow : (k j : Slots) (s x : Symbols) → 0 < x.0 → k.0 ≤ j.0 → (frames_in k s x).0 ≤ (frames_in j s x).0
frames-grow k j s x p h =
    long-held (frames_in k s x).0 j s x p (omega (arith, frames-fit k s x, mul-le-mul_right s.0 h))

-- the chosen k holds the rate, and no smaller count does
pub slots-smallest : (ρ : Rate) (s x : Symbols) → 0 < s.0 → 0 < x.0 → Smallest ρ s x (slots_for ρ s x)
unfolding slots_for
slots-smallest ρ s x ps px =
    record {
      enough = long-held ρ.0 _ s x px (rounded-up-holds (ρ.0 * x.0) s.0 ps);
      least = λ j h. rounded-up-least (ρ.0 * x.0) s.0 j.0 ps (held-long ρ.0 j s x px h);
    }

-- a higher rate needs no fewer slots
pub slots-grow : (ρ σ : Rate) (s x : Symbols) → 0 < s.0 → 0 < x.0 → ρ.0 ≤ σ.0 → (slots_for ρ s x).0 ≤ (slots_for σ s x).0
slots-grow ρ σ s x ps px h =
    (slots-smallest ρ s x ps px).least (slots_for σ s x)
    (let e = (slots-smallest σ s x ps px).enough in
    omega arith)

-- T + m·X = BI + 2·X where the exchanges fit the interval
pub latency-sum : (interval : Symbols) (m : Frames) (x : Symbols) → m.0 * x.0 ≤ interval.0 →
    (latency interval m x).0 + m.0 * x.0 ≡ interval.0 + 2 * x.0
unfolding latency
latency-sum interval m x h = omega arith

-- so T is document 01's BI − (m − 2)·X, and BI + X for m = 1
pub latency-two : (interval : Symbols) (m : Frames) (x : Symbols) → 2 ≤ m.0 →
    (latency interval m x).0 ≡ interval.0 - (m.0 - 2) * x.0
unfolding latency
latency-two interval m x h =
    omega (arith, ap (λ (n : ℕ). n * x.0) (add-sub_of_le h))

pub latency-one : (interval x : Symbols) → (latency interval (frames 1) x).0 ≡ interval.0 + x.0
unfolding latency
latency-one interval x = omega arith

-- a longer reservation waits no longer, and none longer than BI + X
pub latency-falls : (interval : Symbols) (m n : Frames) (x : Symbols) → m.0 ≤ n.0 →
    (latency interval n x).0 ≤ (latency interval m x).0
unfolding latency
latency-falls interval m n x h = omega (arith, mul-le-mul_right x.0 h)

pub latency-most : (interval : Symbols) (m : Frames) (x : Symbols) → 1 ≤ m.0 → (latency interval m x).0 ≤ interval.0 + x.0
unfolding latency
latency-most interval m x h = omega (arith, mul-le-mul_right x.0 h)

-- a reservation of m frames serves m frames in each interval
pub rate-is : (m : Frames) → (rate m).0 ≡ m.0
unfolding rate
rate-is m = refl

-- for functions that count frames and slots
pub ruleset reservations = (div-zero)
