-- Laws of a link: how long its reservation and its latency are. They cite superframe's laws and unfold none of its definitions.
-- Assumes nothing.
use mathlib.Core.Path.{◌≡◌, refl, ap}
use Prim.Native.Nat.{ℕ, zero, suc, ◌+◌, ◌*◌, ◌≤◌, ◌<◌}
use native.Mathlib.Nat.{mul-le-mul_left, le_of_mul-le-mul_right}
use native.Mathlib.Decide.{dec_le}
use native.Mathlib.Omega.{arith}
use Rattle.measure.specs.declared.Rate.{Rate}
use Rattle.measure.specs.Measures.{slots, frames, service_time}
use Rattle.superframe_model.specs.Reservation.{Smallest, rate}
use Rattle.superframe_model.proofs.ReservationLaws.{long-held, slots-smallest, latency-falls, latency-sum, rate-is}
use Rattle.links.specs.declared.Timing.{Timing}
use Rattle.links.specs.declared.Load.{Load}
use Rattle.links.specs.Link.{slots_of, frames_of, latency_of, reservation_of, after_link, after, buffer, delay, figures_by, figures_of}
use Rattle.links.specs.Answers.{Timed}
use Rattle.measure.proofs.Conversions.{arrivals-are, frames-hold, service-holds, service-least}

-- the reserved slots hold the rate, and no smaller count does
pub slots-hold : (t : Timing) (ρ : Rate) → Timed t → Smallest ρ t.slot t.exchange (slots_of t ρ)
unfolding slots_of
slots-hold t ρ h = slots-smallest ρ t.slot t.exchange h.slot_some h.exchange_some

-- the window holds at least the rate
pub serves : (t : Timing) (ρ : Rate) → Timed t → ρ.0 ≤ (frames_of t ρ).0
unfolding frames_of
serves t ρ h = (slots-hold t ρ h).enough

-- the reserved slots are less than a slot longer than the exchanges of the rate
pub slots-long : (t : Timing) (ρ : Rate) → Timed t → (slots_of t ρ).0 * t.slot.0 < ρ.0 * t.exchange.0 + t.slot.0
slots-long t ρ h = by (slots_of t ρ).0 refl
  where
    by : (k : ℕ) → (slots_of t ρ).0 ≡ k → k * t.slot.0 < ρ.0 * t.exchange.0 + t.slot.0
    by zero e = omega (arith, h.slot_some)
    by (suc j) e = elim (dec_le (ρ.0 * t.exchange.0) (j * t.slot.0)) [
      | yes l ↦ absurd (omega (arith, (slots-hold t ρ h).least (slots j) (long-held ρ.0 (slots j) t.slot t.exchange h.exchange_some l)))
      | no f ↦ omega arith
    ]

-- a latency is at most BI + 2·X
pub latency-bound : (t : Timing) (ρ : Rate) → (latency_of t ρ).0 ≤ t.interval.0 + 2 * t.exchange.0
unfolding latency_of
latency-bound t ρ =
    omega (arith, latency-falls t.interval (frames 0) (frames_of t ρ) t.exchange (omega arith), latency-sum t.interval (frames 0) t.exchange (omega arith))

-- the load after a link: the same rate, and the burst grown by what the rate brings in the latency
pub after-rate : (t : Timing) (a : Load) → (after t a).rate.0 ≡ a.rate.0
unfolding after after_link
after-rate t a = refl

pub after-burst : (t : Timing) (a : Load) → (after t a).burst.0 ≡ a.burst.0 + a.rate.0 * (latency_of t a.rate).0
unfolding after after_link reservation_of
after-burst t a = ap (λ (n : ℕ). a.burst.0 + n) (arrivals-are a.rate (latency_of t a.rate))

-- so it grows by at most BI + 2·X symbols' worth
pub after-bound : (t : Timing) (a : Load) → (after t a).burst.0 ≤ a.burst.0 + a.rate.0 * (t.interval.0 + 2 * t.exchange.0)
after-bound t a = omega (arith, after-burst t a, mul-le-mul_left a.rate.0 (latency-bound t a.rate))

-- a delay is at most the burst and the latency, where something is served
pub delay-bound : (t : Timing) (a : Load) → Timed t → 1 ≤ a.rate.0 → (figures_of t a).delay.0 ≤ a.burst.0 + (t.interval.0 + 2 * t.exchange.0)
unfolding figures_of figures_by reservation_of delay
delay-bound t a h p =
    let m : 1 ≤ (rate (frames_of t a.rate)).0 = omega (arith, rate-is (frames_of t a.rate), serves t a.rate h) in
    omega (arith, latency-bound t a.rate, service-least a.burst (rate (frames_of t a.rate)) a.burst.0 m (omega (arith, mul-le-mul_left a.burst.0 m)))

-- as many frames as the burst after the link holds fit the buffer
pub buffer-holds : (t : Timing) (a : Load) (n : ℕ) → 0 < t.interval.0 → n * t.interval.0 ≤ (after t a).burst.0 → n ≤ (figures_of t a).buffer.0
unfolding figures_of figures_by buffer after
buffer-holds t a n p h =
    let fits : n * t.interval.0 ≤ (figures_of t a).buffer.0 * t.interval.0 = omega (arith, frames-hold (after t a).burst t.interval p) in
    le_of_mul-le-mul_right fits p

-- in the delay behind the latency the window serves the whole burst
pub delay-serves : (t : Timing) (a : Load) → Timed t → 1 ≤ a.rate.0
    → a.burst.0 + (frames_of t a.rate).0 * (latency_of t a.rate).0 ≤ (frames_of t a.rate).0 * (figures_of t a).delay.0
unfolding figures_of figures_by delay reservation_of
delay-serves t a h p =
    let m : (rate (frames_of t a.rate)).0 ≡ (frames_of t a.rate).0 = rate-is (frames_of t a.rate) in
    omega (arith, ap (λ (n : ℕ). (service_time a.burst (rate (frames_of t a.rate))).0 * n) m, service-holds a.burst (rate (frames_of t a.rate)) (omega (arith, serves t a.rate h)))
