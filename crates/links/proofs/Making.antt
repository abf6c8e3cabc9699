-- Values put together from what the functions below answer, and that they are specs/Link's where nothing passes 64 bits. Assumes nothing.
use mathlib.Core.Path.{◌≡◌, ap, ap₂}
use Prim.Native.Nat.{ℕ, ◌*◌, ◌<◌, ◌^◌}
use native.Mathlib.Nat.{mul-le-mul, le_of_lt}
use native.Mathlib.Omega.{arith}
use Rattle.measure.specs.declared.Symbols.{Symbols}
use Rattle.measure.specs.declared.FrameSymbols.{FrameSymbols}
use Rattle.measure.specs.declared.Rate.{Rate}
use Rattle.measure.specs.Measures.{symbols, up_to_64, whole_frames, frame_symbols}
use Rattle.measure.proofs.Limits.{up_to_fits, within-fits}
use Rattle.links.specs.declared.Timing.{Timing}
use Rattle.links.specs.declared.Load.{Load}
use Rattle.links.specs.declared.Reservation.{Reservation}
use Rattle.links.specs.Link.{load, load_up_to_64, slots_of, frames_of, latency_of, reservation_of, after_link, buffer, delay, figures_by}
use Rattle.links.specs.Answers.{slots_answered, frames_answered, latency_answered, reservation_answered, Timed, figures_answered, Moderate}
use Rattle.links.proofs.LinkLaws.{slots-long, latency-bound}

-- a load from its rate and its burst
pub load_of : (ρ : Rate) (β : FrameSymbols) (p q : ℕ) → ρ.0 ≡ p → β.0 ≡ q → ◌≡◌ {A = Load} (record { rate = ρ; burst = β }) (load p q)
load_of ρ β p q e f = ap₂ (λ (m n : ℕ). load m n) e f

-- a load whose numbers fit is the answer
pub load_fits : (a : Load) → a.rate.0 < 2 ^ 64 → a.burst.0 < 2 ^ 64 → load_up_to_64 a ≡ a
load_fits a h k = ap₂ (λ (m n : ℕ). load m n) (up_to_fits h) (up_to_fits k)

-- ---- a rate's reservation

-- where every number fits, it is the rate's reservation
module _ (t : Timing) (ρ : Rate) (timed : Timed t) (low : ρ.0 < 2 ^ 40) where
  slots-fit : slots_answered t ρ ≡ slots_of t ρ
  unfolding slots_answered
  slots-fit = within-fits (ρ.0 * t.exchange.0) _ _ (omega (arith, timed.exchange, mul-le-mul (le_of_lt low) (le_of_lt timed.exchange)))

  frames-fit : frames_answered t (slots_of t ρ) ≡ frames_of t ρ
  unfolding frames_answered frames_of
  frames-fit = within-fits ((slots_of t ρ).0 * t.slot.0) _ _ (omega (arith, timed.slot, slots-long t ρ timed, mul-le-mul (le_of_lt low) (le_of_lt timed.exchange)))

  latency-fit : latency_answered t (frames_of t ρ) ≡ latency_of t ρ
  unfolding latency_answered latency_of
  latency-fit = ap symbols (up_to_fits (omega (arith, timed.interval, timed.exchange, latency-bound t ρ)))

  pub reservation-fits : reservation_answered t ρ ≡ reservation_of t ρ
  unfolding reservation_answered reservation_of
  reservation-fits = rw (slots-fit, frames-fit, latency-fit)

-- ---- a link's figures

-- where the sums fit, they are the link's figures
pub figures-fit : (interval : Symbols) (a : Load) (r : Reservation) → Moderate a r → figures_answered interval a r ≡ figures_by interval a r
unfolding figures_answered figures_by buffer
figures-fit interval a r h =
    let b : whole_frames (load_up_to_64 (after_link a r)).burst interval ≡ whole_frames (after_link a r).burst interval = ap (λ (n : ℕ). whole_frames (frame_symbols n) interval) (up_to_fits h.burst) in
    let d : symbols (up_to_64 (delay a r).0) ≡ delay a r = ap symbols (up_to_fits h.delay) in
    rw (b, d)
