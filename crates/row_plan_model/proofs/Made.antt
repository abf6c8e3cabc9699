-- Loads and rates as the functions put them together: nothing passes 64 bits, so the sums are the definitions'. Assumes nothing.
use mathlib.Core.Path.{◌≡◌, ap, ◌∙◌}
use Prim.Native.Nat.{ℕ}
use native.Mathlib.Omega.{arith}
use Rattle.measure.specs.declared.FrameSymbols.{FrameSymbols}
use Rattle.measure.specs.Measures.{up_to_64, per_interval, frames, burst}
use Rattle.measure.proofs.Limits.{up_to_fits}
use Rattle.links.specs.declared.Load.{Load}
use Rattle.links.specs.declared.Reservation.{Reservation}
use Rattle.links.specs.Link.{load, plus, times, load_up_to_64, after_link, after, reservation_of}
use Rattle.links.proofs.Making.{load_fits}
use Rattle.settings_model.specs.declared.Settings.{Settings}
use Rattle.row_model.specs.Times.{row_timing}
use Rattle.row_model.specs.Loads.{sensor, left, near}
use Rattle.row_model.specs.Bounds.{Sound, Bounded}
use Rattle.row_model.proofs.LoadBounds.{sensor-bounded, sensor-left-bounded, near-bounded}

-- a bounded load is answered as it is
pub fits : (a : Load) → Bounded a → load_up_to_64 a ≡ a
fits a h = load_fits a (omega (arith, h.rate)) (omega (arith, h.burst))

-- the parts of a bounded sum are bounded
pub plus-left : (a b : Load) → Bounded (plus a b) → Bounded a
plus-left a b h = record { rate = omega (arith, h.rate); burst = omega (arith, h.burst) }

pub plus-right : (a b : Load) → Bounded (plus a b) → Bounded b
plus-right a b h = record { rate = omega (arith, h.rate); burst = omega (arith, h.burst) }

-- the load behind a link, from the load and the link's reservation
pub left-made : (s : Settings) (a l : Load) (v : Reservation) → Bounded (left s a) → v ≡ reservation_of (row_timing s) a.rate → l ≡ load_up_to_64 (after_link a v) → l ≡ left s a
unfolding left after
left-made s a l v h ev el = el ∙ rw ev (fits _ h)

-- a sensor's load
pub sensor-made : (s : Settings) → Sound s → (β : FrameSymbols) → β.0 ≡ up_to_64 (burst (frames s.burst) (row_timing s).interval).0
    → ◌≡◌ {A = Load} (record { rate = per_interval s.rate; burst = β }) (sensor s)
unfolding sensor
sensor-made s S β e = ap (λ (n : ℕ). load s.rate n) (e ∙ up_to_fits (omega (arith, (sensor-bounded s S).burst)))

-- what enters every router, from a sensor's load and the end nodes' reservation
pub near-made : (s : Settings) → Sound s → (m p l q r : Load) (v : Reservation) → m ≡ sensor s → v ≡ reservation_of (row_timing s) (sensor s).rate
    → p ≡ load_up_to_64 (times s.own m) → l ≡ load_up_to_64 (after_link m v) → q ≡ load_up_to_64 (times s.ne l) → r ≡ load_up_to_64 (plus p q) → r ≡ near s
unfolding near
near-made s S m p l q r v em ev ep el eq er =
    let l' : l ≡ left s (sensor s) = left-made s (sensor s) l v (sensor-left-bounded s S) ev (el ∙ rw em) in
    let p' : p ≡ times s.own (sensor s) = ep ∙ rw em (fits _ (plus-left _ (times s.ne (left s (sensor s))) (near-bounded s S))) in
    let q' : q ≡ times s.ne (left s (sensor s)) = eq ∙ rw l' (fits _ (plus-right (times s.own (sensor s)) _ (near-bounded s S))) in
    er ∙ rw (p', q') (fits _ (near-bounded s S))
