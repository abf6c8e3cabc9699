-- A reservation of k slots of S symbols, for exchanges of X symbols (document 01, 'Time on the air' and 'The tree and its loads').
-- Assumes nothing: these are definitions.
use Rattle.std.specs.Prelude.{◌+◌, ◌-◌, ◌*◌, ◌/◌, ◌≤◌}
use Rattle.measure.specs.declared.Symbols.{Symbols}
use Rattle.measure.specs.declared.Slots.{Slots}
use Rattle.measure.specs.declared.Frames.{Frames}
use Rattle.measure.specs.declared.Rate.{Rate}
use Rattle.measure.specs.Measures.{symbols, slots, frames, per_interval, rounded_up}

-- "A reservation of k slots holds m = floor(k × S / X) exchanges."
unfoldable pub frames_in : Slots → Symbols → Symbols → Frames
frames_in k s x = frames (k.0 * s.0 / x.0)

-- "Rate of the reservation: m frames per BI."
unfoldable pub rate : Frames → Rate
rate m = per_interval m.0

-- "slots: the smallest k with floor(k × S / X) ≥ ρ", as the time of ρ exchanges rounded up to whole slots
unfoldable pub slots_for : Rate → Symbols → Symbols → Slots
slots_for ρ s x = slots (rounded_up (ρ.0 * x.0) s.0)

-- the same sentence word by word: k slots hold the rate, and no smaller count does. The contract of `slots_for` says it of slots_for
pub record Smallest (ρ : Rate) (s x : Symbols) (k : Slots) : Type 0 where
  pub enough : ρ.0 ≤ (frames_in k s x).0
  pub least : (j : Slots) → ρ.0 ≤ (frames_in j s x).0 → k.0 ≤ j.0

-- "Latency: T = BI − (m − 2) × X, so BI + X for m = 1", put so that nothing is taken from a smaller number for m = 1
unfoldable pub latency : Symbols → Frames → Symbols → Symbols
latency interval m x = symbols (interval.0 + 2 * x.0 - m.0 * x.0)
