-- The measures of document 01, 'Time on the air': "Symbols, slots and frames are each counted in a measure that does not add to
-- another. Bursts are in frame-symbols, that is, frames × BI." Rates are frames per BI. Assumes nothing: these are definitions.
use Rattle.std.specs.Prelude.{ℕ, ◌+◌, ◌-◌, ◌*◌, ◌/◌, ◌^◌, min, cond, ltb}
use Rattle.measure.specs.declared.Symbols.{Symbols}
use Rattle.measure.specs.declared.Slots.{Slots}
use Rattle.measure.specs.declared.Frames.{Frames}
use Rattle.measure.specs.declared.FrameSymbols.{FrameSymbols}
use Rattle.measure.specs.declared.Rate.{Rate}

-- a number in each measure
abbrev pub symbols : ℕ → Symbols
symbols n = record { 0 = n }

abbrev pub slots : ℕ → Slots
slots n = record { 0 = n }

abbrev pub frames : ℕ → Frames
frames n = record { 0 = n }

abbrev pub frame_symbols : ℕ → FrameSymbols
frame_symbols n = record { 0 = n }

abbrev pub per_interval : ℕ → Rate
per_interval n = record { 0 = n }

-- the largest number of 64 bits
abbrev pub largest : ℕ
largest = 2 ^ 64 - 1

-- what is answered for a number that may pass 64 bits: the number, or the largest of 64 bits
abbrev pub up_to_64 : ℕ → ℕ
up_to_64 n = min n largest

-- what is answered where a number n on the way may pass 64 bits: a where n fits, else b
abbrev pub within : {A : Type 0} → ℕ → A → A → A
within n a b = cond (ltb n (2 ^ 64)) a b

-- a / b rounded up: the fewest b that hold a (proofs/Rounding); 0 where b is 0
unfoldable pub rounded_up : ℕ → ℕ → ℕ
rounded_up a b = (a + (b - 1)) / b

-- the burst of n frames at once: frames × BI
unfoldable pub burst : Frames → Symbols → FrameSymbols
burst n interval = frame_symbols (n.0 * interval.0)

-- what a rate brings in t symbols: ρ frames in each BI are ρ × t frame-symbols
unfoldable pub arrivals : Rate → Symbols → FrameSymbols
arrivals ρ t = frame_symbols (ρ.0 * t.0)

-- a burst in whole frames: burst / BI rounded up
unfoldable pub whole_frames : FrameSymbols → Symbols → Frames
whole_frames b interval = frames (rounded_up b.0 interval.0)

-- the time in which a service rate takes a burst up: burst / rate rounded up
unfoldable pub service_time : FrameSymbols → Rate → Symbols
service_time b ρ = symbols (rounded_up b.0 ρ.0)
