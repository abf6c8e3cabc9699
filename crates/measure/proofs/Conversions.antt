-- What the named conversions between measures come to, for those who add them up. Assumes nothing.
use mathlib.Core.Path.{◌≡◌, refl}
use Prim.Native.Nat.{ℕ, ◌*◌, ◌≤◌, ◌<◌}
use Rattle.measure.specs.declared.Symbols.{Symbols}
use Rattle.measure.specs.declared.Frames.{Frames}
use Rattle.measure.specs.declared.FrameSymbols.{FrameSymbols}
use Rattle.measure.specs.declared.Rate.{Rate}
use Rattle.measure.specs.Measures.{burst, arrivals, whole_frames, service_time}
use Rattle.measure.proofs.Rounding.{rounded-up-holds, rounded-up-least}

-- a burst of n frames is n × BI frame-symbols
pub burst-is : (n : Frames) (interval : Symbols) → (burst n interval).0 ≡ n.0 * interval.0
unfolding burst
burst-is n interval = refl

-- a rate brings ρ × t frame-symbols in t symbols
pub arrivals-are : (ρ : Rate) (t : Symbols) → (arrivals ρ t).0 ≡ ρ.0 * t.0
unfolding arrivals
arrivals-are ρ t = refl

-- the whole frames of a burst hold it
pub frames-hold : (b : FrameSymbols) (interval : Symbols) → 0 < interval.0 → b.0 ≤ (whole_frames b interval).0 * interval.0
unfolding whole_frames
frames-hold b interval p = rounded-up-holds b.0 interval.0 p

-- in the service time a rate takes the burst up, and in no shorter one
pub service-holds : (b : FrameSymbols) (ρ : Rate) → 0 < ρ.0 → b.0 ≤ (service_time b ρ).0 * ρ.0
unfolding service_time
service-holds b ρ p = rounded-up-holds b.0 ρ.0 p

pub service-least : (b : FrameSymbols) (ρ : Rate) (j : ℕ) → 0 < ρ.0 → b.0 ≤ j * ρ.0 → (service_time b ρ).0 ≤ j
unfolding service_time
service-least b ρ j p h = rounded-up-least b.0 ρ.0 j p h
