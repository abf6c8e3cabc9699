-- One link: its reservation, the load after it, its buffer and its delay (document 01, 'The tree and its loads': "Write a load as rate
-- ρ (frames per BI) and burst β. For each link: .."). Assumes nothing: these are definitions.
use Rattle.std.specs.Prelude.{ℕ, ◌+◌, ◌*◌}
use Rattle.measure.specs.declared.Symbols.{Symbols}
use Rattle.measure.specs.declared.Slots.{Slots}
use Rattle.measure.specs.declared.Frames.{Frames}
use Rattle.measure.specs.declared.Rate.{Rate}
use Rattle.measure.specs.Measures.{symbols, per_interval, frame_symbols, up_to_64, arrivals, whole_frames, service_time}
use Rattle.superframe_model.specs.Reservation.{frames_in, rate, slots_for, latency}
use Rattle.links.specs.declared.Timing.{Timing}
use Rattle.links.specs.declared.Load.{Load}
use Rattle.links.specs.declared.Reservation.{Reservation}
use Rattle.links.specs.declared.Figures.{Figures}

-- ---- loads

-- "a load as rate ρ (frames per BI) and burst β"
abbrev pub load : ℕ → ℕ → Load
load ρ β = record { rate = per_interval ρ; burst = frame_symbols β }

-- no load
abbrev pub no_load : Load
no_load = load 0 0

-- two loads together
abbrev pub plus : Load → Load → Load
plus a b = load (a.rate.0 + b.rate.0) (a.burst.0 + b.burst.0)

-- n loads alike
abbrev pub times : ℕ → Load → Load
times n a = load (n * a.rate.0) (n * a.burst.0)

-- what is answered for a load of which a number may pass 64 bits
abbrev pub load_up_to_64 : Load → Load
load_up_to_64 a = load (up_to_64 a.rate.0) (up_to_64 a.burst.0)

-- ---- a link

-- k: "slots: the smallest k with floor(k × S / X) ≥ ρ"
unfoldable pub slots_of : Timing → Rate → Slots
slots_of t ρ = slots_for ρ t.slot t.exchange

-- m: "A reservation of k slots holds m = floor(k × S / X) exchanges."
unfoldable pub frames_of : Timing → Rate → Frames
frames_of t ρ = frames_in (slots_of t ρ) t.slot t.exchange

-- T: "T = BI − (m − 2) × X"
unfoldable pub latency_of : Timing → Rate → Symbols
latency_of t ρ = latency t.interval (frames_of t ρ) t.exchange

-- the reservation of a link that a rate enters: k, m and T depend on the rate alone
unfoldable pub reservation_of : Timing → Rate → Reservation
reservation_of t ρ = record { slots = slots_of t ρ; frames = frames_of t ρ; latency = latency_of t ρ }

-- "load after it: rate ρ, burst β + ρ × T", for the load that enters a link and the link's reservation
unfoldable pub after_link : Load → Reservation → Load
after_link a r = load a.rate.0 (a.burst.0 + (arrivals a.rate r.latency).0)

unfoldable pub after : Timing → Load → Load
after t a = after_link a (reservation_of t a.rate)

-- "buffer: (β + ρ × T) / BI rounded up"
unfoldable pub buffer : Symbols → Load → Reservation → Frames
buffer interval a r = whole_frames (after_link a r).burst interval

-- "delay: β / m rounded up, plus T"
unfoldable pub delay : Load → Reservation → Symbols
delay a r = symbols ((service_time a.burst (rate r.frames)).0 + r.latency.0)

-- the seven figures of a link's line, behind KIND and DEPTH
unfoldable pub figures_by : Symbols → Load → Reservation → Figures
figures_by interval a r = record {
  rate = a.rate;
  burst = a.burst;
  slots = r.slots;
  frames = r.frames;
  latency = r.latency;
  buffer = buffer interval a r;
  delay = delay a r;
}

unfoldable pub figures_of : Timing → Load → Figures
figures_of t a = figures_by t.interval a (reservation_of t a.rate)
