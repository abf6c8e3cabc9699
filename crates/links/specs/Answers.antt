-- What the functions answer for any arguments, also where a number passes 64 bits; and where none does, so that the answer is that of
-- specs/Link (proofs/Making: `reservation-fits`, `figures-fit`). Assumes nothing: these are definitions.
use Rattle.std.specs.Prelude.{◌*◌, ◌<◌, ◌^◌}
use Rattle.measure.specs.declared.Symbols.{Symbols}
use Rattle.measure.specs.declared.Slots.{Slots}
use Rattle.measure.specs.declared.Frames.{Frames}
use Rattle.measure.specs.declared.Rate.{Rate}
use Rattle.measure.specs.Measures.{symbols, slots, frames, largest, up_to_64, within, whole_frames}
use Rattle.superframe_model.specs.Reservation.{frames_in, latency}
use Rattle.links.specs.declared.Timing.{Timing}
use Rattle.links.specs.declared.Load.{Load}
use Rattle.links.specs.declared.Reservation.{Reservation}
use Rattle.links.specs.declared.Figures.{Figures}
use Rattle.links.specs.Link.{load_up_to_64, slots_of, after_link, delay}

-- ---- a rate's reservation

-- more slots than any superframe has, where the exchanges of the rate are too long to count
unfoldable pub slots_answered : Timing → Rate → Slots
slots_answered t ρ = within (ρ.0 * t.exchange.0) (slots_of t ρ) (slots largest)

-- no frames, where the slots are
unfoldable pub frames_answered : Timing → Slots → Frames
frames_answered t k = within (k.0 * t.slot.0) (frames_in k t.slot t.exchange) (frames 0)

unfoldable pub latency_answered : Timing → Frames → Symbols
latency_answered t m = symbols (up_to_64 (latency t.interval m t.exchange).0)

unfoldable pub reservation_answered : Timing → Rate → Reservation
reservation_answered t ρ = record {
  slots = slots_answered t ρ;
  frames = frames_answered t (slots_answered t ρ);
  latency = latency_answered t (frames_answered t (slots_answered t ρ));
}

-- times as the orders and frames of document 01 set them: each at least a symbol, none long. With these, and a rate below 2^40, every
-- number fits.
pub record Timed (t : Timing) : Type 0 where
  pub interval : t.interval.0 < 2 ^ 32
  pub slot_some : 0 < t.slot.0
  pub slot : t.slot.0 < 2 ^ 20
  pub exchange_some : 0 < t.exchange.0
  pub exchange : t.exchange.0 < 2 ^ 20

-- ---- a link's figures

-- the burst after the link and the delay stop at the largest number of 64 bits
unfoldable pub figures_answered : Symbols → Load → Reservation → Figures
figures_answered interval a r = record {
  rate = a.rate;
  burst = a.burst;
  slots = r.slots;
  frames = r.frames;
  latency = r.latency;
  buffer = whole_frames (load_up_to_64 (after_link a r)).burst interval;
  delay = symbols (up_to_64 (delay a r).0);
}

-- a load whose sums at a link fit: the burst after it, and its delay
pub record Moderate (a : Load) (r : Reservation) : Type 0 where
  pub burst : (after_link a r).burst.0 < 2 ^ 64
  pub delay : (delay a r).0 < 2 ^ 64
