-- A sink and one node with a link to it, where everything is used up, and the same with a figure that is too low: the promise is about
-- something, and its bounds cannot be lowered. Assumes nothing: these are definitions and statements; proofs/ExamplesHold proves them.
use Rattle.std.specs.Prelude.{◌≡◌, [], ◌∷◌, ℕ, length, get_or}
use Rattle.measure.specs.Measures.{symbols, slots, frames, frame_symbols, per_interval}
use Rattle.links.specs.declared.Timing.{Timing}
use Rattle.network.specs.Model.{queue}
use Rattle.network.specs.Oracle.{run}
use Rattle.network.specs.Examples.{first, received, soon_from}
use Rattle.promise_model.specs.Promise.{Site, Printed, network_of, Windows, Readings, Keeps}

-- BI = 960, S = 60, and exchanges of that many symbols
unfoldable pub timing : ℕ → Timing
timing x = record { interval = symbols 960; slot = symbols 60; exchange = symbols x }

-- node 0 is the sink and does not sense; node 1 has BURST 1 and RATE 2
unfoldable pub pair : Site
pair = record { nodes = 2; sink = 0; next = λ v. 0; burst = λ v. get_or (0 ∷ 1 ∷ []) v 0; rate = λ v. get_or (0 ∷ 2 ∷ []) v 0 }

-- the printed figures: node 1 has k slots, BUFFER b and the delay d, and the sink BURST and RATE of these
unfoldable pub figures : (k b d burst rate : ℕ) → Printed
figures k b d burst rate = record {
  slots = λ v. slots k;
  buffer = λ v. frames b;
  delay = λ v. symbols d;
  burst = frame_symbols burst;
  rate = per_interval rate;
}

-- as document 01 has them: two slots of one exchange each
unfoldable pub right : Printed
right = figures 2 3 1440 2880 2

pub record Examples : Type 0 where
  pub kept : Keeps (timing 60) pair right
  -- a window may end with the interval
  pub last : Windows (timing 60) pair right (λ v. 840)
  -- three frames, each as soon as the token bucket has room, fill the queue to BUFFER
  pub readings : (a : ℕ) → Readings (timing 60) pair (soon_from a)
  pub full : length (queue (run (network_of (timing 60) pair right (λ v. 0)) (soon_from 60) first 1020) 1) ≡ 3
  -- so it is not kept with BUFFER 2
  pub buffer : ¬ Keeps (timing 60) pair (figures 2 2 1440 2880 2)
  -- nor with delay 959: the first of them, made in the symbol of a start, is sent at the next, and comes 960 symbols after it was made
  pub delay : ¬ Keeps (timing 60) pair (figures 2 3 959 2880 2)
  -- nor with BURST 957 and RATE 2 at the sink: in the symbol in which that frame comes it gets 1 × 960, more than 957 + 2 × 1
  pub stretch : ¬ Keeps (timing 60) pair (figures 2 3 1440 957 2)
  -- nor with three slots where an exchange lasts 160 symbols, as for one failed try: they hold one, and the frames wait
  pub loss : ¬ Keeps (timing 160) pair (figures 3 3 1440 2880 2)
  -- there a frame that is sent in symbol 960 comes in 1120
  pub comes : received (network_of (timing 160) pair (figures 3 3 1440 2880 2) (λ v. 0)) (soon_from 0) first 1120 ≡ 1 ∷ 0 ∷ 1120 ∷ []
