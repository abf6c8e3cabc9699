-- Laws of the loads: each depth from its neighbours, and rates and bursts as numbers. Assumes nothing.
use mathlib.Core.Path.{◌≡◌, refl}
use Prim.Native.Nat.{ℕ, suc, ◌+◌, ◌-◌, ◌*◌, ◌≤◌, ◌<◌}
use native.Mathlib.Omega.{arith}
use Rattle.measure.specs.Measures.{frames}
use Rattle.links.specs.declared.Load.{Load}
use Rattle.links.specs.Link.{plus, times}
use Rattle.measure.proofs.Conversions.{burst-is}
use Rattle.links.proofs.LinkLaws.{after-rate, after-bound}
use Rattle.settings_model.specs.declared.Settings.{Settings}
use Rattle.row_model.specs.Times.{row_timing}
use Rattle.row_model.specs.Loads.{sensor, left, near, above, upward, downward, sink_at}

-- ---- loads

pub sensor-rate : (s : Settings) → (sensor s).rate.0 ≡ s.rate
unfolding sensor
sensor-rate s = refl

pub sensor-burst : (s : Settings) → (sensor s).burst.0 ≡ s.burst * (row_timing s).interval.0
unfolding sensor
sensor-burst s = burst-is (frames s.burst) (row_timing s).interval

-- the load that left a link
pub left-rate : (s : Settings) (a : Load) → (left s a).rate.0 ≡ a.rate.0
unfolding left
left-rate s a = after-rate (row_timing s) a

-- the longest that a frame waits for its window
abbrev pub longest : Settings → ℕ
longest s = (row_timing s).interval.0 + 2 * (row_timing s).exchange.0

pub left-bound : (s : Settings) (a : Load) → (left s a).burst.0 ≤ a.burst.0 + a.rate.0 * longest s
unfolding left
left-bound s a = after-bound (row_timing s) a

-- the upward load of depth H, and of a depth above it
pub upward-last : (s : Settings) (i : ℕ) → s.h ≤ i → upward s i ≡ near s
unfolding upward above
upward-last s i h =
    let z : s.h - i ≡ 0 = omega arith in
    rw z

pub upward-step : (s : Settings) (i : ℕ) → i < s.h → upward s i ≡ plus (near s) (times s.nr (left s (upward s (suc i))))
unfolding upward above
upward-step s i h =
    let z : s.h - i ≡ suc (s.h - suc i) = omega arith in
    rw z

-- the downward load of the root, and of a depth below it
pub downward-first : (s : Settings) → downward s 0 ≡ plus (near s) (times (s.nr - 1) (left s (upward s 1)))
unfolding downward
downward-first s = refl

pub downward-step : (s : Settings) (i : ℕ) → downward s (suc i) ≡ plus (plus (near s) (times (s.nr - 1) (left s (upward s (suc (suc i)))))) (left s (downward s i))
unfolding downward
downward-step s i = refl

-- the load that comes to the sink at the root, and to one below it
pub sink-first : (s : Settings) → sink_at s 0 ≡ upward s 0
unfolding sink_at
sink-first s = refl

pub sink-step : (s : Settings) (i : ℕ) → sink_at s (suc i) ≡ plus (upward s (suc i)) (left s (downward s i))
unfolding sink_at
sink-step s i = refl
