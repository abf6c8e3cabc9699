-- The loads of the balanced tree (document 01, 'The tree and its loads'; source document 000, equations 11 to 13 and the downstream
-- ones). Assumes nothing: these are definitions.
use Rattle.std.specs.Prelude.{ℕ, zero, suc, ◌-◌}
use Rattle.measure.specs.Measures.{frames, per_interval, burst}
use Rattle.links.specs.declared.Load.{Load}
use Rattle.links.specs.Link.{plus, times, after}
use Rattle.settings_model.specs.declared.Settings.{Settings}
use Rattle.row_model.specs.Times.{row_timing}

-- "End node: ρ = RATE, β = BURST × BI"; the load of every sensor
unfoldable pub sensor : Settings → Load
sensor s = record { rate = per_interval s.rate; burst = burst (frames s.burst) (row_timing s).interval }

-- a load behind the link that it entered
unfoldable pub left : Settings → Load → Load
left s a = after (row_timing s) a

-- what enters every router: "OWN times the sensor load, NE loads that left an end node"
unfoldable pub near : Settings → Load
near s = plus (times s.own (sensor s)) (times s.ne (left s (sensor s)))

-- a router's upward load where n depths of routers lie below it: "and, for i < H, NR loads that left depth i + 1"
unfoldable pub above : Settings → ℕ → Load
above s zero = near s
above s (suc n) = plus (near s) (times s.nr (left s (above s n)))

-- "The upward load of depth i is built from the load of depth i + 1": of the H − i depths below it
unfoldable pub upward : Settings → ℕ → Load
upward s i = above s (s.h - i)

-- "Downward load at depth i < SINK: the same sensor and end node terms, NR − 1 loads that left depth i + 1 upward and, for i > 0, one
-- load that left depth i − 1 downward."
unfoldable pub downward : Settings → ℕ → Load
downward s zero = plus (near s) (times (s.nr - 1) (left s (upward s 1)))
downward s (suc i) = plus (plus (near s) (times (s.nr - 1) (left s (upward s (suc (suc i)))))) (left s (downward s i))

-- "Sink: its upward load if SINK = 0. Otherwise sensor and end node terms, NR upward loads from below if SINK < H, and the downward
-- load that left SINK − 1." The terms but the last are the upward load of its depth.
unfoldable pub sink_at : Settings → ℕ → Load
sink_at s zero = upward s 0
sink_at s (suc i) = plus (upward s (suc i)) (left s (downward s i))

unfoldable pub at_sink : Settings → Load
at_sink s = sink_at s s.sink
