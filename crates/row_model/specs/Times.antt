-- The times that a row sets (document 01, 'Time on the air'), and the slots that its routers may reserve (document 02, E2). Assumes nothing:
-- these are definitions.
use Rattle.std.specs.Prelude.{ℕ, ◌+◌, cond, ltb}
use Rattle.measure.specs.declared.Slots.{Slots}
use Rattle.superframe_model.specs.Orders.{reservable}
use Rattle.links.specs.declared.Timing.{Timing}
use Rattle.settings_model.specs.declared.Settings.{Settings}
use Rattle.settings_model.specs.Checks.{radio_of}
use Rattle.plan_model.specs.Times.{timing_of}

-- BI, S and X of a row
abbrev pub row_timing : Settings → Timing
row_timing s = timing_of (radio_of s)

-- "at most NR child routers, none at depth H": as many as the checks count for a router at depth i
unfoldable pub routers_below : Settings → ℕ → ℕ
routers_below s i = cond (ltb i s.h) s.nr 0

-- g of a router at depth i: a reservation for each end node and each child router. On the sink's path too, where one of the child
-- routers' is replaced by the downward one
unfoldable pub reservations_at : Settings → ℕ → ℕ
reservations_at s i = s.ne + routers_below s i

-- L of a router at depth i: "check 7 uses each router's own"
unfoldable pub reservable_at : Settings → ℕ → Slots
reservable_at s i = reservable s.so (reservations_at s i)
