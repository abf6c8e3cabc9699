-- What the beacon order BO and the superframe order SO set (document 01, 'Time on the air'; 0 ≤ SO ≤ BO ≤ 14 there), and what a router's
-- beacon takes of its superframe (document 02, E2). Assumes nothing: these are definitions.
use Rattle.std.specs.Prelude.{ℕ, ◌+◌, ◌-◌, ◌*◌, ◌^◌, cond, eqb}
use Rattle.measure.specs.declared.Symbols.{Symbols}
use Rattle.measure.specs.declared.Slots.{Slots}
use Rattle.measure.specs.Measures.{symbols, slots, rounded_up}

-- "beacon interval BI = 960 × 2^BO symbols"
unfoldable pub beacon_interval : ℕ → Symbols
beacon_interval bo = symbols (960 * 2 ^ bo)

-- "superframe SD = 960 × 2^SO"
unfoldable pub superframe : ℕ → Symbols
superframe so = symbols (960 * 2 ^ so)

-- "it has 16 slots of S = 60 × 2^SO"
unfoldable pub slot : ℕ → Symbols
slot so = symbols (60 * 2 ^ so)

-- "A router with g reservations sends a beacon of 38 symbols if g = 0, else 40 + 6 × g."
unfoldable pub beacon_length : ℕ → Symbols
beacon_length g = symbols (cond (eqb g 0) 38 (40 + 6 * g))

-- "The contention period is now the fewest slots that hold 440 and the beacon"
unfoldable pub contention : ℕ → ℕ → Slots
contention so g = slots (rounded_up (440 + (beacon_length g).0) (slot so).0)

-- "The other slots, L of them, may be reserved": none where the contention period takes all 16
unfoldable pub reservable : ℕ → ℕ → Slots
reservable so g = slots (16 - (contention so g).0)
