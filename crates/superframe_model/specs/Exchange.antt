-- The exchange time X of a frame of M octets (document 01, 'Time on the air'): "One exchange lasts X = 12 + 2M symbols, plus 34 if
-- acknowledged (turnaround 12, acknowledgement 22), plus 12 if M ≤ 18 and else 40." Assumes nothing: these are definitions.
use Rattle.std.specs.Prelude.{ℕ, ◌+◌, ◌*◌, Bool, cond, ◌&&◌, leb}
use Rattle.measure.specs.declared.Symbols.{Symbols}
use Rattle.measure.specs.Measures.{symbols}

-- the frame on the air: preamble, delimiter and length, 6 octets, and then M octets; an octet is 2 symbols
unfoldable pub air_time : ℕ → ℕ
air_time m = 12 + 2 * m

-- turnaround 12 and acknowledgement 22
unfoldable pub acknowledgement : Bool → ℕ
acknowledgement acknowledged = cond acknowledged (12 + 22) 0

-- the inter-frame space: the short one after at most 18 octets, else the long one
unfoldable pub spacing : ℕ → ℕ
spacing m = cond (leb m 18) 12 40

-- X
unfoldable pub exchange : ℕ → Bool → Symbols
exchange m acknowledged = symbols (air_time m + acknowledgement acknowledged + spacing m)

-- what is answered for any count of octets: X for document 01's 6 to 127, and else 340, the longest of these
unfoldable pub exchange_for : ℕ → Bool → Symbols
exchange_for m acknowledged = cond (leb 6 m && leb m 127) (exchange m acknowledged) (symbols 340)
