-- The promise is about something: it is broken where a text with too small a BUFFER stands, and where a row with LOSS has the text of a plan that
-- was made without. Assumes nothing: these are definitions and statements; proofs/Breaks and LossBreaks prove them.
use Rattle.std.specs.Prelude.{ℕ, List}
use Rattle.decimal_model.specs.Ascii.{ascii}
use Rattle.row_calls_model.specs.Promise.{Promised}

-- a row in whose run a queue is filled to BUFFER, 3 (`Filled` of row_model's specs/Witness)
unfoldable pub row : List ℕ
row = ascii "0 0 0 0 1 0 0 1 2 17 1 0"

-- its plan with BUFFER 2 of line E, which has 105 bytes
unfoldable pub lowered : List ℕ
lowered = ascii "KIND DEPTH RATE BURST SLOTS FRAMES LATENCY BUFFER DELAY\nE 0 2 960 2 2 960 2 1440\nS 0 2 2880 0 0 0 3 1440\n"

abbrev pub LoweredBreaks : Type 0
LoweredBreaks = ¬ Promised row (record { number = 0; place = 0; length = 105 }) lowered

-- ---- LOSS (document 02, E5)

-- a row whose exchanges last 160 symbols, with one failed try, where X is 70 (`Lossy` of row_model's specs/Witness)
unfoldable pub lossy : List ℕ
lossy = ascii "0 0 0 0 1 0 0 1 2 5 1 1 1"

-- the plan of the same row with LOSS 0, which has 105 bytes: its 3 slots hold two exchanges of 70 symbols, and one of 160
unfoldable pub lossless : List ℕ
lossless = ascii "KIND DEPTH RATE BURST SLOTS FRAMES LATENCY BUFFER DELAY\nE 0 2 960 3 2 960 3 1440\nS 0 2 2880 0 0 0 3 1440\n"

-- it is not good enough for the row with LOSS
abbrev pub LosslessBreaks : Type 0
LosslessBreaks = ¬ Promised lossy (record { number = 0; place = 0; length = 105 }) lossless
