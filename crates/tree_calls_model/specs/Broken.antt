-- The promise of a surveyed tree is about something: it is broken where a text with too small a BUFFER or ROUTE stands, or a plan
-- that was made without LOSS. Assumes nothing:
-- these are definitions and statements; proofs/Breaks proves them.
use Rattle.std.specs.Prelude.{ℕ, List}
use Rattle.decimal_model.specs.Ascii.{ascii}
use Rattle.settings_model.specs.Checks.{radio}
use Rattle.tree_calls_model.specs.Promise.{PromisedTree}

-- ---- a list in whose run a queue is filled to BUFFER, 3 (`Filled` of tree_model's specs/Witness)

unfoldable pub pair_list : List ℕ
pair_list = ascii "NODE PARENT BURST RATE\n1 0 0 0\n2 1 1 2\n"

-- its plan with BUFFER 2 of node 2, which has 115 bytes
unfoldable pub low_buffer : List ℕ
low_buffer = ascii "KIND DEPTH RATE BURST SLOTS FRAMES LATENCY BUFFER DELAY ROUTE\nS 0 2 2880 0 0 0 3 0 0\nE 1 2 960 2 2 960 2 1440 1440\n"

-- ---- a list in whose run a frame of node 3 is 1920 symbols on its way (`TwoLinks` there)

unfoldable pub hop_list : List ℕ
hop_list = ascii "NODE PARENT BURST RATE\n1 0 0 0\n2 1 0 0\n3 2 1 7\n"

-- its plan with ROUTE 1919 of node 3 alone, and of both nodes that have one
unfoldable pub low_route : List ℕ
low_route = ascii "KIND DEPTH RATE BURST SLOTS FRAMES LATENCY BUFFER DELAY ROUTE\nS 0 7 24600 0 0 0 13 0 0\nU 1 7 13260 7 7 1620 13 3515 3515\nE 2 7 1920 7 7 1620 7 1895 1919\n"

unfoldable pub low_routes : List ℕ
low_routes = ascii "KIND DEPTH RATE BURST SLOTS FRAMES LATENCY BUFFER DELAY ROUTE\nS 0 7 24600 0 0 0 13 0 0\nU 1 7 13260 7 7 1620 13 3515 1919\nE 2 7 1920 7 7 1620 7 1895 1919\n"

-- ---- LOSS (document 02, E5): the first list with HEAD 5, DATA 1, ACK 1 and LOSS 1 beside, and its plan with LOSS 0, whose 3 slots hold one
-- exchange of 160 symbols (`Lossy` there)

unfoldable pub lossless : List ℕ
lossless = ascii "KIND DEPTH RATE BURST SLOTS FRAMES LATENCY BUFFER DELAY ROUTE\nS 0 2 2880 0 0 0 3 0 0\nE 1 2 960 3 2 960 3 1440 1440\n"

-- each of these texts, as long as the answer says, breaks the promise
pub record LoweredBreak : Type 0 where
  pub buffer : ¬ PromisedTree pair_list (radio 0 0 17 1 0 0) 1 (record { number = 0; place = 0; length = 115 }) low_buffer
  pub route : ¬ PromisedTree hop_list (radio 1 0 17 1 0 0) 1 (record { number = 0; place = 0; length = 153 }) low_route
  pub routes : ¬ PromisedTree hop_list (radio 1 0 17 1 0 0) 1 (record { number = 0; place = 0; length = 153 }) low_routes
  pub loss : ¬ PromisedTree pair_list (radio 0 0 5 1 1 1) 1 (record { number = 0; place = 0; length = 115 }) lossless
