-- Calls that plan or explain a row, with buffers at the edges, computed in one table. Assumes nothing.
use Rattle.std.specs.Prelude.{◌≡◌, List, [], ◌++◌, ℕ}
use Prim.Native.String.{String}
use Rattle.decimal_model.specs.Ascii.{ascii}
use Rattle.calls_model.specs.Calls.{Left, left}
use Rattle.calls_model.specs.Examples.{answer, lent, line}
use Rattle.row_calls_model.specs.Entries.{plan_row, check_row, explain_row}

-- P3's row with NE 3, and the text of its plan, which has 106 bytes
unfoldable pub text : List ℕ
text = ascii "KIND DEPTH RATE BURST SLOTS FRAMES LATENCY BUFFER DELAY\nE 0 1 960 2 1 1064 3 2024\nS 0 3 6072 0 0 0 7 2024\n"

-- a call of the entry that writes, with that many bytes lent
unfoldable pub call : String → String → ℕ → Left
call names row n = plan_row (ascii names) (ascii row) (lent n)

-- the same under the right names, of that row and of P4's
unfoldable pub planned : ℕ → Left
planned n = call "BO SO H NR NE OWN SINK BURST RATE HEAD DATA ACK" "0 0 0 0 3 0 0 1 1 19 7 0" n

unfoldable pub refused : ℕ → Left
refused n = call "BO SO H NR NE OWN SINK BURST RATE HEAD DATA ACK" "0 0 0 0 5 0 0 1 1 19 7 0" n

-- a call under 13 names, and the text of a plan with LOSS 1, which has 105 bytes
unfoldable pub lossy_call : String → ℕ → Left
lossy_call row n = call "BO SO H NR NE OWN SINK BURST RATE HEAD DATA ACK LOSS" row n

unfoldable pub lossy_text : List ℕ
lossy_text = ascii "KIND DEPTH RATE BURST SLOTS FRAMES LATENCY BUFFER DELAY\nE 0 2 960 6 2 960 3 1440\nS 0 2 2880 0 0 0 3 1440\n"

pub record Examples : Type 0 where
  pub check : check_row (ascii "BO SO H NR NE OWN SINK BURST RATE HEAD DATA ACK") (ascii "0 0 0 0 3 0 0 1 1 19 7 0") ≡ answer 0 0 106
  -- a buffer exactly as long as the text, and longer ones
  pub exact : planned 106 ≡ left (answer 0 0 106) text
  pub one_more : planned 107 ≡ left (answer 0 0 106) (text ++ lent 1)
  pub more : planned 300 ≡ left (answer 0 0 106) (text ++ lent 194)
  -- shorter ones: document 01's example has 10 bytes
  pub one_less : planned 105 ≡ left (answer 8 0 0) (lent 105)
  pub ten : planned 10 ≡ left (answer 8 0 0) (lent 10)
  pub none : planned 0 ≡ left (answer 8 0 0) []
  -- 1 to 7 come before 8
  pub seven : refused 300 ≡ left (answer 7 0 0) (lent 300)
  pub seven_before_eight : refused 0 ≡ left (answer 7 0 0) []
  pub one_before_eight : call "" "0 0 0 0 3 0 0 1 1 19 7 0" 10 ≡ left (answer 1 0 0) (lent 10)
  -- 13 names (document 02, E5)
  pub lossy : lossy_call "0 0 0 0 1 0 0 1 2 5 1 1 1" 106 ≡ left (answer 0 0 105) (lossy_text ++ lent 1)
  pub lossy_short : lossy_call "0 0 0 0 1 0 0 1 2 5 1 1 1" 104 ≡ left (answer 8 0 0) (lent 104)
  pub loss_missing : lossy_call "0 0 0 0 1 0 0 1 2 5 1 1" 3 ≡ left (answer 2 13 0) (lent 3)
  pub loss_behind : lossy_call "0 0 0 0 1 0 0 1 2 5 1 1 1 1" 3 ≡ left (answer 2 14 0) (lent 3)
  pub loss_outside : lossy_call "0 0 0 0 1 0 0 1 2 5 1 1 8" 3 ≡ left (answer 3 13 0) (lent 3)
  pub unacknowledged : lossy_call "0 0 0 0 1 0 0 1 2 5 1 0 1" 3 ≡ left (answer 4 13 0) (lent 3)

unfoldable pub explained : String → ℕ → Left
explained row n = explain_row (ascii "BO SO H NR NE OWN SINK BURST RATE HEAD DATA ACK") (ascii row) (lent n)

-- the call that speaks English
pub record Spoken : Type 0 where
  pub exact : explained "0 0 0 0 5 0 0 1 1 19 7 0" 82 ≡ left (answer 7 0 82) line
  pub more : explained "0 0 0 0 5 0 0 1 1 19 7 0" 84 ≡ left (answer 7 0 82) (line ++ lent 2)
  pub one_less : explained "0 0 0 0 5 0 0 1 1 19 7 0" 81 ≡ left (answer 8 0 0) (lent 81)
  pub none : explained "0 0 0 0 5 0 0 1 1 19 7 0" 0 ≡ left (answer 8 0 0) []
  pub planned : explained "0 0 0 0 3 0 0 1 1 19 7 0" 20 ≡ left (answer 0 0 19) (ascii "The row is planned." ++ lent 1)
  pub planned_short : explained "0 0 0 0 3 0 0 1 1 19 7 0" 18 ≡ left (answer 8 0 0) (lent 18)
  pub no_names : explain_row [] (ascii "x") (lent 41) ≡ left (answer 1 0 40) (ascii "The line of names differs or is missing." ++ lent 1)
