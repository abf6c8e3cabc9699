-- Document 01's examples of refusals 1 and 2, with document 02's E5, and cases at their edges, computed in one table. Assumes nothing.
use Rattle.settings_model.specs.declared.Settings.{Settings}
use Rattle.refusals.specs.declared.Refusal.{Refusal}
use Rattle.std.specs.Prelude.{◌≡◌, List, [], ◌∷◌, ◌++◌, ℕ, Result, Ok, Err}
use Prim.Native.String.{String}
use Rattle.decimal_model.specs.Ascii.{ascii}
use Rattle.refusals.specs.Refusals.{number_of, place_of}
use Rattle.settings_model.specs.Columns.{twelve, every_column}
use Rattle.row_read_model.specs.declared.Heading.TheVariants.{Twelve, Thirteen}
use Rattle.row_read_model.specs.Names.{name_line, heading_of}
use Rattle.row_read_model.specs.Rows.{row_under, named_row}

-- number and place of a refusal; 0 and 0 where the row is read
unfoldable pub answered : Result Settings Refusal → List ℕ
answered (Ok s) = 0 ∷ 0 ∷ []
answered (Err r) = number_of r ∷ place_of r ∷ []

-- the answer to a row under a name line
unfoldable pub under : String → String → List ℕ
under line row = answered (named_row (ascii line) (ascii row))

-- the answer to a row under 12 names, and under 13
unfoldable pub asked : String → List ℕ
asked row = answered (row_under Twelve (ascii row))

unfoldable pub asked_lossy : String → List ℕ
asked_lossy row = answered (row_under Thirteen (ascii row))

-- the answer to document 01's first row with more bytes behind it, under 12 names
unfoldable pub behind : List ℕ → List ℕ
behind bytes = answered (row_under Twelve (ascii "8 4 1 2 1 0 0 1 1 19 7 0" ++ bytes))

-- and with LOSS 0 and more bytes behind that, under 13
unfoldable pub behind_loss : List ℕ → List ℕ
behind_loss bytes = answered (row_under Thirteen (ascii "8 4 1 2 1 0 0 1 1 19 7 0 0" ++ bytes))

abbrev pub of : ℕ → ℕ → List ℕ
of number place = number ∷ place ∷ []

pub record Examples : Type 0 where
  -- the names come first
  pub names : name_line twelve ≡ ascii "BO SO H NR NE OWN SINK BURST RATE HEAD DATA ACK"
  pub lossy_names : name_line every_column ≡ ascii "BO SO H NR NE OWN SINK BURST RATE HEAD DATA ACK LOSS"
  pub twelve_names : heading_of (name_line twelve) ≡ Twelve
  pub thirteen_names : heading_of (name_line every_column) ≡ Thirteen
  pub empty_input : under "" "8 4 1 2 1 0 0 1 1 19 7 0" ≡ of 1 0
  pub other_names : under "BO SO H NR NE OWN SINK BURST RATE DATA HEAD ACK" "x" ≡ of 1 0
  pub space_after_names : under "BO SO H NR NE OWN SINK BURST RATE HEAD DATA ACK " "8 4 1 2 1 0 0 1 1 19 7 0" ≡ of 1 0
  pub right_names : under "BO SO H NR NE OWN SINK BURST RATE HEAD DATA ACK" "8 4 1 2 1 0 0 1 1 19 7 0" ≡ of 0 0
  pub thirteen_with_space : under "BO SO H NR NE OWN SINK BURST RATE HEAD DATA ACK LOSS " "8 4 1 2 1 0 0 1 1 19 7 0 0" ≡ of 1 0
  pub other_thirteenth : under "BO SO H NR NE OWN SINK BURST RATE HEAD DATA ACK LOST" "8 4 1 2 1 0 0 1 1 19 7 0 0" ≡ of 1 0
  pub right_thirteen : under "BO SO H NR NE OWN SINK BURST RATE HEAD DATA ACK LOSS" "8 4 1 2 1 0 0 1 1 19 7 1 3" ≡ of 0 0
  pub thirteen_under_twelve : under "BO SO H NR NE OWN SINK BURST RATE HEAD DATA ACK" "8 4 1 2 1 0 0 1 1 19 7 1 3" ≡ of 2 13
  pub twelve_under_thirteen : under "BO SO H NR NE OWN SINK BURST RATE HEAD DATA ACK LOSS" "8 4 1 2 1 0 0 1 1 19 7 1" ≡ of 2 13
  -- a row that is read
  pub first : row_under Twelve (ascii "8 4 1 2 1 0 0 1 1 19 7 0")
      ≡ Ok (record { bo = 8; so = 4; h = 1; nr = 2; ne = 1; own = 0; sink = 0; burst = 1; rate = 1; head = 19; payload = 7; ack = 0; loss = 0 })
  pub largest : row_under Twelve (ascii "14 13 12 7 7 1 12 255 4095 5 122 1")
      ≡ Ok (record { bo = 14; so = 13; h = 12; nr = 7; ne = 7; own = 1; sink = 12; burst = 255; rate = 4095; head = 5; payload = 122; ack = 1; loss = 0 })
  pub first_lossy : row_under Thirteen (ascii "8 4 1 2 1 0 0 1 1 19 7 1 3")
      ≡ Ok (record { bo = 8; so = 4; h = 1; nr = 2; ne = 1; own = 0; sink = 0; burst = 1; rate = 1; head = 19; payload = 7; ack = 1; loss = 3 })
  pub largest_lossy : asked_lossy "14 13 12 7 7 1 12 255 4095 5 122 1 7" ≡ of 0 0
  -- values that cannot be read, are missing, or have text after them
  pub leading_zero : asked "08 4 1 2 1 0 0 1 1 19 7 0" ≡ of 2 1
  pub nothing : asked "" ≡ of 2 1
  pub leading_space : asked " 8 4 1 2 1 0 0 1 1 19 7 0" ≡ of 2 1
  pub two_spaces : asked "8  4 1 2 1 0 0 1 1 19 7 0" ≡ of 2 2
  pub five_digits : asked "8 4 1 2 1 0 0 1 10000 19 7 0" ≡ of 2 9
  pub three_values : asked "8 4 1" ≡ of 2 4
  pub three_and_space : asked "8 4 1 " ≡ of 2 4
  pub eleven_values : asked "8 4 1 2 1 0 0 1 1 19 7" ≡ of 2 12
  pub letter_behind : behind (120 ∷ []) ≡ of 2 12
  pub return_behind : behind (13 ∷ []) ≡ of 2 12
  pub tab_behind : behind (9 ∷ []) ≡ of 2 12
  pub feed_behind : behind (10 ∷ []) ≡ of 2 12
  pub space_behind : behind (32 ∷ []) ≡ of 2 13
  pub value_behind : behind (32 ∷ 48 ∷ []) ≡ of 2 13
  -- E5: "text after the 13th value has place 14"
  pub twelve_of_thirteen : asked_lossy "8 4 1 2 1 0 0 1 1 19 7 0" ≡ of 2 13
  pub twelve_and_space : asked_lossy "8 4 1 2 1 0 0 1 1 19 7 0 " ≡ of 2 13
  pub loss_leading_zero : asked_lossy "8 4 1 2 1 0 0 1 1 19 7 0 00" ≡ of 2 13
  pub letter_behind_loss : behind_loss (120 ∷ []) ≡ of 2 13
  pub nothing_behind_loss : behind_loss [] ≡ of 0 0
  pub space_behind_loss : behind_loss (32 ∷ []) ≡ of 2 14
  pub value_behind_loss : behind_loss (32 ∷ 48 ∷ []) ≡ of 2 14
