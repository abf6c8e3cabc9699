-- P1 to P10 (document 01, 'Plans and limits worked through'; document 02, E2), from bytes to bytes, in one table: each row as it is read, and what is
-- printed for it. Assumes nothing.
use Rattle.std.specs.Prelude.{◌≡◌, List, [], ◌∷◌, map, ℕ, get_or}
use Prim.Native.String.{String}
use Rattle.decimal_model.specs.Ascii.{ascii}
use Rattle.lines.specs.Text.{ended}
use Rattle.row_program_model.specs.declared.Style.TheVariants.{Plans, Reasons}
use Rattle.row_program_model.specs.Output.{output}

-- what an example is of, its row, and the lines that document 01 prints or states
pub record Example : Type 0 where
  pub of : String
  pub row : String
  pub stated : List String

abbrev pub planned : String → String → List String → Example
planned t r ls = record { of = t; row = r; stated = "KIND DEPTH RATE BURST SLOTS FRAMES LATENCY BUFFER DELAY" ∷ ls }

abbrev pub refused : String → String → String → Example
refused t r l = record { of = t; row = r; stated = l ∷ [] }

unfoldable pub examples : List Example
examples =
    planned "P1" "8 4 1 2 1 0 0 1 1 19 7 0"
    ("E 0 1 245760 1 9 245032 2 272339" ∷ "U 1 1 490792 1 9 245032 3 299565" ∷ "S 0 3 1962440 0 0 0 8 571904" ∷ [])
    ∷ planned "P2: the same with SINK 1" "8 4 1 2 1 0 1 1 1 19 7 0"
    ("E 0 1 245760 1 9 245032 2 272339"
    ∷ "U 1 1 490792 1 9 245032 3 299565"
    ∷ "D 0 2 1226616 1 9 245032 7 381323"
    ∷ "S 1 3 2207472 0 0 0 9 953227"
    ∷ [])
    ∷ refused "P3: 8 slots of 7, refusal 7, place 0 (E2)" "0 0 0 0 4 0 0 1 1 19 7 0" "R 7 0"
    ∷ planned "P3 with NE 3: k = 2, m = 1, T = 1064, E delay 2024" "0 0 0 0 3 0 0 1 1 19 7 0"
    ("E 0 1 960 2 1 1064 3 2024" ∷ "S 0 3 6072 0 0 0 7 2024" ∷ [])
    ∷ refused "P4, NE 5 there: refusal 7, place 0" "0 0 0 0 5 0 0 1 1 19 7 0" "R 7 0"
    ∷ planned "P5, M = 18, SO 0, RATE 1: k = 1" "4 0 0 0 1 0 0 1 1 17 1 0"
    ("E 0 1 15360 1 1 15420 3 30780" ∷ "S 0 1 30780 0 0 0 3 30780" ∷ [])
    ∷ planned "P6, RATE 2 there: k = 2" "4 0 0 0 1 0 0 1 2 17 1 0"
    ("E 0 2 15360 2 2 15360 3 23040" ∷ "S 0 2 46080 0 0 0 3 23040" ∷ [])
    ∷ planned "P7: 2 routers of 2 pass check 6" "5 4 1 1 1 0 0 1 1 19 7 0"
    ("E 0 1 30720 1 9 29992 2 33406" ∷ "U 1 1 60712 1 9 29992 3 36738" ∷ "S 0 2 151416 0 0 0 5 70144" ∷ [])
    ∷ refused "P8, NR 2 there: refused" "5 4 1 2 1 0 0 1 1 19 7 0" "R 6 0"
    ∷ planned "P9, H 1, NR 4, NE 3 passes check 5" "8 4 1 4 3 0 0 1 1 19 7 0"
    ("E 0 1 245760 1 9 245032 2 272339" ∷ "U 1 3 1472376 1 9 245032 9 408630" ∷ "S 0 15 10302264 0 0 0 42 680969" ∷ [])
    ∷ refused "P10, NE 4 there: refused" "8 4 1 4 4 0 0 1 1 19 7 0" "R 5 0"
    ∷ planned "7 slots of 7, each an end node's" "0 0 0 0 7 0 0 1 1 17 1 0"
    ("E 0 1 960 1 1 1020 3 1980" ∷ "S 0 7 13860 0 0 0 15 1980" ∷ [])
    ∷ refused "8 slots of 7 at the root, where its child router may reserve 8 (E2)" "4 0 1 1 0 1 0 1 8 17 1 0" "R 7 0"
    ∷ []

-- what is printed for the name line and that row
unfoldable pub ours : Example → List ℕ
ours e = output Plans (ended (ascii "BO SO H NR NE OWN SINK BURST RATE HEAD DATA ACK" ∷ ascii e.row ∷ []))

-- the theorem; proofs/ExamplesHold proves it by computing both sides
unfoldable pub ExamplesHold : Type 0
ExamplesHold = map ours examples ≡ map (λ e. ended (map ascii e.stated)) examples

-- rows with LOSS (document 02, E5), under 13 names: X is 138 of 26 octets acknowledged and 340 of 127
unfoldable pub lossy : List Example
lossy =
    planned "P1 acknowledged, LOSS 2: exchanges of 138 + 2 × 158 = 454, two of them in a slot of 960" "8 4 1 2 1 0 0 1 1 19 7 1 2"
    ("E 0 1 245760 1 2 245760 2 368640" ∷ "U 1 1 491520 1 2 245760 3 491520" ∷ "S 0 3 1966080 0 0 0 8 860160" ∷ [])
    ∷ planned "the longest exchange, 340 + 7 × 360 = 2860, one in three slots" "8 4 1 2 1 0 0 1 1 5 122 1 7"
    ("E 0 1 245760 3 1 248620 3 494380" ∷ "U 1 1 494380 3 1 248620 4 743000" ∷ "S 0 3 1980380 0 0 0 9 1237380" ∷ [])
    ∷ planned "LOSS 0: P1" "8 4 1 2 1 0 0 1 1 19 7 0 0"
    ("E 0 1 245760 1 9 245032 2 272339" ∷ "U 1 1 490792 1 9 245032 3 299565" ∷ "S 0 3 1962440 0 0 0 8 571904" ∷ [])
    ∷ refused "454 symbols need 8 slots of 7" "0 0 0 0 1 0 0 1 1 19 7 1 2" "R 7 0"
    ∷ planned "296 symbols need 5" "0 0 0 0 1 0 0 1 1 19 7 1 1"
    ("E 0 1 960 5 1 1256 3 2216" ∷ "S 0 1 2216 0 0 0 3 2216" ∷ [])
    ∷ []

-- what is printed for the 13 names and that row
unfoldable pub ours_lossy : Example → List ℕ
ours_lossy e = output Plans (ended (ascii "BO SO H NR NE OWN SINK BURST RATE HEAD DATA ACK LOSS" ∷ ascii e.row ∷ []))

-- the theorem; proofs/ExamplesHold proves it by computing both sides
unfoldable pub LossyHold : Type 0
LossyHold = map ours_lossy lossy ≡ map (λ e. ended (map ascii e.stated)) lossy

-- the whole input: the name line alone, a text without one, rows behind a refused one, a last row without its LF
pub record InputsHold : Type 0 where
  pub names_alone_explained : output Reasons (ascii "BO SO H NR NE OWN SINK BURST RATE HEAD DATA ACK\n") ≡ []
  pub empty_explained : output Reasons [] ≡ ascii "The line of names differs or is missing.\n"
  pub names_alone : output Plans (ascii "BO SO H NR NE OWN SINK BURST RATE HEAD DATA ACK\n") ≡ []
  pub names_without_end : output Plans (ascii "BO SO H NR NE OWN SINK BURST RATE HEAD DATA ACK") ≡ []
  pub lossy_names_alone : output Plans (ascii "BO SO H NR NE OWN SINK BURST RATE HEAD DATA ACK LOSS\n") ≡ []
  pub empty : output Plans [] ≡ ascii "R 1 0\n"
  pub no_names : output Plans (ascii "8 4 1 2 1 0 0 1 1 19 7 0\n8 4 1 2 1 0 0 1 1 19 7 0\n") ≡ ascii "R 1 0\n"
  pub several : output Plans (ascii "BO SO H NR NE OWN SINK BURST RATE HEAD DATA ACK\n08 4 1 2 1 0 0 1 1 19 7 0\n\n0 0 0 0 3 0 0 1 1 19 7 0\n0 0 0 0 5 0 0 1 1 19 7 0")
      ≡ ascii "R 2 1\nR 2 1\nKIND DEPTH RATE BURST SLOTS FRAMES LATENCY BUFFER DELAY\nE 0 1 960 2 1 1064 3 2024\nS 0 3 6072 0 0 0 7 2024\nR 7 0\n"

-- a row that is refused with each of numbers 2 to 7, each place of 4, and one that is planned, and the line of each (document 02, E1)
unfoldable pub reasons : List Example
reasons =
    refused "2" "08 4 1 2 1 0 0 1 1 19 7 0" "The value of BO is unreadable or missing."
    ∷ refused "2, a value missing" "8 4 1" "The value of NR is unreadable or missing."
    ∷ refused "2, text after the last" "8 4 1 2 1 0 0 1 1 19 7 0 0" "There is text after the last value, where column 13 would be."
    ∷ refused "3" "8 4 1 2 1 0 0 0 1 19 7 0" "The value of BURST is outside its range: it is 0."
    ∷ refused "4, place 2" "4 8 1 2 1 0 0 1 1 19 7 0" "Values are at odds at SO, which may not be above BO: SO is 8 and BO is 4."
    ∷ refused "4, place 4" "8 4 1 0 1 0 0 1 1 19 7 0" "Values are at odds at NR, which is 0 exactly where H is 0: NR is 0 and H is 1."
    ∷ refused "4, place 4, the other way" "8 4 0 2 1 0 0 1 1 19 7 0" "Values are at odds at NR, which is 0 exactly where H is 0: NR is 2 and H is 0."
    ∷ refused "4, place 5" "8 4 1 2 0 0 0 1 1 19 7 0" "Values are at odds at NE, since nothing senses: NE is 0 and OWN is 0."
    ∷ refused "4, place 7" "8 4 1 2 1 0 2 1 1 19 7 0" "Values are at odds at SINK, which may not be above H: SINK is 2 and H is 1."
    ∷ refused "4, place 7, the other" "8 4 1 1 1 0 1 1 1 19 7 0" "Values are at odds at SINK, which is 0 where NR is below 2: SINK is 1 and NR is 1."
    ∷ refused "4, place 7, both" "8 4 1 1 1 0 2 1 1 19 7 0" "Values are at odds at SINK, which may not be above H: SINK is 2 and H is 1."
    ∷ refused "4, place 11" "8 4 1 2 1 0 0 1 1 126 2 0" "Values are at odds at DATA, which with HEAD may not be above 127: HEAD is 126 and DATA is 2."
    ∷ refused "5" "8 4 1 5 4 0 0 1 1 19 7 0" "A router would have more than 7 reservations: NE is 4 and NR is 5."
    ∷ refused "6" "5 4 1 2 1 0 0 1 1 19 7 0" "There are more routers than superframes that fit a beacon interval: 3 against 2."
    ∷ refused "7" "0 0 0 0 5 0 0 1 1 19 7 0" "The slots used at depth 0 are more than can be reserved: 10 used and 7 reservable."
    ∷ refused "7, the root's own L" "4 0 1 1 0 1 0 1 8 17 1 0" "The slots used at depth 0 are more than can be reserved: 8 used and 7 reservable."
    ∷ refused "planned" "8 4 1 2 1 0 0 1 1 19 7 0" "The row is planned."
    ∷ []

-- rows under 13 names, and the line of each (document 02, E5)
unfoldable pub lossy_reasons : List Example
lossy_reasons =
    refused "2, a value missing" "8 4 1 2 1 0 0 1 1 19 7 0" "The value of LOSS is unreadable or missing."
    ∷ refused "2" "8 4 1 2 1 0 0 1 1 19 7 1 07" "The value of LOSS is unreadable or missing."
    ∷ refused "2, text after the last" "8 4 1 2 1 0 0 1 1 19 7 1 7 7" "There is text after the last value, where column 14 would be."
    ∷ refused "3" "8 4 1 2 1 0 0 1 1 19 7 1 8" "The value of LOSS is outside its range: it is 8."
    ∷ refused "4, place 11" "8 4 1 2 1 0 0 1 1 126 2 0 7" "Values are at odds at DATA, which with HEAD may not be above 127: HEAD is 126 and DATA is 2."
    ∷ refused "4, place 13" "8 4 1 2 1 0 0 1 1 19 7 0 7" "Values are at odds at LOSS, which is 0 where ACK is 0: LOSS is 7 and ACK is 0."
    ∷ refused "7" "0 0 0 0 1 0 0 1 1 19 7 1 2" "The slots used at depth 0 are more than can be reserved: 8 used and 7 reservable."
    ∷ refused "planned" "8 4 1 2 1 0 0 1 1 19 7 1 7" "The row is planned."
    ∷ []

-- the theorem; proofs/ExamplesHold proves it by computing both sides. One input has all these rows.
unfoldable pub explained : List ℕ
explained = output Reasons (ended (ascii "BO SO H NR NE OWN SINK BURST RATE HEAD DATA ACK" ∷ map (λ e. ascii e.row) reasons))

unfoldable pub ReasonsHold : Type 0
ReasonsHold = explained ≡ ended (map (λ e. ascii (get_or e.stated 0 "")) reasons)

unfoldable pub lossy_explained : List ℕ
lossy_explained = output Reasons (ended (ascii "BO SO H NR NE OWN SINK BURST RATE HEAD DATA ACK LOSS" ∷ map (λ e. ascii e.row) lossy_reasons))

unfoldable pub LossyReasonsHold : Type 0
LossyReasonsHold = lossy_explained ≡ ended (map (λ e. ascii (get_or e.stated 0 "")) lossy_reasons)
