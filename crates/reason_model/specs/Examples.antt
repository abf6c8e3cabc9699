-- A line for each number and each place of 4, with number and place had again from it, and lines that are no reason, computed in one
-- table. Assumes nothing.
use Rattle.reason_model.specs.declared.Reason.{Reason}
use Rattle.std.specs.Prelude.{◌≡◌, Bool, true, not, ◌||◌, List, [], ◌∷◌, ◌++◌, map, ℕ, eqb, length, take, Option, None}
use Prim.Native.String.{String}
use Rattle.decimal_model.specs.Ascii.{ascii}
use Rattle.lines.specs.Text.{same}
use Rattle.refusals.specs.declared.Refusal.{Refusal}
use Rattle.refusals.specs.declared.Refusal.TheVariants.{Names, Unreadable, TextAfter, OutOfRange, AtOdds, Reservations, Superframes, SlotsUsed, LentTooShort, InputTooLong, InTree}
use Rattle.refusals.specs.declared.TreeRefusal.TheVariants.{NodeNames, NodeLine, SinkNode, RouterReservations, RouterSlots}
use Rattle.refusals.specs.declared.Conflict.TheVariants.{Orders, Routers, Sensors, SinkDepth, SinkBranches, FrameLength, Unacknowledged}
use Rattle.refusals.specs.Table.{Sort, table, place_said}
use Rattle.measure.specs.Measures.{slots}
use Rattle.reason_model.specs.Reasons.{column_name, reason}
use Rattle.reason_model.specs.Reading.{read_reason, reason_at}

-- a refusal, its line, and its number and place
pub record Example : Type 0 where
  pub refusal : Refusal
  pub line : String
  pub reading : Option Reason

abbrev pub example : Refusal → String → ℕ → ℕ → Example
example r l n p = record { refusal = r; line = l; reading = reason_at n p }

unfoldable pub examples : List Example
examples =
    example Names "The line of names differs or is missing." 1 0
    ∷ example (Unreadable 3) "The value of H is unreadable or missing." 2 3
    ∷ example (TextAfter 13) "There is text after the last value, where column 13 would be." 2 13
    ∷ example (Unreadable 13) "The value of LOSS is unreadable or missing." 2 13
    ∷ example (TextAfter 14) "There is text after the last value, where column 14 would be." 2 14
    ∷ example (OutOfRange 8 0) "The value of BURST is outside its range: it is 0." 3 8
    ∷ example (OutOfRange 13 8) "The value of LOSS is outside its range: it is 8." 3 13
    ∷ example (AtOdds (Orders 8 4)) "Values are at odds at SO, which may not be above BO: SO is 8 and BO is 4." 4 2
    ∷ example (AtOdds (Routers 0 1)) "Values are at odds at NR, which is 0 exactly where H is 0: NR is 0 and H is 1." 4 4
    ∷ example (AtOdds (Sensors 0 0)) "Values are at odds at NE, since nothing senses: NE is 0 and OWN is 0." 4 5
    ∷ example (AtOdds (SinkDepth 2 1)) "Values are at odds at SINK, which may not be above H: SINK is 2 and H is 1." 4 7
    ∷ example (AtOdds (SinkBranches 1 1)) "Values are at odds at SINK, which is 0 where NR is below 2: SINK is 1 and NR is 1." 4 7
    ∷ example (AtOdds (FrameLength 126 2)) "Values are at odds at DATA, which with HEAD may not be above 127: HEAD is 126 and DATA is 2." 4 11
    ∷ example (AtOdds (Unacknowledged 3 0)) "Values are at odds at LOSS, which is 0 where ACK is 0: LOSS is 3 and ACK is 0." 4 13
    ∷ example (Reservations 4 5) "A router would have more than 7 reservations: NE is 4 and NR is 5." 5 0
    ∷ example (Superframes 3 2) "There are more routers than superframes that fit a beacon interval: 3 against 2." 6 0
    ∷ example (SlotsUsed 12 (slots 10) (slots 8)) "The slots used at depth 12 are more than can be reserved: 10 used and 8 reservable." 7 12
    ∷ example LentTooShort "The lent buffer is shorter than the text to be written." 8 0
    ∷ example InputTooLong "The input is over 65,536 bytes." 9 0
    ∷ example (InTree NodeNames) "The line of names of the node list differs or is missing." 10 0
    ∷ example (InTree (NodeLine 3)) "Line 3 of the node list breaks a rule or is missing." 10 3
    ∷ example (InTree (NodeLine 255)) "Line 255 of the node list breaks a rule or is missing." 10 255
    ∷ example (InTree SinkNode) "The sink is no router of the tree." 10 0
    ∷ example (InTree (RouterReservations 17 8)) "Router 17 would have more than 7 reservations: it would have 8." 5 17
    ∷ example (InTree (RouterSlots 254 (slots 8) (slots 7))) "The slots used at router 254 are more than can be reserved: 8 used and 7 reservable." 7 254
    -- a column without a name, and the largest numbers of 64 bits
    ∷ example (OutOfRange 14 18446744073709551615) "The value of 14 is outside its range: it is 18446744073709551615." 3 14
    ∷ []

-- the theorem; proofs/ExamplesHold proves it by computing both sides
pub record ExamplesHold : Type 0 where
  pub lines : map (λ (e : Example). reason e.refusal) examples ≡ map (λ (e : Example). ascii e.line) examples
  pub readings : map (λ (e : Example). read_reason (ascii e.line)) examples ≡ map (λ (e : Example). e.reading) examples

-- lines that are no reason: nothing, another sentence, one that goes on or stops short, another column, a number with a leading zero,
-- a column's number in place of its name, a place past 32 bits
unfoldable pub others : List String
others =
    ""
    ∷ "The row is planned."
    ∷ "R 7 0"
    ∷ "The input is over 65,536 bytes"
    ∷ "The input is over 65,536 bytes. "
    ∷ "the input is over 65,536 bytes."
    ∷ "The value of LF is unreadable or missing."
    ∷ "The value of 3 is unreadable or missing."
    ∷ "The value of 13 is unreadable or missing."
    ∷ "There is text after the last value, where column LOSS would be."
    ∷ "The value of BURST is outside its range: it is 00."
    ∷ "The value of BURST is outside its range: it is ."
    ∷ "Values are at odds at BO, which may not be above BO: SO is 8 and BO is 4."
    ∷ "The slots used at router H are more than can be reserved: 10 used and 8 reservable."
    ∷ "Line 01 of the node list breaks a rule or is missing."
    ∷ "The slots used at depth 4294967296 are more than can be reserved: 10 used and 8 reservable."
    ∷ []

abbrev pub OthersHold : Type 0
OthersHold = map (λ (s : String). read_reason (ascii s)) others ≡ map (λ (s : String). None) others

-- "the column's name": a phrase of number 4 begins with that of the column at its place
unfoldable pub begins_named : Sort → Bool
begins_named s =
    let beginning : List ℕ = ascii "Values are at odds at " ++ column_name (place_said s.place) ++ ascii "," in
    not (eqb s.number 4) || same (take (length beginning) (ascii s.phrase)) beginning

abbrev pub ConflictsNamed : Type 0
ConflictsNamed = map begins_named table ≡ map (λ (s : Sort). true) table
