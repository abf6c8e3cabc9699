-- What holds of reasons, for the layers above. Assumes nothing: these are statements; proofs/LawsHold proves them.
use Rattle.std.specs.Prelude.{ℕ, ◌^◌, ◌<◌, ◌≡◌, Bool, true, ◌&&◌, List, [], ◌∷◌, leb}
use Rattle.refusals.specs.declared.Refusal.{Refusal}
use Rattle.refusals.specs.Refusals.{number_of, place_of}
use Rattle.reason_model.specs.Reasons.{reason}
use Rattle.reason_model.specs.Reading.{read_reason, reason_at}

-- "From the line number and place can be had again": of every refusal, whatever its values (a place has 32 bits)
abbrev pub ReadBack : Type 0
ReadBack = (r : Refusal) → place_of r < 2 ^ 32 → read_reason (reason r) ≡ reason_at (number_of r) (place_of r)

-- a refusal that has this line, this number and this place
pub record ReasonOf (line : List ℕ) (number place : ℕ) : Type 0 where
  pub refusal : Refusal
  pub its_line : reason refusal ≡ line
  pub its_number : number_of refusal ≡ number
  pub its_place : place_of refusal ≡ place

-- and a line of which they are had is one: nothing else is taken for a reason
abbrev pub OnlyReasons : Type 0
OnlyReasons = (line : List ℕ) (number place : ℕ) → read_reason line ≡ reason_at number place → ReasonOf line number place

-- every byte is printable ASCII, 32 to 126: so a line has no LF inside
unfoldable pub printable : List ℕ → Bool
printable [] = true
printable (b ∷ bs) = (leb 32 b && leb b 126) && printable bs

abbrev pub PrintableReasons : Type 0
PrintableReasons = (r : Refusal) → printable (reason r) ≡ true
