-- What the entries for C that speak English answer and leave (document 02, E1): from bytes to bytes. Assumes nothing: these are definitions.
use Rattle.reason_model.specs.declared.Reason.{Reason}
use Rattle.std.specs.Prelude.{ℕ, ◌≤◌, ◌≡◌, cond, ◌&&◌, List, [], ◌∷◌, ◌++◌, ltb, eqb, length, take, drop, Option, Some, None}
use Rattle.refusals.specs.declared.Refusal.{Refusal}
use Rattle.refusals.specs.declared.Refusal.TheVariants.{Names, LentTooShort, InputTooLong}
use Rattle.refusals.specs.Refusals.{number_of, place_of}
use Rattle.reason_model.specs.Reasons.{reason}
use Rattle.reason_model.specs.Reading.{read_reason, reason_at}
use Rattle.calls_model.specs.declared.Answer.{Answer}
use Rattle.calls_model.specs.declared.Numbered.{Numbered}
use Rattle.calls_model.specs.Calls.{answer_to_refusal, Left, left}

-- what a call leaves that puts a line, and answers this number and place: the line at the front of the buffer and its length, or number 8
-- and every byte as it was, where the buffer is shorter than the line
unfoldable pub line_left : ℕ → ℕ → List ℕ → List ℕ → Left
line_left number place line before =
    cond (ltb (length before) (length line))
    (left (answer_to_refusal LentTooShort) before)
    (left (record { number = number; place = place; length = length line }) (line ++ drop (length line) before))

-- refusals that their number and place alone determine
unfoldable pub plain : List Refusal
plain = Names ∷ LentTooShort ∷ InputTooLong ∷ []

-- the line of the one of these refusals with a number and a place; nothing where there is none
unfoldable pub line_among : List Refusal → ℕ → ℕ → List ℕ
line_among [] number place = []
line_among (r ∷ rs) number place = cond (eqb number (number_of r) && eqb place (place_of r)) (reason r) (line_among rs number place)

-- the entry that puts the line of a refusal by number and place, of those three: it answers 0 and 0, and length 0 for any other
unfoldable pub explain_refusal : ℕ → ℕ → List ℕ → Left
explain_refusal number place before = line_left 0 0 (line_among plain number place) before

-- the entry that reads a line: number and place of the refusal whose line it is, 0 and 0 where it is none
unfoldable pub numbered : Option Reason → Numbered
numbered (Some r) = record { number = r.number; place = r.place }
numbered None = record { number = 0; place = 0 }

-- "From the line number and place can be had again": where a call answers a number other than 8, the line that it leaves is read as that
-- number and its place
abbrev pub ReadAgain : Answer → List ℕ → Type 0
ReadAgain a buffer = 1 ≤ a.number → (a.number ≡ 8 → ⊥) → read_reason (take a.length buffer) ≡ reason_at a.number a.place
