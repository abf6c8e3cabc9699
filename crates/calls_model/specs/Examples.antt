-- What calls leave in buffers at the edges, computed: of a plan that is its own text, of lines, and of a line read again. Assumes nothing.
use Rattle.std.specs.Prelude.{◌≡◌, true, false, List, [], ◌∷◌, ◌++◌, ℕ, replicate}
use Rattle.decimal_model.specs.Ascii.{ascii}
use Rattle.refusals.specs.declared.Refusal.TheVariants.{Names}
use Rattle.refusals.specs.Conditions.{condition}
use Rattle.reason_model.specs.Reading.{read_reason}
use Rattle.calls_model.specs.declared.Answer.{Answer}
use Rattle.calls_model.specs.Calls.{Left, left, leaves}
use Rattle.calls_model.specs.Reasons.{line_left, explain_refusal, numbered, ReadAgain}

abbrev pub answer : ℕ → ℕ → ℕ → Answer
answer number place length = record { number = number; place = place; length = length }

-- bytes that no text has
unfoldable pub lent : ℕ → List ℕ
lent n = replicate n 7

-- a call with a plan of 4 bytes, of which the names are right, and one of which they are not, with that many bytes lent
unfoldable pub planned : ℕ → Left
planned n = leaves (λ t. t) (ascii "plan") (condition false Names ∷ []) (lent n)

unfoldable pub refused : ℕ → Left
refused n = leaves (λ t. t) (ascii "plan") (condition true Names ∷ []) (lent n)

pub record Examples : Type 0 where
  -- a buffer exactly as long as the text, a longer one, and shorter ones
  pub exact : planned 4 ≡ left (answer 0 0 4) (ascii "plan")
  pub more : planned 6 ≡ left (answer 0 0 4) (ascii "plan" ++ lent 2)
  pub one_less : planned 3 ≡ left (answer 8 0 0) (lent 3)
  pub none : planned 0 ≡ left (answer 8 0 0) []
  -- other conditions come before 8
  pub one_before_eight : refused 3 ≡ left (answer 1 0 0) (lent 3)

-- P4's line, which has 82 bytes
unfoldable pub line : List ℕ
line = ascii "The slots used at depth 0 are more than can be reserved: 10 used and 7 reservable."

-- the calls that speak English
pub record Spoken : Type 0 where
  pub exact : line_left 7 0 line (lent 82) ≡ left (answer 7 0 82) line
  pub one_less : line_left 7 0 line (lent 81) ≡ left (answer 8 0 0) (lent 81)
  pub one : explain_refusal 1 0 (lent 40) ≡ left (answer 0 0 40) (ascii "The line of names differs or is missing.")
  pub eight : explain_refusal 8 0 (lent 55) ≡ left (answer 0 0 55) (ascii "The lent buffer is shorter than the text to be written.")
  pub nine : explain_refusal 9 0 (lent 31) ≡ left (answer 0 0 31) (ascii "The input is over 65,536 bytes.")
  pub nine_short : explain_refusal 9 0 (lent 30) ≡ left (answer 8 0 0) (lent 30)
  pub eight_elsewhere : explain_refusal 8 1 (lent 3) ≡ left (answer 0 0 0) (lent 3)
  pub seven : explain_refusal 7 0 (lent 3) ≡ left (answer 0 0 0) (lent 3)
  pub read : numbered (read_reason line) ≡ record { number = 7; place = 0 }
  pub read_none : numbered (read_reason (ascii "R 7 0")) ≡ record { number = 0; place = 0 }

-- that number and place can be had again says something: it does not hold of P4's line with another place
abbrev pub OtherPlaceBreaks : Type 0
OtherPlaceBreaks = ¬ ReadAgain (answer 7 1 82) line
