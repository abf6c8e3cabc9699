-- What a call that plans answers and leaves (document 01, 'Rows of settings'), for a row and for a surveyed tree: `P` is the sort of plan, and
-- `text` the text of one. Assumes nothing: these are definitions.
use Rattle.std.specs.Prelude.{ℕ, ◌≡◌, List, [], ◌∷◌, ◌++◌, ltb, length, take, drop}
use Rattle.refusals.specs.declared.Refusal.{Refusal}
use Rattle.refusals.specs.declared.Refusal.TheVariants.{LentTooShort}
use Rattle.refusals.specs.Refusals.{number_of, place_of}
use Rattle.refusals.specs.Conditions.{Condition, condition, first_broken}
use Rattle.refusals.specs.Outcome.{Outcome, Planned, Refused}
use Rattle.calls_model.specs.declared.Answer.{Answer}

-- the answer to a refusal: its number and place, and length 0
unfoldable pub answer_to_refusal : Refusal → Answer
answer_to_refusal r = record { number = number_of r; place = place_of r; length = 0 }

-- the answer to an outcome: 0, 0 and the text's length where it is a plan
unfoldable pub answer_to : {P : Type 0} → (P → List ℕ) → Outcome P → Answer
answer_to text (Planned p) = record { number = 0; place = 0; length = length (text p) }
answer_to text (Refused r) = answer_to_refusal r

-- the lent buffer afterwards: "A planned row puts its text, header line included, at the front of the buffer [..]; the bytes behind it
-- keep their values." "A refused row yields number and place, and every byte of the lent buffer is the one that was there."
unfoldable pub buffer_after : {P : Type 0} → (P → List ℕ) → List ℕ → Outcome P → List ℕ
buffer_after text before (Planned p) = text p ++ drop (length (text p)) before
buffer_after text before (Refused r) = before

-- number 8: "lent buffer shorter than the text to be written"
unfoldable pub room : List ℕ → List ℕ → List (Condition Refusal)
room before t = condition (ltb (length before) (length t)) LentTooShort ∷ []

-- the outcome with a lent buffer: the plan, or the first of these conditions, or else number 8
unfoldable pub outcome_within : {P : Type 0} → (P → List ℕ) → P → List (Condition Refusal) → List ℕ → Outcome P
outcome_within text p cs before = first_broken Refused (Planned p) (cs ++ room before (text p))

-- all that a call leaves: what it answers, and the buffer's bytes
pub record Left : Type 0 where
  pub answer : Answer
  pub buffer : List ℕ

abbrev pub left : Answer → List ℕ → Left
left a b = record { answer = a; buffer = b }

-- that of a call which plans, by the plan that is to be had, its conditions and the lent buffer's bytes
unfoldable pub leaves : {P : Type 0} → (P → List ℕ) → P → List (Condition Refusal) → List ℕ → Left
leaves text p cs before = left (answer_to text (outcome_within text p cs before)) (buffer_after text before (outcome_within text p cs before))

-- it is answered as planned
abbrev pub IsPlanned : Answer → Type 0
IsPlanned r = r.number ≡ 0

-- the text of this plan stands at the front of the buffer, and is as long as the answer says
abbrev pub StandsIn : {P : Type 0} → (P → List ℕ) → P → Answer → List ℕ → Type 0
StandsIn text p r buffer = text p ≡ take r.length buffer
