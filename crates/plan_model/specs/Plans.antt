-- An outcome as an entry answers it, and what it puts into lent memory: the length or the refusal, and the text. Assumes nothing: these are definitions.
use Rattle.std.specs.Prelude.{ℕ, List, [], length, Result, Ok, Err}
use Rattle.refusals.specs.declared.Refusal.{Refusal}
use Rattle.refusals.specs.Outcome.{Outcome, Planned, Refused}

-- the length of the plan's text, or the refusal; `text` is the text of a plan
unfoldable pub answer : {P : Type 0} → (P → List ℕ) → Outcome P → Result ℕ Refusal
answer text (Planned p) = Ok (length (text p))
answer text (Refused r) = Err r

-- what is put at the front of lent memory: the text; nothing where refused
unfoldable pub written : {P : Type 0} → (P → List ℕ) → Outcome P → List ℕ
written text (Planned p) = text p
written text (Refused r) = []
