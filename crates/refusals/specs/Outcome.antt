-- What planning comes to: a plan, or the first refusal (document 01, 'Rows of settings' and 'The printed plan'). Assumes nothing: these are
-- definitions.
use Rattle.refusals.specs.declared.Refusal.{Refusal}

-- `P` is the sort of plan: a row's lines, a surveyed tree's
pub data Outcome (P : Type 0) : Type 0 where
  Planned : P → Outcome P
  Refused : Refusal → Outcome P
