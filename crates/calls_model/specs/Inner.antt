-- The answer to a plan. Nobody has to believe this: the entries' contracts do not use it. Assumes nothing: these are definitions.
use Rattle.calls_model.specs.Calls.{answer_to_refusal}
use Rattle.refusals.specs.declared.Refusal.{Refusal}
use Rattle.std.specs.Prelude.{ℕ, Result, Ok, Err}
use Rattle.calls_model.specs.declared.Answer.{Answer}

unfoldable pub answer_of : Result ℕ Refusal → Answer
answer_of (Ok n) = record { number = 0; place = 0; length = n }
answer_of (Err r) = answer_to_refusal r
