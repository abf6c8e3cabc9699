-- Small lists of conditions and what they answer, computed. Assumes nothing.
use Rattle.refusals.specs.declared.Refusal.{Refusal}
use Rattle.std.specs.Prelude.{◌≡◌, Bool, true, false, [], ◌∷◌, Result, Ok, Err, ⊤}
use Rattle.refusals.specs.declared.Refusal.TheVariants.{Names, Unreadable}
use Rattle.refusals.specs.Conditions.{condition, verdict}

-- the answer to two conditions, each broken or not
unfoldable pub of_two : Bool → Bool → Result ⊤ Refusal
of_two first second = verdict (condition first Names ∷ condition second (Unreadable 1) ∷ [])

pub record Examples : Type 0 where
  pub both_broken : of_two true true ≡ Err Names
  pub first_alone : of_two true false ≡ Err Names
  pub second_alone : of_two false true ≡ Err (Unreadable 1)
  pub none_broken : of_two false false ≡ Ok tt
