-- What an outcome is told as, whatever its plan is put as, and what a plan that is put whole or not at all leaves. Assumes nothing.
use Rattle.std.specs.Prelude.{Result, Ok}
use mathlib.Core.Path.{◌≡◌, refl, ◌∙◌}
use mathlib.Core.Bool.{cond}
use mathlib.Core.List.{List}
use Prim.Native.Nat.{ℕ, ◌≤◌, ◌<◌}
use lib.Dec.{leb}
use lib.ListN.{length}
use borrow.Author.Tests.{le-leb, lt-leb}
use Rattle.refusals.specs.declared.Refusal.{Refusal}
use Rattle.refusals.specs.Outcome.{Outcome, Planned, Refused}
use Rattle.plan_model.specs.Plans.{answer}
use Rattle.calls_model.specs.Calls.{answer_to}

module _ {P : Type 0} (f g : P → List ℕ) where
  pub number_same : (o : Outcome P) → (answer_to f o).number ≡ (answer_to g o).number
  unfolding answer_to
  number_same (Planned p) = refl
  number_same (Refused r) = refl

  pub place_same : (o : Outcome P) → (answer_to f o).place ≡ (answer_to g o).place
  unfolding answer_to
  place_same (Planned p) = refl
  place_same (Refused r) = refl

  -- also in a line that says nothing of the length
  pub said-same : (say : Result ℕ Refusal → List ℕ) → ((m n : ℕ) → say (Ok m) ≡ say (Ok n)) → (o : Outcome P) → say (answer f o) ≡ say (answer g o)
  unfolding answer
  said-same say planned (Planned p) = planned (length (f p)) (length (g p))
  said-same say planned (Refused r) = refl

module _ (e text after : List ℕ) (n : ℕ) (w : after ≡ cond (leb n (length e)) text e) where
  pub within-room : n ≤ length e → after ≡ text
  within-room h = w ∙ rw (le-leb n (length e) h)

  pub no_room : length e < n → after ≡ e
  no_room h = w ∙ rw (lt-leb n (length e) h)
