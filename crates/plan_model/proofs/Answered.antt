-- What is answered and put for an outcome, whatever the sort of plan. Assumes nothing.
use Rattle.std.specs.Prelude.{Ok, Err}
use mathlib.Core.Path.{◌≡◌, refl, sym, ◌∙◌}
use mathlib.Core.List.{List}
use Prim.Native.Nat.{ℕ}
use lib.ListN.{length}
use lib.Seq.{sets}
use Rattle.refusals.specs.declared.Refusal.{Refusal}
use Rattle.refusals.specs.Outcome.{Outcome, Planned, Refused}
use Rattle.plan_model.specs.Plans.{answer, written}

module _ {P : Type 0} (text : P → List ℕ) where
  -- refused: nothing is put
  pub refused-answer : (o : Outcome P) (r : Refusal) → Refused r ≡ o → Err r ≡ answer text o
  unfolding answer
  refused-answer o r e = rw (sym e) refl

  pub refused-put : (o : Outcome P) (r : Refusal) (b : List ℕ) → Refused r ≡ o → b ≡ sets b 0 (written text o)
  unfolding written
  refused-put o r b e = rw (sym e) refl

  -- planned: the text is
  pub planned-answer : (o : Outcome P) (p : P) (n : ℕ) → Planned p ≡ o → n ≡ length (text p) → Ok n ≡ answer text o
  unfolding answer
  planned-answer o p n e el = rw (sym e, sym el) refl

  pub planned-put : (o : Outcome P) (p : P) (b c : List ℕ) → Planned p ≡ o → c ≡ sets b 0 (text p) → c ≡ sets b 0 (written text o)
  unfolding written
  planned-put o p b c e ec = ec ∙ rw (sym e) refl

  -- the length that is answered is that of what is put
  pub answered-length : (o : Outcome P) (n : ℕ) → answer text o ≡ Ok n → n ≡ length (written text o)
  unfolding answer written
  answered-length (Planned p) n e = cc
  answered-length (Refused r) n e = cc

  -- an outcome from the plan that answers it
  pub answer-refused : (o : Outcome P) (r : Refusal) → answer text o ≡ Err r → o ≡ Refused r
  unfolding answer
  answer-refused (Planned p) r v = cc
  answer-refused (Refused x) r v = cc

  pub answer-planned : (o : Outcome P) (n : ℕ) → answer text o ≡ Ok n → (p : P) × (o ≡ Planned p)
  unfolding answer
  answer-planned (Planned p) n v = (p, refl)
  answer-planned (Refused x) n v = cc
