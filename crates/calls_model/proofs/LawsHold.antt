-- The laws of specs/Laws. Assumes nothing.
use mathlib.Core.Path.{◌≡◌, refl, ap, sym, ◌∙◌}
use mathlib.Core.List.{List}
use Prim.Native.Nat.{ℕ, ◌≤◌}
use native.Mathlib.Omega.{arith}
use lib.ListN.{length, drop, length-append, length-drop}
use lib.Seq.{take-append_seam}
use Rattle.refusals.specs.declared.Refusal.{Refusal}
use Rattle.refusals.specs.Conditions.{Condition, first_broken, Unbroken}
use Rattle.refusals.specs.Outcome.{Outcome, Planned, Refused}
use Rattle.refusals.proofs.Sorts.{numbered}
use Rattle.calls_model.specs.Calls.{answer_to_refusal, answer_to, buffer_after, outcome_within, leaves, IsPlanned, StandsIn}
use Rattle.calls_model.specs.Laws.{LengthStays, RefusalLeaves, AskedFirst, TextStands}
use Rattle.calls_model.proofs.Rooms.{roomed-refused, roomed-planned, roomed-unbroken, roomed-own, roomed-fits}

pub asked-first : AskedFirst
unfolding leaves answer_to
asked-first P text p cs before h = by (first_broken Refused (Planned p) cs) refl h where
  by : (o : Outcome P) → first_broken Refused (Planned p) cs ≡ o → (answer_to text o).length ≤ length before → answer_to text (outcome_within text p cs before) ≡ answer_to text o
  by (Planned q) e g = ap (answer_to text) (roomed-planned text p cs q e before g)
  by (Refused r) e g = ap (answer_to text) (roomed-refused text p cs before r e)

pub refusal-leaves : RefusalLeaves
unfolding leaves answer_to buffer_after
refusal-leaves P text p cs before h = by (outcome_within text p cs before) h where
  by : (o : Outcome P) → ¬ IsPlanned (answer_to text o) → buffer_after text before o ≡ before
  by (Planned q) g = absurd (g refl)
  by (Refused r) g = refl

pub length-stays : LengthStays
unfolding leaves buffer_after
length-stays P text p cs before = by (outcome_within text p cs before) refl where
  by : (o : Outcome P) → outcome_within text p cs before ≡ o → length (buffer_after text before o) ≡ length before
  by (Planned q) e = length-append (text q) (drop (length (text q)) before) ∙ rw length-drop (omega (arith, roomed-fits text p cs before q e))
  by (Refused r) e = refl

-- a plan that stands where a call is answered as planned: no condition is broken, and it is the one that was to be had
pub standing : {P : Type 0} (text : P → List ℕ) (p : P) (cs : List (Condition Refusal)) (before : List ℕ) → ((x y : P) → text x ≡ text y → x ≡ y)
    → IsPlanned (leaves text p cs before).answer → (q : P) → StandsIn text q (leaves text p cs before).answer (leaves text p cs before).buffer
    → Unbroken cs × (p ≡ q)
unfolding leaves answer_to_refusal answer_to buffer_after
standing {P} text p cs before one n q w = by (outcome_within text p cs before) refl n w where
  by : (o : Outcome P) → outcome_within text p cs before ≡ o → IsPlanned (answer_to text o) → StandsIn text q (answer_to text o) (buffer_after text before o) → Unbroken cs × (p ≡ q)
  by (Planned x) e n w = (roomed-unbroken text p cs before x e, roomed-own text p cs before x e ∙ sym (one q x (w ∙ take-append_seam (text x) _)))
  by (Refused r) e n w = absurd (omega (arith, n, numbered r))

pub text-stands : TextStands
unfolding leaves answer_to_refusal answer_to buffer_after
text-stands P text p cs before = by (outcome_within text p cs before) refl where
  by : (o : Outcome P) → outcome_within text p cs before ≡ o → IsPlanned (answer_to text o) → StandsIn text p (answer_to text o) (buffer_after text before o)
  by (Planned q) e n = rw (roomed-own text p cs before q e) (sym (take-append_seam (text q) _))
  by (Refused r) e n = absurd (omega (arith, n, numbered r))
