-- The answer as a whole: numbers 3 to 6, then 7, then the plan; and demand 3 of it. Assumes nothing.
use Rattle.std.specs.Prelude.{Result, Ok, Err, ⊤}
use mathlib.Core.Path.{◌≡◌, refl, sym, ◌∙◌}
use mathlib.Core.List.{◌++◌}
use Prim.Native.Nat.{suc}
use borrow.Author.Tests.{ltb-false}
use Rattle.refusals.specs.declared.Refusal.{Refusal}
use Rattle.refusals.specs.Conditions.{Unbroken, verdict}
use Rattle.refusals.proofs.Answering.{broken-kept, answer-broken, answer-kept, first-part-answers}
use Rattle.refusals.proofs.Unbroken.{kept-unbroken, unbroken-left, unbroken-right}
use Rattle.settings_model.specs.declared.Settings.{Settings}
use Rattle.settings_model.specs.Checks.{radio_of, checks}
use Rattle.settings_model.specs.Laws.{Checked}
use Rattle.settings_model.proofs.LawsHold.{unbroken-where-checked}
use Rattle.row_model.specs.Checks.{reservations, routers, routers_fit, used_from, conditions}
use Rattle.plan_model.specs.Times.{superframes}
use Rattle.row_model.specs.Lines.{lines}
use Rattle.refusals.specs.Outcome.{Planned, Refused}
use Rattle.row_model.specs.Outcome.{outcome_of}
use Rattle.row_model.specs.Promise.{Keeps}
use Rattle.row_model.specs.Bounds.{Sound}
use Rattle.row_model.proofs.Conditions.{few-routers}
use Rattle.row_model.proofs.LawsHold.{every-plan-keeps}
use Rattle.row_plan_model.specs.Inner.{checks_before_slots}

-- ---- numbers 3 to 6

module _ (s : Settings) where
  -- settings that keep 3 and 4 are checked
  pub kept-checked : verdict (checks s) ≡ Ok tt → Checked s
  kept-checked k = (unbroken-where-checked s).0 (kept-unbroken (checks s) k)

  -- and settings that keep 3 to 6 are sound
  pub kept-sound : verdict (checks_before_slots s) ≡ Ok tt → Sound s
  unfolding checks_before_slots routers_fit
  kept-sound k =
      let u : Unbroken (checks s ++ reservations s ++ routers_fit s) = kept-unbroken (checks_before_slots s) k in
      let c : Checked s = (unbroken-where-checked s).0 (unbroken-left (checks s) (reservations s) (unbroken-left (checks s ++ reservations s) (routers_fit s) u)) in
      few-routers s c (ltb-false (superframes (radio_of s)) (routers s) (unbroken-right (checks s ++ reservations s) (routers_fit s) u).0)

  -- ---- number 7 behind them

  before-slots-broken : (r : Refusal) → verdict (checks_before_slots s) ≡ Err r → Err r ≡ verdict (conditions s)
  unfolding conditions checks_before_slots
  before-slots-broken r e = first-part-answers Err (Ok tt) (checks_before_slots s) (used_from s (suc s.h) 0) r e

  -- settings that keep all conditions keep numbers 3 to 6
  pub kept-before-slots : verdict (conditions s) ≡ Ok tt → verdict (checks_before_slots s) ≡ Ok tt
  kept-before-slots e = by (verdict (checks_before_slots s)) refl where
    by : (v : Result ⊤ Refusal) → verdict (checks_before_slots s) ≡ v → verdict (checks_before_slots s) ≡ Ok tt
    by (Ok tt) q = q
    by (Err r) q = broken-kept r (before-slots-broken r q ∙ e)

  -- ---- the plan

  pub broken-refused : (r : Refusal) → verdict (conditions s) ≡ Err r → Refused r ≡ outcome_of s
  unfolding outcome_of
  broken-refused r e = sym (answer-broken Refused (Planned (lines s)) (conditions s) r e)

  pub kept-planned : verdict (conditions s) ≡ Ok tt → Planned (lines s) ≡ outcome_of s
  unfolding outcome_of
  kept-planned e = sym (answer-kept Refused (Planned (lines s)) (conditions s) e)

-- ---- demand 3

pub plan-keeps : (s : Settings) → verdict (conditions s) ≡ Ok tt → Keeps s (lines s)
plan-keeps s e = every-plan-keeps s (lines s) (sym (kept-planned s e))
