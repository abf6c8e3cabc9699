-- The outcome of a row is that of the settings that were read. Assumes nothing.
use Rattle.std.specs.Prelude.{Result, Ok, Err}
use mathlib.Core.Path.{◌≡◌, refl, ap, sym, ◌∙◌}
use mathlib.Core.Bool.{Bool, true, false, cond}
use mathlib.Core.List.{List, [], ◌∷◌, ◌++◌, append_assoc}
use Prim.Native.Nat.{ℕ}
use Rattle.lines.specs.Text.{fields}
use Rattle.refusals.specs.declared.Refusal.{Refusal}
use Rattle.refusals.specs.Conditions.{Condition, first_broken}
use Rattle.refusals.proofs.Answering.{first-append}
use Rattle.settings_model.specs.declared.Settings.{Settings}
use Rattle.row_read_model.specs.declared.Heading.{Heading}
use Rattle.row_read_model.specs.Names.{heading_of, columns_under}
use Rattle.row_read_model.specs.Rows as rows
use Rattle.row_model.specs.Checks as balanced
use Rattle.row_model.specs.Lines.{lines}
use Rattle.refusals.specs.Outcome.{Planned, Refused}
use Rattle.row_model.specs.Outcome.{RowOutcome, outcome_of}
use Rattle.row_answer_model.specs.Outcomes.{spelled_settings, row_conditions, row_outcome, named_outcome}

-- the outcome of a row that was read, or refused while it was read
unfoldable read_outcome : Result Settings Refusal → RowOutcome
read_outcome (Ok s) = outcome_of s
read_outcome (Err r) = Refused r

-- what is made of a row goes through its conditions
outcome-through : (s : Settings) (cs : List (Condition Refusal))
    → read_outcome (first_broken Err (Ok s) cs) ≡ first_broken Refused (outcome_of s) cs
unfolding first_broken read_outcome
outcome-through s [] = refl
outcome-through s (c ∷ cs) = by c.broken (outcome-through s cs) where
  by : (b : Bool) → read_outcome (first_broken Err (Ok s) cs) ≡ first_broken Refused (outcome_of s) cs
      → read_outcome (cond b (Err c.refusal) (first_broken Err (Ok s) cs))
      ≡ cond b (Refused c.refusal) (first_broken Refused (outcome_of s) cs)
  by true e = refl
  by false e = e

row-outcome : (heading : Heading) (r : List ℕ) → read_outcome (rows.row_under heading r) ≡ row_outcome heading r
unfolding row_outcome row_conditions spelled_settings outcome_of rows.row_under rows.conditions
row-outcome heading r =
    let s = rows.settings_of (rows.values_in r) in
    let t = rows.columns_read 1 (columns_under heading) (fields r) in
    rw (sym (append_assoc (rows.headed heading) t (balanced.conditions s)))
    (outcome-through s (rows.headed heading ++ t) ∙ sym (first-append Refused (Planned (lines s)) (rows.headed heading ++ t) (balanced.conditions s)))

-- what comes of a row that is read, and of one that is refused while it is read
module _ (heading : Heading) (r : List ℕ) where
  pub row_read : (s : Settings) → Ok s ≡ rows.row_under heading r → outcome_of s ≡ row_outcome heading r
  unfolding read_outcome
  row_read s e = ap read_outcome e ∙ row-outcome heading r

  pub row_refused : (x : Refusal) → Err x ≡ rows.row_under heading r → Refused x ≡ row_outcome heading r
  unfolding read_outcome
  row_refused x e = ap read_outcome e ∙ row-outcome heading r

module _ (names r : List ℕ) where
  pub named_read : (s : Settings) → Ok s ≡ rows.named_row names r → outcome_of s ≡ named_outcome names r
  unfolding named_outcome rows.named_row
  named_read s e = row_read (heading_of names) r s e

  pub named_refused : (x : Refusal) → Err x ≡ rows.named_row names r → Refused x ≡ named_outcome names r
  unfolding named_outcome rows.named_row
  named_refused x e = row_refused (heading_of names) r x e
