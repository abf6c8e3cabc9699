-- A row of twelve values and the same row with LOSS 0 have the same outcome. Assumes nothing.
use mathlib.Core.Path.{◌≡◌, ap, sym, ◌∙◌}
use mathlib.Core.List.{List}
use Prim.Native.Nat.{ℕ}
use lib.ListN.{length}
use Rattle.lines.specs.Text.{fields}
use Rattle.refusals.specs.declared.Refusal.{Refusal}
use Rattle.refusals.specs.Conditions.{first_broken}
use Rattle.refusals.specs.Outcome.{Planned, Refused}
use Rattle.row_read_model.specs.declared.Heading.{Heading}
use Rattle.row_read_model.specs.declared.Heading.TheVariants.{Twelve, Thirteen}
use Rattle.row_read_model.specs.Names.{is_other, columns_under}
use Rattle.row_read_model.specs.Rows.{headed}
use Rattle.row_read_model.specs.Laws.{with_zero}
use Rattle.row_read_model.proofs.WithoutLoss.{written-without-loss, settings-without-loss, names-of-twelve, names-of-thirteen}
use Rattle.row_model.specs.Checks as balanced
use Rattle.row_model.specs.Lines.{lines}
use Rattle.row_answer_model.specs.Outcomes.{spelled_settings, row_conditions, row_outcome, named_outcome}
use Rattle.row_answer_model.specs.Laws.{SameWithoutLoss}

-- their conditions come to the same, whatever is made of them
pub settings-same : (row : List ℕ) → length (fields row) ≡ 12 → spelled_settings (with_zero row) ≡ spelled_settings row
unfolding spelled_settings
settings-same row e = settings-without-loss row e

pub conditions-same : {A : Type 0} (f : Refusal → A) (a : A) (row : List ℕ) → length (fields row) ≡ 12
    → first_broken f a (row_conditions Thirteen (with_zero row)) ≡ first_broken f a (row_conditions Twelve row)
unfolding row_conditions headed is_other columns_under first_broken
conditions-same f a row e = rw (settings-same row e) (written-without-loss f a row (balanced.conditions (spelled_settings row)) e)

rows-without-loss : (row : List ℕ) → length (fields row) ≡ 12 → row_outcome Thirteen (with_zero row) ≡ row_outcome Twelve row
unfolding row_outcome
rows-without-loss row e = rw (settings-same row e) (conditions-same Refused (Planned (lines (spelled_settings row))) row e)

pub same-without-loss : SameWithoutLoss
unfolding named_outcome
same-without-loss = record {
  rows = rows-without-loss;
  named = λ row e. ap (λ (h : Heading). row_outcome h (with_zero row)) names-of-thirteen ∙ rows-without-loss row e ∙ sym (ap (λ (h : Heading). row_outcome h row) names-of-twelve);
}
