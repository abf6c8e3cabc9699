-- What is decided, printed: the laws of any sort of line, of a row's. Assumes nothing.
use Rattle.std.specs.Prelude.{Ok, Err}
use mathlib.Core.Path.{◌≡◌}
use mathlib.Core.List.{List}
use Prim.Native.Nat.{ℕ, ◌*◌, ◌/◌, ◌≤◌, min}
use native.Mathlib.Omega.{arith}
use lib.ListN.{length}
use lib.Seq.{sets}
use Rattle.refusals.specs.declared.Refusal.{Refusal}
use Rattle.refusals.specs.Outcome.{Refused}
use Rattle.plan_model.specs.Plans.{answer, written}
use Rattle.line_table_model.proofs.Decided as decided
use Rattle.line_table_model.specs.Rows.{row_table, lines_in}
use Rattle.line_table_model.proofs.LineLaws.{lines-length, lines-back}
use Rattle.row_model.specs.Outcome.{RowOutcome}

-- how many lines the numbers of a table are
abbrev pub count : ℕ → ℕ
count n = min (n / 9) 26

pub counted : (n : ℕ) → 9 * n ≤ 234 → count (9 * n) ≡ n
counted n h = omega arith

module _ (o : RowOutcome) where
  pub decided-refused : (r : Refusal) → Err r ≡ answer row_table o → Refused r ≡ o
  decided-refused = decided.decided-refused 9 234 row_table lines_in count lines-length lines-back counted o

  pub decided-back : (n : ℕ) (e table : List ℕ) → Ok n ≡ answer row_table o → n ≤ 234 → 234 ≤ length e → table ≡ sets e 0 (written row_table o)
      → decided.Back 9 234 row_table lines_in count lines-length lines-back counted o n table
  decided-back = decided.decided-back 9 234 row_table lines_in count lines-length lines-back counted o
