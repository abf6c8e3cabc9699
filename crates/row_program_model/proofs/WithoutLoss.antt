-- Rows of twelve values and the same rows with LOSS 0 print the same. Assumes nothing.
use mathlib.Core.Path.{◌≡◌, refl, ap₂, sym, ◌∙◌}
use mathlib.Core.Bool.{true, false, and-eq-true_iff}
use mathlib.Core.List.{List, [], ◌∷◌, ◌++◌, map}
use Prim.Native.Nat.{ℕ, ◌≤◌}
use native.Mathlib.Omega.{arith}
use lib.Dec.{eqb}
use lib.ListN.{length, length-append}
use borrow.Author.Tests.{eqb-true, le-ltb}
use Rattle.decimal_model.specs.Ascii.{ascii}
use Rattle.lines.specs.Text.{fields, joined, lines, ended}
use Rattle.lines.specs.Laws.{lacks, all_lack}
use Rattle.lines.proofs.Parting.{all-lack-head, lacks_both, lines-of-text}
use Rattle.refusals.specs.Conditions.{first_broken}
use Rattle.settings_model.specs.Columns.{twelve, every_column}
use Rattle.row_read_model.specs.declared.Heading.{Heading}
use Rattle.row_read_model.specs.declared.Heading.TheVariants.{Twelve, Thirteen}
use Rattle.row_read_model.specs.Names.{name_line, heading_of, is_other}
use Rattle.row_read_model.specs.Rows.{headed}
use Rattle.row_read_model.specs.Laws.{with_zero}
use Rattle.row_model.specs.Outcome.{RowOutcome}
use Rattle.row_read_model.proofs.WithoutLoss.{names-of-twelve, names-of-thirteen}
use Rattle.row_answer_model.proofs.WithoutLoss as answers
use Rattle.row_program_model.specs.declared.Style.{Style}
use Rattle.row_program_model.specs.Output.{printed, rows_printed, heading_in, input_conditions, output}
use Rattle.program_model.specs.Printed.{too_long}
use Rattle.row_program_model.specs.Laws.{all_twelve, SameWithoutLoss}

rows_same : (s : Style) (rows : List (List ℕ)) → all_twelve rows ≡ true → rows_printed s Thirteen (map with_zero rows) ≡ rows_printed s Twelve rows
unfolding rows_printed all_twelve
rows_same s [] e = refl
rows_same s (r ∷ rs) e =
    let h = (and-eq-true_iff (eqb (length (fields r)) 12) (all_twelve rs)).0 e in
    let o = (answers.same-without-loss).rows r (eqb-true (length (fields r)) 12 h.0) in
    ap₂ (λ (a : RowOutcome) (b : List ℕ). printed s a ++ b) o (rows_same s rs h.1)

-- an input of a line of names and rows, none of which has an LF
module _ (s : Style) (heading : Heading) (names : List ℕ) (rows : List (List ℕ)) (few : length (ended (names ∷ rows)) ≤ 65536) where
  input : List ℕ
  input = ended (names ∷ rows)

  rows-printed : heading_of names ≡ heading → is_other heading ≡ false → lines input ≡ names ∷ rows → output s input ≡ rows_printed s heading rows
  unfolding output input_conditions too_long heading_in headed first_broken input
  rows-printed h o e = rw (le-ltb 65536 (length input) few, e, h, o)

-- the rows with LOSS 0 have no LF either
zeros-lack : (rows : List (List ℕ)) → all_lack 10 rows ≡ true → all_lack 10 (map with_zero rows) ≡ true
unfolding all_lack with_zero ascii lacks
zeros-lack [] e = refl
zeros-lack (r ∷ rs) e =
    let h = all-lack-head 10 r rs e in
    (and-eq-true_iff (lacks 10 (with_zero r)) (all_lack 10 (map with_zero rs))).1 (lacks_both 10 r (32 ∷ 48 ∷ []) h.0 refl, zeros-lack rs h.1)

-- and are no shorter
zeros-longer : (rows : List (List ℕ)) → length (ended rows) ≤ length (ended (map with_zero rows))
unfolding ended with_zero ascii
zeros-longer [] = omega arith
zeros-longer (r ∷ rs) =
    omega (
      arith,
      zeros-longer rs,
      length-append r (10 ∷ ended rs),
      length-append (r ++ 32 ∷ 48 ∷ []) (10 ∷ ended (map with_zero rs)),
      length-append r (32 ∷ 48 ∷ []),
    )

names-longer : (rows : List (List ℕ)) → length (ended (name_line twelve ∷ rows)) ≤ length (ended (name_line every_column ∷ map with_zero rows))
unfolding ended name_line joined twelve every_column ascii
names-longer rows = omega (arith, zeros-longer rows)

-- a line of names has no LF
with-names : (names : List ℕ) (rows : List (List ℕ)) → lacks 10 names ≡ true → all_lack 10 rows ≡ true → lines (ended (names ∷ rows)) ≡ names ∷ rows
unfolding all_lack
with-names names rows n e = lines-of-text (names ∷ rows) ((and-eq-true_iff (lacks 10 names) (all_lack 10 rows)).1 (n, e))

twelve-printed : (s : Style) (rows : List (List ℕ)) → all_lack 10 rows ≡ true → length (ended (name_line twelve ∷ rows)) ≤ 65536
    → output s (ended (name_line twelve ∷ rows)) ≡ rows_printed s Twelve rows
unfolding is_other name_line joined twelve ascii lacks input
twelve-printed s rows e few = rows-printed s Twelve (name_line twelve) rows few names-of-twelve refl (with-names (name_line twelve) rows refl e)

thirteen-printed : (s : Style) (rows : List (List ℕ)) → all_lack 10 rows ≡ true → length (ended (name_line every_column ∷ rows)) ≤ 65536
    → output s (ended (name_line every_column ∷ rows)) ≡ rows_printed s Thirteen rows
unfolding is_other name_line joined twelve every_column ascii lacks input
thirteen-printed s rows e few = rows-printed s Thirteen (name_line every_column) rows few names-of-thirteen refl (with-names (name_line every_column) rows refl e)

pub same-without-loss : SameWithoutLoss
same-without-loss = record {
  rows = rows_same;
  inputs = λ s rows e l few.
      thirteen-printed s (map with_zero rows) (zeros-lack rows l) few
      ∙ rows_same s rows e
      ∙ sym (twelve-printed s rows l (omega (arith, names-longer rows)));
}
