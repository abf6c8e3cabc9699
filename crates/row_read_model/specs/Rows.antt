-- A row of settings: its values, and the conditions of numbers 1 and 2 in their order (document 01, 'Rows of settings'; document 02, E5).
-- Assumes nothing: these are definitions.
use Rattle.std.specs.Prelude.{ℕ, suc, true, not, List, [], ◌∷◌, ◌++◌, map, get_or, Result, Ok, Err}
use Rattle.decimal_model.specs.Number.{readable, spelled}
use Rattle.lines.specs.Text.{fields}
use Rattle.refusals.specs.declared.Refusal.{Refusal}
use Rattle.refusals.specs.declared.Refusal.TheVariants.{Names, Unreadable, TextAfter}
use Rattle.refusals.specs.Conditions.{Condition, condition, first_broken}
use Rattle.settings_model.specs.declared.Settings.{Settings}
use Rattle.settings_model.specs.Columns.{Column}
use Rattle.row_read_model.specs.declared.Heading.{Heading}
use Rattle.row_read_model.specs.Names.{heading_of, is_other, columns_under}

-- number 1: "name line differs or is missing"
unfoldable pub headed : Heading → List (Condition Refusal)
headed heading = condition (is_other heading) Names ∷ []

-- number 2, for these columns, the first of which has number k, and what stands in them: "value unreadable or missing; text after
-- the last", at the column where that text stands: 13 under 12 names; E5: "text after the 13th value has place 14"
unfoldable pub columns_read : ℕ → List Column → List (List ℕ) → List (Condition Refusal)
columns_read k [] [] = []
columns_read k [] (f ∷ fs) = condition true (TextAfter k) ∷ []
columns_read k (c ∷ cs) [] = condition true (Unreadable k) ∷ []
columns_read k (c ∷ cs) (f ∷ fs) = condition (not (readable f)) (Unreadable k) ∷ columns_read (suc k) cs fs

-- what the bytes between a row's spaces spell (of use where all of number 2 holds)
unfoldable pub values_in : List ℕ → List ℕ
values_in row = map spelled (fields row)

-- the values by their columns; LOSS is 0 where there is no 13th
unfoldable pub settings_of : List ℕ → Settings
settings_of vs = record {
  bo = get_or vs 0 0;
  so = get_or vs 1 0;
  h = get_or vs 2 0;
  nr = get_or vs 3 0;
  ne = get_or vs 4 0;
  own = get_or vs 5 0;
  sink = get_or vs 6 0;
  burst = get_or vs 7 0;
  rate = get_or vs 8 0;
  head = get_or vs 9 0;
  payload = get_or vs 10 0;
  ack = get_or vs 11 0;
  loss = get_or vs 12 0;
}

-- numbers 1 and 2 of a row under a line of names, without its LF, in their order
unfoldable pub conditions : Heading → List ℕ → List (Condition Refusal)
conditions heading row = headed heading ++ columns_read 1 (columns_under heading) (fields row)

-- its settings, which nobody has checked, or the first refusal
unfoldable pub row_under : Heading → List ℕ → Result Settings Refusal
row_under heading row = first_broken Err (Ok (settings_of (values_in row))) (conditions heading row)

-- both as bytes, without their LF
unfoldable pub named_row : List ℕ → List ℕ → Result Settings Refusal
named_row line row = row_under (heading_of line) row
