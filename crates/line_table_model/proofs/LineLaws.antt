-- The laws of many lines, of a row's: each is that of any sort at width 9. Assumes nothing.
use mathlib.Core.Path.{◌≡◌}
use mathlib.Core.List.{List, [], ◌∷◌, ◌++◌}
use Prim.Native.Nat.{ℕ, suc, ◌*◌, ◌≤◌}
use lib.ListN.{length}
use lib.Seq.{sets}
use Rattle.plan_model.specs.declared.Line.{Line}
use Rattle.line_table_model.specs.Rows.{numbers_of, line_in, row_table, lines_in}
use Rattle.line_table_model.proofs.Numbers.{numbers-length, line-back, line-behind}
use Rattle.line_table_model.proofs.RowLaws.{rows-length, rows-put, rows_back, rows_more}

pub lines-length : (p : List Line) → length (row_table p) ≡ 9 * length p
lines-length p = rows-length 9 numbers_of line_in numbers-length line-back line-behind p

-- one line more, put behind those that are there
pub lines-put : (e : List ℕ) (ls : List Line) (l : Line) → sets (sets e 0 (row_table ls)) (9 * length ls) (numbers_of l) ≡ sets e 0 (row_table (ls ++ (l ∷ [])))
lines-put e ls l = rows-put 9 numbers_of line_in numbers-length line-back line-behind e ls l

-- a plan's numbers at the front of a table that has room for them are its lines
pub lines-back : (p : List Line) (e : List ℕ) → length (row_table p) ≤ length e → lines_in (sets e 0 (row_table p)) (length p) ≡ p
lines-back p e h = rows_back 9 numbers_of line_in numbers-length line-back line-behind p e h

-- one line more that stands in a table
pub lines_more : (ns : List ℕ) (n : ℕ) → lines_in ns (suc n) ≡ lines_in ns n ++ (line_in ns (9 * n) ∷ [])
lines_more ns n = rows_more 9 numbers_of line_in numbers-length line-back line-behind ns n
