-- A refusal as one line of English (document 02, E1): "the number's phrase, the column's name or the depth, and the values concerned".
-- Assumes nothing: these are definitions.
use Rattle.std.specs.Prelude.{ℕ, ◌-◌, Bool, cond, ◌&&◌, List, [], ◌∷◌, ◌++◌, map, leb, eqb, length, get_or, drop, Result, Ok, Err}
use Rattle.decimal_model.specs.Ascii.{ascii}
use Rattle.decimal_model.specs.Decimal.{decimal}
use Rattle.refusals.specs.declared.Refusal.{Refusal}
use Rattle.refusals.specs.Table.{sort_at}
use Rattle.refusals.specs.Refusals.{facts_of, place_of}
use Rattle.settings_model.specs.Columns.{every_column, column_at}

-- a column has a name
unfoldable pub named : ℕ → Bool
named k = leb 1 k && leb k (length every_column)

-- the name of a column; its number where it has none, which no row's refusal is about
unfoldable pub column_name : ℕ → List ℕ
column_name k = cond (named k) (ascii (column_at (k - 1)).name) (decimal k)

-- the phrase of the sort behind the first k of the table
unfoldable pub phrase_at : ℕ → List ℕ
phrase_at k = ascii (sort_at k).phrase

-- the parts of a phrase: bytes, and gaps for the place as a column's name, for the place as a number, and for a value
pub data Part : Type 0 where
  Byte : ℕ → Part
  Name : Part
  Place : Part
  Value : Part

unfoldable pub part_of : ℕ → Part
part_of b = cond (eqb b 64) Name (cond (eqb b 37) Place (cond (eqb b 35) Value (Byte b)))

-- what stands for a part, where the place and the next value are these
unfoldable pub part_text : ℕ → ℕ → Part → List ℕ
part_text place value (Byte b) = b ∷ []
part_text place value Name = column_name place
part_text place value Place = decimal place
part_text place value Value = decimal value

-- how many values a part takes
unfoldable pub taken : Part → ℕ
taken (Byte b) = 0
taken Name = 0
taken Place = 0
taken Value = 1

-- a phrase with its gaps filled
unfoldable pub filled : ℕ → List Part → List ℕ → List ℕ
filled place [] values = []
filled place (x ∷ xs) values = part_text place (get_or values 0 0) x ++ filled place xs (drop (taken x) values)

-- the line of a refusal, without LF: its sort's phrase, with its place and the values concerned
unfoldable pub reason : Refusal → List ℕ
reason r = filled (place_of r) (map part_of (phrase_at (facts_of r).sort)) ((facts_of r).first ∷ (facts_of r).second ∷ [])

-- the line of a row that is refused, or planned
unfoldable pub verdict_line : {A : Type 0} → Result A Refusal → List ℕ
verdict_line (Ok a) = ascii "The row is planned."
verdict_line (Err r) = reason r
