-- The lines of names (document 01, 'Rows of settings'; document 02, E5). Assumes nothing: these are definitions.
use Rattle.std.specs.Prelude.{ℕ, Bool, true, false, cond, List, [], map}
use Rattle.decimal_model.specs.Ascii.{ascii}
use Rattle.lines.specs.Text.{same, joined}
use Rattle.settings_model.specs.Columns.{Column, twelve, every_column}
use Rattle.row_read_model.specs.declared.Heading.{Heading}
use Rattle.row_read_model.specs.declared.Heading.TheVariants.{Twelve, Thirteen, Other}

-- "A line of names": those of columns, one space between
unfoldable pub name_line : List Column → List ℕ
name_line columns = joined (map (λ c. ascii c.name) columns)

-- which line of names a line, without its LF, is: `BO SO H NR NE OWN SINK BURST RATE HEAD DATA ACK`, or the same with `LOSS` behind it
unfoldable pub heading_of : List ℕ → Heading
heading_of line = cond (same line (name_line twelve)) Twelve (cond (same line (name_line every_column)) Thirteen Other)

-- it is neither
unfoldable pub is_other : Heading → Bool
is_other Twelve = false
is_other Thirteen = false
is_other Other = true

-- the columns that it names: "A name line of 12 names still stands for LOSS 0"
unfoldable pub columns_under : Heading → List Column
columns_under Twelve = twelve
columns_under Thirteen = every_column
columns_under Other = []
