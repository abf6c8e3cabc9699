-- `row_read::values::column_count` meets its contract. Assumes nothing.
use mathlib.Core.Path.{refl}
use Rattle.settings_model.specs.Columns.{twelve, every_column}
use Rattle.row_read_model.specs.Names.{columns_under}
use Rattle.row_read.proofs.values.column_count.Goals as goal

pub returns-in-Twelve-clause-value : goal.returns-in-Twelve-clause-value
unfolding columns_under twelve every_column
returns-in-Twelve-clause-value c = rw c.in-Twelve.is (refl)

pub returns-in-Thirteen-clause-value : goal.returns-in-Thirteen-clause-value
unfolding columns_under twelve every_column
returns-in-Thirteen-clause-value c = rw c.in-Thirteen.is (refl)

pub returns-in-Other-clause-value : goal.returns-in-Other-clause-value
unfolding columns_under twelve every_column
returns-in-Other-clause-value c = rw c.in-Other.is (refl)
