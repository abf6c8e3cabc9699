-- `reason_table::columns::name` meets its contract. Assumes nothing.
use native.Mathlib.Omega.{arith}
use Rattle.decimal_model.specs.Ascii.{ascii}
use Rattle.settings_model.specs.Columns.{twelve, every_column}
use Rattle.reason_model.specs.Inner.{names}
use Rattle.reason_model.proofs.Tables.{text-listed, name-listed, named-inside, named-below, named-above}
use Rattle.reason_table.proofs.columns.name.Goals as goal
use Rattle.reason_table.proofs.columns.name.Goals.{in_default-via-then-column-lt1, in_default-via-else-column-lt1+else-column-lt14}

pub returns-in-1-to-13 : goal.returns-in-1-to-13
unfolding twelve every_column names ascii
returns-in-1-to-13 c =
    let k = c.args.column in
    (named-inside k (omega arith) (omega arith), rw text-listed (name-listed k (omega arith) (omega arith)))

pub returns-in_default : goal.returns-in_default
returns-in_default c =
    elim c.in_default.branch [
      | in_default-via-then-column-lt1 w ↦ named-below c.args.column (omega arith)
      | in_default-via-else-column-lt1+else-column-lt14 w ↦ named-above c.args.column (omega arith)
    ]
