-- `reason_table::columns::put_column` meets its contract. Assumes nothing.
use mathlib.Core.Path.{sym}
use Rattle.reason_model.proofs.Tables.{name-otherwise}
use Rattle.reason_table.proofs.columns.put_column.Goals as goal

pub returns-in-None-clause-value : goal.returns-in-None-clause-value
returns-in-None-clause-value c = rw (name-otherwise c.args.column c.in-None.ensures, sym c.from.ensures) c.put_number.ensures.value

pub returns-in-None-clause-out_after : goal.returns-in-None-clause-out_after
returns-in-None-clause-out_after c = rw (name-otherwise c.args.column c.in-None.ensures, sym c.from.ensures) c.put_number.ensures.out_after
