-- What the loop of `row_read::values::read_values` keeps. Assumes nothing.
use mathlib.Core.Path.{◌≡◌}
use mathlib.Core.List.{List}
use lib.ListN.{length}
use Rattle.settings_model.specs.Columns.{Column}
use Rattle.row_read_model.proofs.Taking.{Taken}
use Rattle.row_read.proofs.Parting.{values_left}
use Rattle.row_read.proofs.values.read_values.Given as goal

abbrev pub invariant-loop-k : goal.invariant-loop-k
invariant-loop-k l = (cs : List Column) → l.columns ≡ length cs → Taken cs l.row l.numbers (values_left l.values) l.k
