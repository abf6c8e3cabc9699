-- What the loop of `reason_read::names::column_in` keeps. Assumes nothing.
use mathlib.Core.Path.{◌≡◌}
use Prim.Native.Nat.{◌-◌}
use lib.ListN.{drop}
use Rattle.settings_model.specs.Columns.{every_column}
use Rattle.reason_model.specs.Reading.{place_in, column_from, unnamed, column_in}
use Rattle.reason_read.proofs.names.column_in.Given as goal

abbrev pub invariant-loop-column : goal.invariant-loop-column
invariant-loop-column l = column_from (unnamed (place_in l.word)) l.column (drop (l.column - 1) every_column) l.word ≡ column_in l.word
