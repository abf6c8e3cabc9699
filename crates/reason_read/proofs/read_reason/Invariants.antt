-- What the loop of `reason_read::read_reason` keeps. Assumes nothing.
use mathlib.Core.Path.{◌≡◌}
use lib.ListN.{drop}
use Rattle.refusals.specs.Table.{table}
use Rattle.reason_model.specs.Reading.{read_from, read_reason}
use Rattle.reason_read.proofs.read_reason.Given as goal

abbrev pub invariant-loop-sort : goal.invariant-loop-sort
invariant-loop-sort l = read_from (drop l.sort table) l.line ≡ read_reason l.line
