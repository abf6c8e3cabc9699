-- What the loop of `row_check::routers_of` keeps. Assumes nothing.
use mathlib.Core.Path.{◌≡◌}
use Rattle.row_model.proofs.LoadBounds.{full}
use Rattle.row_check.proofs.routers_of.Given as goal

abbrev pub invariant-loop : goal.invariant-loop
invariant-loop l = l.routers ≡ full l.nr l.counter
