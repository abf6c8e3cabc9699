-- What the loops of `settings::columns::in_range` keep. Assumes nothing.
use Rattle.refusals.specs.Conditions.{verdict}
use mathlib.Core.Path.{◌≡◌}
use Prim.Native.Nat.{◌+◌}
use lib.ListN.{drop}
use Rattle.settings_model.specs.Checks.{ranged}
use Rattle.settings.proofs.columns.in_range.Given as goal

abbrev pub invariant-loop-k : goal.invariant-loop-k
invariant-loop-k l = verdict (ranged l.before l.numbers) ≡ verdict (ranged (l.before + l.k) (drop l.k l.numbers))
