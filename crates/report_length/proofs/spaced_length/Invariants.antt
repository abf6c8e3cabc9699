-- What the loops of `report_length::spaced_length` keep. Assumes nothing.
use mathlib.Core.Path.{◌≡◌}
use Prim.Native.Nat.{◌*◌, ◌≤◌}
use lib.ListN.{length, take}
use Rattle.report_model.specs.Inner.{spaced}
use Rattle.report_length.proofs.spaced_length.Given as goal

abbrev pub invariant-loop-number : goal.invariant-loop-number
invariant-loop-number l = (l.length ≤ 21 * l.number-index) × (l.length ≡ length (spaced (take l.number-index l.numbers)))
