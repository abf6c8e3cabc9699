-- What the loops of `report::line::put_spaced` keep. Assumes nothing.
use Prim.Native.Nat.{◌+◌, ◌*◌, ◌≤◌}
use lib.ListN.{take}
use Rattle.buffer.proofs.Behind.{Put}
use Rattle.report_model.specs.Inner.{spaced}
use Rattle.report.proofs.line.put_spaced.Given as goal

abbrev pub invariant-loop-number : goal.invariant-loop-number
invariant-loop-number l = (l.end ≤ l.at + 21 * l.number-index) × Put l.initial.out l.at (spaced (take l.number-index l.numbers)) l.out l.end
