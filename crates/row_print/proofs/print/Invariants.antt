-- What the loop of `row_print::print` keeps. Assumes nothing.
use Prim.Native.Nat.{◌+◌, ◌*◌, ◌≤◌}
use Rattle.buffer.proofs.Behind.{Put}
use Rattle.row_print.proofs.Paging.{behind}
use Rattle.row_print.proofs.print.Given as goal

abbrev pub invariant-loop-i : goal.invariant-loop-i
invariant-loop-i l = (l.end ≤ 56 + 170 * l.i) × Put l.initial.out 56 (behind l.table l.i) l.out l.end
