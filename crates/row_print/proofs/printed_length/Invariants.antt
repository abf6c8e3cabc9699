-- What the loop of `row_print::printed_length` keeps. Assumes nothing.
use mathlib.Core.Path.{◌≡◌}
use Prim.Native.Nat.{◌+◌, ◌*◌, ◌≤◌}
use lib.ListN.{length}
use Rattle.row_print.proofs.Paging.{behind}
use Rattle.row_print.proofs.printed_length.Given as goal

abbrev pub invariant-loop-i : goal.invariant-loop-i
invariant-loop-i l = (l.end ≤ 56 + 170 * l.i) × (l.end ≡ 56 + length (behind l.table l.i))
