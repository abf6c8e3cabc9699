-- What the loop of `row_decide::lines::put_downward` keeps. Assumes nothing.
use mathlib.Core.Path.{◌≡◌}
use Prim.Native.Nat.{◌+◌, ◌-◌, ◌*◌, ◌≤◌}
use Rattle.row_plan_model.specs.Pages.{page, filled, down_lines_from}
use Rattle.row_decide.proofs.lines.put_downward.Given as goal

abbrev pub invariant-loop-i : goal.invariant-loop-i
invariant-loop-i l = record {
  lines : filled (page l.w l.table) (down_lines_from l.fn.row.s (l.fn.row.s.sink - l.i) l.i) ≡ filled (page l.initial.w l.initial.table) (down_lines_from l.fn.row.s l.fn.row.s.sink 0);
  end : l.w.end ≤ 117 + 9 * l.i;
}
