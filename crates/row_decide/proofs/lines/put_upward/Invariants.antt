-- What the loop of `row_decide::lines::put_upward` keeps. Assumes nothing.
use mathlib.Core.Path.{◌≡◌}
use Prim.Native.Nat.{◌+◌, ◌*◌, ◌≤◌}
use Rattle.row_model.specs.Lines.{up_lines}
use Rattle.row_plan_model.specs.Pages.{page, filled}
use Rattle.row_decide.proofs.lines.put_upward.Given as goal

abbrev pub invariant-loop-i : goal.invariant-loop-i
invariant-loop-i l = record {
  lines : filled (page l.w l.table) (up_lines l.fn.row.s l.i) ≡ filled (page l.initial.w l.initial.table) (up_lines l.fn.row.s l.fn.row.s.h);
  end : l.w.end + 9 * l.i ≤ 9 + 9 * l.fn.row.s.h;
}
