-- What the loop of `row_loads::loads::downward_links` keeps. Assumes nothing.
use mathlib.Core.Path.{◌≡◌}
use Rattle.row_plan_model.specs.Inner.{HeldBelow, coming, link_down}
use Rattle.row_loads.proofs.loads.downward_links.Given as goal

abbrev pub invariant-loop-i : goal.invariant-loop-i
invariant-loop-i l = record {
  passing : l.passing ≡ coming l.s l.i;
  held : HeldBelow (link_down l.s) l.i l.down;
}
