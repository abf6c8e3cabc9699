-- The depths that are left: H − i falls. Assumes nothing.
use Prim.Native.Nat.{◌-◌}
use Rattle.row_loads.proofs.loads.+upward_links.Given as goal

abbrev pub decreases-upward_links : goal.decreases-upward_links
decreases-upward_links l = l.s.h - l.i
