-- What the loop of `row_slots::slots::slots_fit` keeps. Assumes nothing.
use mathlib.Core.Path.{◌≡◌}
use Prim.Native.Nat.{suc, ◌-◌}
use Rattle.refusals.specs.Conditions.{verdict}
use Rattle.row_model.specs.Checks.{used_from}
use Rattle.row_slots.proofs.slots.slots_fit.Given as goal

abbrev pub invariant-loop-i : goal.invariant-loop-i
invariant-loop-i l = verdict (used_from l.fn.row.s (suc l.fn.row.s.h) 0) ≡ verdict (used_from l.fn.row.s (suc l.fn.row.s.h - l.i) l.i)
