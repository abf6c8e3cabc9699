-- `row_check::routers_of` meets its contract. Assumes nothing.
use mathlib.Core.Path.{sym}
use native.Mathlib.Numerals.{add-one}
use native.Mathlib.Nat.{mul-le-mul}
use native.Mathlib.Omega.{arith}
use Prim.Native.Nat.{◌^◌, ◌≤◌}
use Rattle.row_model.proofs.LoadBounds.{full-one, full-more}
use Rattle.row_plan_model.proofs.Conditions.{full-fits}
use Rattle.row_check.proofs.routers_of.Goals as goal

pub loop-init : goal.loop-init
loop-init c = sym (full-one c.args.nr)

pub overflow_mul-routers : goal.overflow_mul-routers
overflow_mul-routers c =
    let n : c.loop.routers ≤ 8 ^ 12 = omega (arith, full-fits c.args.nr c.loop.counter c.requires.nr_bound (omega arith)) in
    omega (arith, mul-le-mul c.requires.nr_bound n)

pub overflow_add-routers : goal.overflow_add-routers
overflow_add-routers c =
    let n : c.loop.routers ≤ 8 ^ 12 = omega (arith, full-fits c.args.nr c.loop.counter c.requires.nr_bound (omega arith)) in
    omega (arith, mul-le-mul c.requires.nr_bound n)

pub loop-preserved : goal.loop-preserved
loop-preserved c = rw (c.loop.invariant, add-one c.loop.counter) (sym (full-more c.args.nr c.loop.counter))
