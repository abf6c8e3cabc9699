-- `row_slots::slots::slots_fit` meets its contract. Assumes nothing.
use Rattle.std.proofs.lemmas.Result.{err_from_is_err_and}
use native.Mathlib.Omega.{arith}
use mathlib.Core.Path.{sym, ◌∙◌}
use Prim.Native.Nat.{◌+◌}
use Rattle.row_plan_model.proofs.Conditions.{depths-broken, depths-next, depths-end}
use Rattle.row_slots.proofs.slots.slots_fit.Goals as goal

pub returns-in_err-depth_fits : goal.returns-in_err-depth_fits
returns-in_err-depth_fits c =
    let p = err_from_is_err_and c.from_residual.result c.from_residual.ensures.1 in
    rw (p.1, p.2) (depths-broken c.args.row.now.s c.loop-i.i _ (omega arith) (sym c.in_err-depth_fits.ensures) ∙ sym c.loop-i.invariant)

pub returns-in_ok-depth_fits : goal.returns-in_ok-depth_fits
returns-in_ok-depth_fits c =
    let i = c.loop-i.i in
    depths-end c.args.row.now.s (i + 1) (omega arith) ∙ depths-next c.args.row.now.s i (omega arith) (sym c.in_ok-depth_fits.ensures) ∙ sym c.loop-i.invariant

pub loop-i-preserved : goal.loop-i-preserved
loop-i-preserved c = c.loop-i.invariant ∙ sym (depths-next c.args.row.now.s c.loop-i.i (omega arith) (sym c.in_ok-depth_fits.ensures))
