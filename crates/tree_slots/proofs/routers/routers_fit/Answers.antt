-- `tree_slots::routers::routers_fit` meets its contract. Assumes nothing.
use mathlib.Core.Path.{sym, ◌∙◌}
use Prim.Native.Nat.{◌-◌}
use native.Mathlib.Omega.{arith}
use Rattle.std.proofs.lemmas.Result.{err_from_is_err_and}
use Rattle.tree_slots.proofs.Fitting.{routers-broken, routers-next, routers-end}
use Rattle.tree_slots.proofs.routers.routers_fit.Goals as goal

pub returns-in_err-router_fits : goal.returns-in_err-router_fits
returns-in_err-router_fits c =
    let x = c.args in
    let p = err_from_is_err_and c.from_residual.result c.from_residual.ensures.1 in
    rw (p.1, p.2) (routers-broken x.so x.counts.now x.used.now (x.n - 1) c.loop-router.router _ (omega (arith, c.loop-router-test.true)) (sym c.in_err-router_fits.ensures) ∙ sym c.loop-router.invariant)

pub loop-router-preserved : goal.loop-router-preserved
loop-router-preserved c =
    let x = c.args in
    c.loop-router.invariant ∙ sym (routers-next x.so x.counts.now x.used.now (x.n - 1) c.loop-router.router (omega (arith, c.loop-router-test.true)) (sym c.in_ok-router_fits.ensures))

pub returns : goal.returns
returns c = let x = c.args in routers-end x.so x.counts.now x.used.now (x.n - 1) c.loop-router.router (omega (arith, c.loop-router-test.false, c.requires.le_n)) ∙ sym c.loop-router.invariant
