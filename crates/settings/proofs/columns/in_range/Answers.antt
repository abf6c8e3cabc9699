-- `settings::columns::in_range` meets its contract. Assumes nothing.
use mathlib.Core.Path.{◌≡◌, sym, ◌∙◌}
use Prim.Native.Nat.{◌+◌}
use native.Mathlib.Numerals.{add-one}
use native.Mathlib.Nat.{add-suc}
use native.Mathlib.Omega.{arith}
use lib.ListN.{length}
use Rattle.settings_model.proofs.Ranging.{ranged-out, ranged-in, ranged-all}
use Rattle.settings.proofs.columns.in_range.Goals as goal

pub returns-then-not-fits : goal.returns-then-not-fits
returns-then-not-fits c =
    let a = c.args in
    let k = c.loop-k.k in
    let e = sym c.fits.ensures ∙ c.if-not-fits.true in
    rw (c.loop-k.invariant, add-one) (sym (ranged-out a.before k a.numbers.now c.loop-k-test.true e))

pub loop-k-preserved : goal.loop-k-preserved
loop-k-preserved c =
    let a = c.args in
    let l = c.loop-k in
    let e = sym c.fits.ensures ∙ c.if-not-fits.false in
    rw (add-one, add-suc) (l.invariant ∙ ranged-in a.before l.k a.numbers.now c.loop-k-test.true e)

pub returns : goal.returns
returns c =
    let a = c.args in
    let l = c.loop-k in
    let z : l.k ≡ length a.numbers.now = omega (arith, c.loop-k-test.false) in
    let e = rw z at l.invariant in
    sym (e ∙ ranged-all (a.before + length a.numbers.now) a.numbers.now)
