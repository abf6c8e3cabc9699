-- `decimal::put_number` meets its contract. Assumes nothing.
use mathlib.Core.Path.{refl, ◌∙◌}
use native.Mathlib.Omega.{arith}
use Rattle.decimal_model.proofs.Writing.{at-most-twenty}
use Rattle.decimal_model.proofs.Putting.{length-one, length_more, put_one, put-more}
use Rattle.decimal.proofs.put_number.Goals as goal

pub returns-then-n-lt10-clause-value : goal.returns-then-n-lt10-clause-value
returns-then-n-lt10-clause-value c =
    let put = c in
    let test = c in
    let a = c.args in length-one a.n c.if-n-lt10.true

pub returns-then-n-lt10-clause-out_after : goal.returns-then-n-lt10-clause-out_after
returns-then-n-lt10-clause-out_after c =
    let put = c in
    let test = c in
    let a = c.args in put_one a.out.now _ a.at a.n c.if-n-lt10.true c.put_digit.ensures

pub loop-rest-init : goal.loop-rest-init
loop-rest-init c =
    let start = c in
    let e = c.digits_of-count.ensures in
    (e, omega (arith, e, at-most-twenty c.args.n c.ranges.n.fits), refl)

pub overflow_sub-k : goal.overflow_sub-k
overflow_sub-k c = omega (arith, c.loop-rest.invariant.0, length_more c.loop-rest.rest c.loop-rest-test.true)

pub loop-rest-preserved : goal.loop-rest-preserved
loop-rest-preserved c =
    let put = c in
    let test = c in
    let l = c.loop-rest in
    let a = c.args in
    let h = c.loop-rest-test.true in
    let m = length_more l.rest h in (
      omega (arith, l.invariant.0, m),
      omega arith,
      put-more l.out _ a.at _ l.rest h c.put_four.ensures (omega (arith, l.invariant.0, m)) ∙ l.invariant.2,
    )
