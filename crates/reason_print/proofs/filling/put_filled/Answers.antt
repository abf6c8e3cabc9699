-- `reason_print::filling::put_filled` meets its contract. Assumes nothing.
use Rattle.std.proofs.Common.{rules, get_or}
use mathlib.Core.Path.{◌≡◌, refl}
use mathlib.Core.List.{map}
use Prim.Native.Nat.{◌≤◌}
use native.Mathlib.Omega.{arith}
use Rattle.reason_model.specs.Reasons.{part_of, taken}
use Rattle.reason_model.proofs.Printing.{filled-short}
use Rattle.reason_model.proofs.Putting.{begun_more, begun_all, begun-small}
use Rattle.reason_print.proofs.filling.put_filled.Goals as goal

pub overflow_add-at : goal.overflow_add-at
overflow_add-at c =
    let a = c.args in
    let l = c.loop-part in
    let p = c.put_part-at in
    let s = begun-small a.out.now a.place a.phrase.now a.values.now l.out l.at l.used l.part-index l.invariant c.loop-part-test.true (get_or a.values.now l.used 0) refl p.result p.ensures.value (omega arith) (λ i. omega (arith, c.type_inv.values i)) in
    omega (arith, s, c.requires)

pub loop-part-preserved : goal.loop-part-preserved
unfolding part_of taken
loop-part-preserved c =
    let a = c.args in
    let l = c.loop-part in
    let p = c.put_part-at in
    let t : c.from-used.result ≡ taken (part_of (get_or a.phrase.now l.part-index 0)) = search rules in
    let m : c.from-used.result ≤ 1 = search rules in
    begun_more a.out.now a.place a.phrase.now a.values.now l.out l.at l.used l.part-index l.invariant c.loop-part-test.true (get_or a.values.now l.used 0) refl p.result p.ensures.value _ _ p.ensures.out_after t m

pub returns-clause-value : goal.returns-clause-value
returns-clause-value c =
    let a = c.args in
    let l = c.loop-part in
    (begun_all a.out.now a.place a.phrase.now a.values.now l.out l.at l.used l.part-index l.invariant c.loop-part-test.false).0

pub returns-clause-upper_bound : goal.returns-clause-upper_bound
returns-clause-upper_bound c =
    let a = c.args in
    let l = c.loop-part in
    let e = begun_all a.out.now a.place a.phrase.now a.values.now l.out l.at l.used l.part-index l.invariant c.loop-part-test.false in
    omega (arith, e.0, filled-short a.place (omega arith) (map part_of a.phrase.now) a.values.now (λ i. omega (arith, c.type_inv.values i)))

pub returns-clause-out_after : goal.returns-clause-out_after
returns-clause-out_after c =
    let a = c.args in
    let l = c.loop-part in
    (begun_all a.out.now a.place a.phrase.now a.values.now l.out l.at l.used l.part-index l.invariant c.loop-part-test.false).1
