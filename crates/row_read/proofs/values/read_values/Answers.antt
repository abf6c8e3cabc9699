-- `row_read::values::read_values` meets its contract. Assumes nothing.
use Rattle.std.proofs.Common.{rules, tests}
use Rattle.std.proofs.lemmas.Result.{err_from_is_err_and}
use mathlib.Core.Path.{refl, sym, ◌∙◌}
use native.Mathlib.Omega.{arith}
use Rattle.row_read_model.specs.Names.{columns_under}
use Rattle.row_read_model.proofs.Taking.{zeros-read, taken_none, taken-unreadable, taken-value, taken-after, taken-all, taken-settings}
use Rattle.row_read.proofs.Parting.{values_left, all_left, no-more, some-more, number-next, others-left, or-error, or-value}
use Rattle.row_read.proofs.values.read_values.Goals as goal

pub loop-k-init : goal.loop-k-init
loop-k-init c = λ cs e. taken_none cs c.args.row.now _ _ (all_left c.split-values.result c.args.row.now c.split-values.ensures.rest c.split-values.ensures.done) refl zeros-read

pub returns-in_err-numbers-clause-verdict_value : goal.returns-in_err-numbers-clause-verdict_value
returns-in_err-numbers-clause-verdict_value c =
    let l = c.loop-k in
    let k = c.column_count-columns.ensures in
    let cs = columns_under c.args.heading in
    let p = err_from_is_err_and c.from_residual.result c.from_residual.ensures.1 in
    let m = or-error c.and_then-value.result _ _ c.in_err-numbers.ensures.value in
    let n = number-next _ l.values c.next.new.self (λ x b q w. search (rules, tests)) c.next.result c.and_then-value.result c.next.ensures.steps c.and_then-value.ensures in
    rw (p.1, p.2, m.1) (sym (taken-unreadable cs c.args.row.now l.numbers l.k (values_left l.values) (l.invariant cs k.value) (omega (arith, k.value, c.loop-k-test.true)) (sym n ∙ m.0)))

pub loop-k-preserved : goal.loop-k-preserved
loop-k-preserved c =
    let l = c.loop-k in
    let k = c.column_count-columns.ensures in
    let m = or-value c.and_then-value.result _ _ c.in_ok-numbers.ensures.value in
    let n = number-next _ l.values c.next.new.self (λ x b q w. search (rules, tests)) c.next.result c.and_then-value.result c.next.ensures.steps c.and_then-value.ensures in
    let o = others-left _ l.values c.next.new.self (λ x b q w. search (rules, tests)) c.next.result c.and_then-value.result _ c.next.ensures.steps c.and_then-value.ensures m in
    λ cs e. rw o (taken-value cs c.args.row.now l.numbers l.k (values_left l.values) (l.invariant cs e) (omega (arith, e, k.upper_bound)) (omega (arith, e, c.loop-k-test.true)) _ (sym n ∙ m))

pub returns-then-is_some-clause-verdict_value : goal.returns-then-is_some-clause-verdict_value
returns-then-is_some-clause-verdict_value c =
    let l = c.loop-k in
    let k = c.column_count-columns.ensures in
    let cs = columns_under c.args.heading in
    let t = l.invariant cs k.value in
    let m = some-more _ l.values c.next-2.new.self (λ x b q w. search (rules, tests)) c.next-2.result c.next-2.ensures.steps (sym c.is_some.ensures ∙ c.if-is_some.true) in
    let e = taken-after cs c.args.row.now l.numbers l.k (values_left l.values) t m (omega (arith, t.few, k.value, c.loop-k-test.false)) in
    rw k.value (sym e)

pub returns-clause-verdict_value : goal.returns-clause-verdict_value
returns-clause-verdict_value c =
    let l = c.loop-k in
    let k = c.column_count-columns.ensures in
    let cs = columns_under c.args.heading in
    let t = l.invariant cs k.value in
    let n = no-more _ l.values c.next-2.new.self c.next-2.result c.next-2.ensures.steps (sym c.is_some.ensures ∙ c.if-is_some.false) in
    sym (taken-all cs c.args.row.now l.numbers l.k (values_left l.values) t n (omega (arith, t.few, k.value, c.loop-k-test.false)))

pub returns-clause-numbers_value : goal.returns-clause-numbers_value
returns-clause-numbers_value c =
    let l = c.loop-k in
    let k = c.column_count-columns.ensures in
    let cs = columns_under c.args.heading in
    let t = l.invariant cs k.value in
    let n = no-more _ l.values c.next-2.new.self c.next-2.result c.next-2.ensures.steps (sym c.is_some.ensures ∙ c.if-is_some.false) in
    taken-settings cs c.args.row.now l.numbers l.k (values_left l.values) t n (omega (arith, t.few, k.value, c.loop-k-test.false))
