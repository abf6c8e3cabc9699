-- `tree_ways::ways::set_down` meets its contract. Assumes nothing.
use mathlib.Core.Path.{◌≡◌, ◌∙◌}
use Prim.Native.Nat.{◌+◌, ◌-◌, ◌≤◌, ◌<◌}
use native.Mathlib.Omega.{arith}
use lib.ListN.{length, length-set}
use Rattle.tree_ways.proofs.Routing.{down-none, down-low, down-same, down-more}
use Rattle.tree_ways.proofs.ways.set_down.Goals as goal

pub loop-v-init : goal.loop-v-init
loop-v-init c =
    let a = c.args in
    let p = c.requires in
    (p.led.some, length-set a.ways.now a.sink 0 ∙ p.ways_len, down-none a.t a.parents.now a.notes.now a.sink p.loaded p.led a.ways.now (omega (arith, p.ways_len, p.loaded.few, p.led.sink_known)))

pub set_way-requires-clause-u_bound : goal.set_way-requires-clause-u_bound
set_way-requires-clause-u_bound c =
    let a = c.args in
    let p = c.requires in
    let l = c.loop-v in
    let one : 1 ≤ l.v - 1 = omega (arith, c.loop-v-test.true) in
    let low : l.v - 1 < length a.parents.now = omega (arith, c.loop-v-test.true, l.auto.v) in
    let behind : l.v - 1 + 1 ≡ l.v = omega (arith, c.loop-v-test.true) in
    down-low a.t a.parents.now a.notes.now a.sink p.loaded p.led (l.v - 1) one low _ c.towards_at-u.ensures l.ways (rw behind l.invariant.2) c.if-v-u.true

pub loop-v-preserved-then-v-u : goal.loop-v-preserved-then-v-u
loop-v-preserved-then-v-u c =
    let a = c.args in
    let p = c.requires in
    let l = c.loop-v in
    let one : 1 ≤ l.v - 1 = omega (arith, c.loop-v-test.true) in
    let low : l.v - 1 < length a.parents.now = omega (arith, c.loop-v-test.true, l.auto.v) in
    let behind : l.v - 1 + 1 ≡ l.v = omega (arith, c.loop-v-test.true) in
    (one, c.set_way.auto.ways ∙ l.invariant.1, down-more a.t a.parents.now a.notes.now a.sink p.loaded p.led (l.v - 1) one low _ c.towards_at-u.ensures l.ways (rw behind l.invariant.2) c.if-v-u.true (omega (arith, low, p.loaded.few, l.invariant.1)) _ c.set_way.ensures)

pub loop-v-preserved : goal.loop-v-preserved
loop-v-preserved c =
    let a = c.args in
    let p = c.requires in
    let l = c.loop-v in
    let one : 1 ≤ l.v - 1 = omega (arith, c.loop-v-test.true) in
    let low : l.v - 1 < length a.parents.now = omega (arith, c.loop-v-test.true, l.auto.v) in
    let behind : l.v - 1 + 1 ≡ l.v = omega (arith, c.loop-v-test.true) in
    (one, l.invariant.1, down-same a.t a.parents.now a.notes.now a.sink p.loaded p.led (l.v - 1) one low _ c.towards_at-u.ensures l.ways (rw behind l.invariant.2) c.if-v-u.false)

pub returns : goal.returns
returns c =
    let l = c.loop-v in
    let end : l.v ≡ 1 = omega (arith, c.loop-v-test.false, l.invariant.0) in
    rw end at l.invariant.2
