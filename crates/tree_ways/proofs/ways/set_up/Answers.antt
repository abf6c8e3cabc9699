-- `tree_ways::ways::set_up` meets its contract. Assumes nothing.
use mathlib.Core.Path.{◌∙◌}
use mathlib.Core.Logic.{inl, inr}
use Prim.Native.Nat.{◌-◌, ◌<◌}
use native.Mathlib.Omega.{arith}
use lib.ListN.{length}
use Rattle.tree_ways.proofs.Routing.{up_none, up-all, up_same, up_more}
use Rattle.tree_ways.proofs.ways.set_up.Goals as goal
use Rattle.tree_ways.proofs.ways.set_up.Goals.{then-v-sink+then-u-v, else-v-sink, else-v-sink-via-then-v-sink+else-u-v, else-v-sink-via-else-v-sink}

pub loop-v-init : goal.loop-v-init
loop-v-init c =
    let a = c.args in
    let q = c.requires in
    (q.ways_len, up_none a.t a.parents.now a.notes.now a.sink q.loaded q.led a.ways.now q.down_from)

pub set_way-requires-clause-light : goal.set_way-requires-clause-light
set_way-requires-clause-light c = c.requires.loaded.light c.loop-v.v c.loop-v.auto.v c.loop-v-test.true

pub loop-v-preserved : goal.loop-v-preserved
loop-v-preserved c =
    let a = c.args in
    let q = c.requires in
    let l = c.loop-v in
    let same = up_same a.t a.parents.now a.notes.now a.sink q.loaded q.led l.v l.auto.v c.loop-v-test.true _ c.towards_at-u.ensures l.ways l.invariant.1 in
    elim c.if-v-sink.branch [
      | then-v-sink+then-u-v w ↦ (
          let low : l.v < length l.ways = omega (arith, c.loop-v-test.true, q.loaded.few, l.invariant.0) in
          (c.if-v-sink.auto.ways ∙ l.invariant.0, up_more a.t a.parents.now a.notes.now a.sink q.loaded q.led l.v l.auto.v c.loop-v-test.true _ c.towards_at-u.ensures l.ways l.invariant.1 w.if-v-sink.true w.if-u-v.true low _ (w.ways-is ∙ w.set_way.ensures))
          )
      | else-v-sink w ↦ (
        c.if-v-sink.auto.ways ∙ l.invariant.0,
        rw w.ways-is (same (elim w.else-v-sink.branch [ else-v-sink-via-then-v-sink+else-u-v w' ↦ inr w'.if-u-v.false | else-v-sink-via-else-v-sink w' ↦ inl w'.if-v-sink.false ])),
      )
    ]

pub returns : goal.returns
returns c =
    let a = c.args in
    let q = c.requires in
    let l = c.loop-v in
    up-all a.t a.parents.now a.notes.now a.sink q.loaded q.led (l.v - 1) l.ways (omega (arith, c.loop-v-test.false)) l.invariant.1
