-- `tree_slots::tally::tally` meets its contract. Assumes nothing.
use mathlib.Core.Path.{sym, ◌∙◌}
use Prim.Native.Nat.{◌-◌, ◌<◌}
use native.Mathlib.Omega.{arith}
use Rattle.tree_slots.proofs.Passing.{passed_none, passed-same, passed-more, passed-all, router-low, count_fits, slots-answered}
use Rattle.tree_slots.proofs.tally.tally.Goals as goal
use Rattle.tree_slots.proofs.tally.tally.Goals.{then-carries, else-carries}

pub loop-v-init : goal.loop-v-init
loop-v-init c = passed_none _ _ _ _ _ _ c.requires.counts_value c.requires.used_value

pub bounds-counts-router : goal.bounds-counts-router
bounds-counts-router c = router-low _ _ _ c.args.sink c.requires.loaded _ _ c.loop-v.auto.v c.loop-v-test.true c.superframe_of-router.ensures

pub overflow_add-counts : goal.overflow_add-counts
overflow_add-counts c =
    let i = c.loop-v in
    let low = router-low _ _ _ c.args.sink c.requires.loaded _ _ i.auto.v c.loop-v-test.true c.superframe_of-router.ensures in
    omega (arith, count_fits _ _ _ c.args.sink c.requires.loaded i.v i.auto.v c.loop-v-test.true _ low i.counts i.used i.invariant)

pub bounds-counts-router-then-carries : goal.bounds-counts-router-then-carries
bounds-counts-router-then-carries c = router-low _ _ _ c.args.sink c.requires.loaded _ _ c.loop-v.auto.v c.loop-v-test.true c.superframe_of-router.ensures

pub add_slots-requires : goal.add_slots-requires
add_slots-requires c = router-low _ _ _ c.args.sink c.requires.loaded _ _ c.loop-v.auto.v c.loop-v-test.true c.superframe_of-router.ensures

pub loop-v-preserved : goal.loop-v-preserved
loop-v-preserved c =
    let i = c.loop-v in
    let q = c.requires.loaded in
    let low : i.v < 256 = omega (arith, c.loop-v-test.true, q.few) in
    elim c.if-carries.branch [
      | then-carries w ↦ (
          let k = slots-answered _ _ i.v _ _ (q.light i.v i.auto.v c.loop-v-test.true) low w.load_at.ensures w.reservation_for-reservation.ensures in
          rw (w.counts-is, w.used-is) (passed-more _ _ _ _ q i.v _ _ i.counts i.used _ i.auto.v c.loop-v-test.true (sym w.if-carries.true ∙ c.carries.ensures) w.superframe_of-router.ensures k w.add_slots.ensures i.invariant)
          )
      | else-carries w ↦ rw (w.counts-is, w.used-is) (passed-same _ _ _ _ i.v i.counts i.used i.auto.v (sym w.if-carries.false ∙ c.carries.ensures) i.invariant)
    ]

pub returns : goal.returns
returns c =
    let i = c.loop-v in
    passed-all _ _ _ _ (i.v - 1) i.counts i.used c.requires.loaded.few (omega (arith, c.loop-v-test.false, i.auto.v-end c.requires.loaded.some)) i.invariant
