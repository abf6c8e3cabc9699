-- `tree_ways::depths::set_depths` meets its contract. Assumes nothing.
use mathlib.Core.Path.{◌∙◌}
use Prim.Native.Nat.{◌-◌}
use native.Mathlib.Omega.{arith}
use lib.ListN.{length-set}
use Rattle.tree_ways.proofs.Deepening.{depths-all, depths-root, depth_low, depths-more}
use Rattle.tree_ways.proofs.depths.set_depths.Goals as goal

pub loop-v-init : goal.loop-v-init
loop-v-init c =
    let d = c.args.depths.now in
    let q = c.requires in
    (length-set d 1 0 ∙ q.depths_len, depths-root c.args.parents.now q.rooted d q.depths_len)

pub overflow_add-depths : goal.overflow_add-depths
overflow_add-depths c =
    let l = c.loop-v in
    let q = c.requires in
    rw c.from.ensures (omega (arith, depth_low c.args.parents.now q.rooted q.without_gaps l.v l.auto.v c.loop-v-test.true l.depths l.invariant.0 l.invariant.1))

pub loop-v-preserved : goal.loop-v-preserved
loop-v-preserved c =
    let l = c.loop-v in
    let q = c.requires in
    (length-set l.depths _ _ ∙ l.invariant.0, rw c.from.ensures (depths-more c.args.parents.now q.rooted q.without_gaps l.v l.auto.v c.loop-v-test.true l.depths l.invariant.0 l.invariant.1))

pub returns : goal.returns
returns c =
    let l = c.loop-v in
    depths-all c.args.parents.now (l.v - 1) l.depths (omega (arith, c.loop-v-test.false)) l.invariant.1
