-- `tree_hops::hops::put_hops` meets its contract. Assumes nothing.
use mathlib.Core.Path.{◌≡◌}
use Prim.Native.Nat.{◌-◌}
use native.Mathlib.Omega.{arith}
use lib.ListN.{length}
use Rattle.tree_hops.proofs.Hopping.{hops-none, hops-put}
use Rattle.tree_hops.proofs.hops.put_hops.Goals as goal

pub loop-v-init : goal.loop-v-init
loop-v-init c = let x = c.args in hops-none x.parents.now x.notes.now x.sink x.hops.now

pub loop-v-preserved : goal.loop-v-preserved
loop-v-preserved c =
    let x = c.args in
    let l = c.loop-v in
    hops-put x.parents.now x.notes.now x.sink x.hops.now _ _ l.v l.auto.v l.invariant c.put_hop.ensures

pub returns : goal.returns
returns c =
    let l = c.loop-v in
    let end : l.v - 1 ≡ length c.args.parents.now - 1 = omega (arith, c.loop-v-test.false, c.requires.led.some, l.auto.v-end c.requires.led.some) in
    rw end at l.invariant
