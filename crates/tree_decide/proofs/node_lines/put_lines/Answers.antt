-- `tree_decide::node_lines::put_lines` meets its contract. Assumes nothing.
use mathlib.Core.Path.{◌≡◌}
use Prim.Native.Nat.{◌-◌}
use native.Mathlib.Omega.{arith}
use lib.ListN.{length}
use Rattle.tree_decide.proofs.Rowing.{lines_none, lines-put}
use Rattle.tree_decide.proofs.node_lines.put_lines.Goals as goal

pub loop-v-init : goal.loop-v-init
loop-v-init c = let x = c.args in lines_none x.t x.parents.now x.notes.now x.sink x.table.now

pub loop-v-preserved : goal.loop-v-preserved
loop-v-preserved c =
    let x = c.args in
    let l = c.loop-v in
    lines-put x.t x.parents.now x.notes.now x.sink x.table.now _ _ l.v _ l.auto.v (omega (arith, c.requires.loaded.few, c.loop-v-test.true)) l.invariant c.line_of-line.ensures c.put_node.ensures

pub returns : goal.returns
returns c =
    let l = c.loop-v in
    let end : l.v - 1 ≡ length c.args.parents.now - 1 = omega (arith, c.loop-v-test.false, l.auto.v-end c.requires.loaded.some) in
    rw end at l.invariant
