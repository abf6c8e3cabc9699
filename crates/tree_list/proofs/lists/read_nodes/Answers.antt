-- `tree_list::lists::read_nodes` meets its contract. Assumes nothing.
use mathlib.Core.Path.{sym}
use native.Mathlib.Omega.{arith}
use Rattle.lines.proofs.LawsHold.{found-advances}
use Rattle.tree_list.proofs.Reading.{turn-none-left, turn-end, turn_more, turn-broken}
use Rattle.tree_list.proofs.lists.read_nodes.Goals as goal

pub loop-line-smaller : goal.loop-line-smaller
loop-line-smaller c =
    let f = c.in-Some.line in
    let n = found-advances c.args.input.now c.loop-line.cursor.at f.start f.end f.next (sym c.in-Some.ensures) in
    omega (arith, n.forward, n.next_within)

pub loop-line-preserved : goal.loop-line-preserved
loop-line-preserved c =
    let l = c.loop-line in
    let f = c.in-Some.line in
    let n = c.take_node in
    turn_more c.args.input.now _ l.k l.cursor.at _ _ _ l.invariant f.start f.end f.next (sym c.in-Some.ensures) n.new.parents n.new.bursts n.new.rates (rw c.part.ensures at c.if-not-take_node.ensures)

pub returns-then-not-take_node : goal.returns-then-not-take_node
returns-then-not-take_node c =
    let l = c.loop-line in
    let f = c.in-Some.line in
    turn-broken c.args.input.now _ l.k l.cursor.at _ _ _ l.invariant f.start f.end f.next (sym c.in-Some.ensures) _ _ _ (sym (rw c.part.ensures at c.if-not-take_node.ensures.right))

pub returns-then-k-eq0 : goal.returns-then-k-eq0
returns-then-k-eq0 c =
    let l = c.loop-line in
    turn-none-left c.args.input.now _ l.k l.cursor.at _ _ _ l.invariant (sym c.in_default.ensures) c.if-k-eq0.true

pub returns : goal.returns
returns c =
    let l = c.loop-line in
    turn-end c.args.input.now _ l.k l.cursor.at _ _ _ l.invariant (sym c.in_default.ensures) c.if-k-eq0.false
