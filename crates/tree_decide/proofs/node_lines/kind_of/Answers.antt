-- `tree_decide::node_lines::kind_of` meets its contract. Assumes nothing.
use mathlib.Core.Path.{sym, ◌∙◌}
use Prim.Native.Nat.{◌≤◌, ◌<◌}
use native.Mathlib.Omega.{arith}
use Rattle.tree_plan_model.specs.Inner.{towards_in}
use Rattle.tree_plan_model.proofs.Noting.{towards-noted}
use Rattle.tree_children.proofs.Linking.{router-in}
use Rattle.tree_decide.proofs.Lining.{kind-sink, kind-down, kind-up, kind-end}
use Rattle.tree_decide.proofs.node_lines.kind_of.Goals as goal

pub returns-then-v-sink : goal.returns-then-v-sink
returns-then-v-sink c = let x = c.args in let q = c.requires in kind-sink x.parents.now x.notes.now x.sink q.led x.v q.le_v q.v_in_bounds c.if-v-sink.true

pub returns-then-v-towards_at : goal.returns-then-v-towards_at
returns-then-v-towards_at c =
    let x = c.args in
    let q = c.requires in
    let e = c.towards_at.ensures ∙ towards-noted x.notes.now x.v (omega (arith, q.parents_len_bound, q.v_in_bounds)) in
    let h : x.v < towards_in x.notes.now x.v = omega (arith, e, c.if-v-towards_at.true) in
    kind-down x.parents.now x.notes.now x.sink q.led x.v q.le_v q.v_in_bounds c.if-v-sink.false h

pub returns-then-is_router : goal.returns-then-is_router
returns-then-is_router c =
    let x = c.args in
    let q = c.requires in
    let e = c.towards_at.ensures ∙ towards-noted x.notes.now x.v (omega (arith, q.parents_len_bound, q.v_in_bounds)) in
    let h : towards_in x.notes.now x.v ≤ x.v = omega (arith, e, c.if-v-towards_at.false) in
    let r = router-in x.parents.now x.kin.now q.linked x.v q.v_in_bounds (omega (arith, q.parents_len_bound)) in
    kind-up x.parents.now x.notes.now x.sink q.led x.v q.le_v q.v_in_bounds c.if-v-sink.false h (sym r ∙ sym c.is_router.ensures ∙ c.if-is_router.true)

pub returns-else-is_router : goal.returns-else-is_router
returns-else-is_router c =
    let x = c.args in
    let q = c.requires in
    let e = c.towards_at.ensures ∙ towards-noted x.notes.now x.v (omega (arith, q.parents_len_bound, q.v_in_bounds)) in
    let h : towards_in x.notes.now x.v ≤ x.v = omega (arith, e, c.if-v-towards_at.false) in
    let r = router-in x.parents.now x.kin.now q.linked x.v q.v_in_bounds (omega (arith, q.parents_len_bound)) in
    kind-end x.parents.now x.notes.now x.sink q.led x.v q.le_v q.v_in_bounds c.if-v-sink.false h (sym r ∙ sym c.is_router.ensures ∙ c.if-is_router.false)
