-- `tree_hops::hops::put_hop` meets its contract. Assumes nothing.
use mathlib.Core.Path.{◌∙◌}
use native.Mathlib.Omega.{arith}
use Rattle.tree_plan_model.proofs.Noting.{towards-noted}
use Rattle.tree_hops.proofs.Hopping.{towards-low, superframe-low, hop-put}
use Rattle.tree_hops.proofs.hops.put_hop.Goals as goal

pub overflow_cast-towards : goal.overflow_cast-towards
overflow_cast-towards c =
    let x = c.args in
    let q = c.requires in
    let e = c.towards_at-towards.ensures ∙ towards-noted x.notes.now x.v (omega (arith, q.parents_len_bound, q.v_in_bounds)) in
    omega (arith, e, towards-low x.parents.now x.notes.now x.sink q.led q.parents_len_bound x.v q.le_v q.v_in_bounds)

pub overflow_cast-router : goal.overflow_cast-router
overflow_cast-router c =
    let x = c.args in
    let q = c.requires in
    omega (arith, superframe-low x.parents.now x.notes.now x.sink q.led q.parents_len_bound x.v q.le_v q.v_in_bounds _ c.superframe_of-router.ensures)

pub returns : goal.returns
returns c =
    let x = c.args in
    let q = c.requires in
    let e = c.towards_at-towards.ensures ∙ towards-noted x.notes.now x.v (omega (arith, q.parents_len_bound, q.v_in_bounds)) in
    hop-put x.parents.now x.notes.now x.sink x.hops.now _ _ x.v _ _ e c.superframe_of-router.ensures c.put_bytes.ensures.out_after
