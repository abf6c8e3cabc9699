-- `tree_loads::walk::neighbour_after` meets its contract. Assumes nothing.
use mathlib.Core.Path.{◌≡◌}
use native.Mathlib.Omega.{arith}
use lib.ListN.{get_or, take}
use Prim.Native.Nat.{◌+◌}
use Rattle.tree_loads.proofs.Neighbours.{children-next}
use Rattle.tree_loads.proofs.walk.neighbour_after.Goals as goal
use Rattle.tree_loads.proofs.walk.neighbour_after.Goals.{else-k-eq0-via-then-k-eq0+else-parent-gt0, else-k-eq0-via-else-k-eq0}

-- behind the parent: the first child
pub returns-else-k-eq0 : goal.returns-else-k-eq0
returns-else-k-eq0 c =
    let q = c.requires in
    let x = c.args in
    let orphan : x.k ≡ 0 → get_or (take (x.nodes + 1) x.kin.now) x.v 0 ≡ 0 =
    elim c.else-k-eq0.branch [
      | else-k-eq0-via-then-k-eq0+else-parent-gt0 w ↦ λ e. omega (arith, q.linked.parents x.v q.le_v q.v_in_bounds, c.from-parent.ensures, w.if-parent-gt0.false)
      | else-k-eq0-via-else-k-eq0 w ↦ λ e. absurd (w.if-k-eq0.false e)
    ]
    in
    rw c.from-else-k-eq0.ensures (children-next _ q.rooted x.v q.le_v q.v_in_bounds x.k _ c.if-v-k.false q.beside orphan (q.linked.first x.v (omega (arith, q.kin_len_bound, q.v_in_bounds))))
