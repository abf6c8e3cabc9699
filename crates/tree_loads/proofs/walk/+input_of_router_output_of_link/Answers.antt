-- The cycle of calls {input_of_router, output_of_link} meets its contracts, along lists of children. Assumes nothing.
use mathlib.Core.Path.{◌≡◌, refl, sym, ap, ◌∙◌}
use mathlib.Core.Bool.{true}
use Prim.Native.Nat.{◌+◌, ◌-◌, ◌≤◌, ◌<◌}
use native.Mathlib.Omega.{arith}
use lib.ListN.{length, take}
use Rattle.links.specs.Link.{load_up_to_64}
use Rattle.tree_model.specs.Tree.{Tree, tree_of, other_neighbour}
use Rattle.tree_model.specs.Loads.{input_of}
use Rattle.tree_model.proofs.Steps as steps
use Rattle.tree_plan_model.specs.Inner.{tree_up_to}
use Rattle.tree_loads.proofs.Turns.{so_far, sensed-own, part-fits, output-made}
use Rattle.tree_loads.proofs.Notes.{noted-end}
use Rattle.tree_loads.proofs.Neighbours.{before, Upto, upto-none, to-next, fed, not-fed, nearest-known, feeding, not-feeding}
use Rattle.tree_loads.proofs.walk.+input_of_router_output_of_link.Goals as goal

-- the first neighbour: only the own sensor feeds so far
pub input_of_router-loop-w-init : goal.input_of_router-loop-w-init
input_of_router-loop-w-init t c =
    let x = c.args in
    let q = c.requires in
    let n = x.nodes + 1 in
    let g = q.given.listing in
    let P = take n x.kin.now in
    let B = take n x.bursts.now in
    let R = take n x.rates.now in
    let m = c.neighbour_after-w.ensures in
    let low : x.v < length P = omega (arith, q.facing.known, g.some) in
    let own = sensed-own x.t n x.kin.now x.bursts.now x.rates.now x.v (omega (arith, low, g.bursts)) (omega (arith, low, g.rates)) in
    record {
      known = nearest-known P x.v 0 _ m (omega (arith, g.some));
      beside = m.beside;
      upto = to-next P B R x.v x.from x.t g.planted q.facing x.notes.now _ _ 0 _ (omega (arith, g.some)) (omega (arith, g.some)) m (upto-none P B R x.v x.from x.t g.planted q.facing x.notes.now _ (c.sensor_load-total.ensures ∙ own));
    }

-- a neighbour that feeds lies farther from the sink
pub input_of_router-output_of_link-requires : goal.input_of_router-output_of_link-requires
input_of_router-output_of_link-requires t c =
    let x = c.args in
    let q = c.requires in
    let n = x.nodes + 1 in
    let g = q.given.listing in
    let P = take n x.kin.now in
    let B = take n x.bursts.now in
    let R = take n x.rates.now in
    let l = c.loop-w in
    let one : 1 ≤ l.w = omega (arith, c.loop-w-test.true) in
    let yes : other_neighbour (tree_of P B R) x.v x.from l.w ≡ true = feeding P B R x.v x.from l.w (l.invariant.beside one) c.if-u-from.true in
    let most : l.w ≤ length P - 1 = omega (arith, l.invariant.known) in
    (omega (arith, c.decreases, steps.falls (tree_of P B R) g.planted x.v x.from l.w q.facing one most yes), (q.given, (q.linked, steps.faces (tree_of P B R) g.planted x.v x.from l.w q.facing one most yes)))

-- its output is added
pub input_of_router-loop-w-preserved-then-u-from : goal.input_of_router-loop-w-preserved-then-u-from
input_of_router-loop-w-preserved-then-u-from t c =
    let x = c.args in
    let q = c.requires in
    let n = x.nodes + 1 in
    let g = q.given.listing in
    let P = take n x.kin.now in
    let B = take n x.bursts.now in
    let R = take n x.rates.now in
    let T : Tree = tree_of P B R in
    let l = c.loop-w in
    let one : 1 ≤ l.w = omega (arith, c.loop-w-test.true) in
    let yes : other_neighbour T x.v x.from l.w ≡ true = feeding P B R x.v x.from l.w (l.invariant.beside one) c.if-u-from.true in
    let most : l.w ≤ length P - 1 = omega (arith, l.invariant.known) in
    let m = c.neighbour_after-w-in-loop-w.ensures in
    let o = c.output_of_link in
    let r = fed P B R x.v x.from x.t g.planted q.facing x.notes.now l.total l.notes l.w o.result _ one most yes l.invariant.upto o.ensures.value o.ensures.noted in
    let sum : c.plus-total.result ≡ so_far x.t T x.v x.from l.w = c.plus-total.ensures ∙ ap load_up_to_64 r.sum ∙ part-fits x.t T g.planted g.ranged (λ v. refl) q.given.short x.v x.from q.facing l.w most in
    record {
      known = nearest-known P x.v l.w _ m (omega (arith, g.some));
      beside = m.beside;
      upto = to-next P B R x.v x.from x.t g.planted q.facing x.notes.now _ _ l.w _ (omega (arith, g.some)) l.invariant.known m (record { sum = sum; noted = r.noted });
    }

-- the neighbour towards the sink feeds nothing
pub input_of_router-loop-w-preserved : goal.input_of_router-loop-w-preserved
input_of_router-loop-w-preserved t c =
    let x = c.args in
    let q = c.requires in
    let n = x.nodes + 1 in
    let g = q.given.listing in
    let P = take n x.kin.now in
    let B = take n x.bursts.now in
    let R = take n x.rates.now in
    let l = c.loop-w in
    let one : 1 ≤ l.w = omega (arith, c.loop-w-test.true) in
    let m = c.neighbour_after-w-in-loop-w.ensures in
    record {
      known = nearest-known P x.v l.w _ m (omega (arith, g.some));
      beside = m.beside;
      upto = to-next P B R x.v x.from x.t g.planted q.facing x.notes.now _ _ l.w _ (omega (arith, g.some)) l.invariant.known m (not-fed P B R x.v x.from x.t g.planted q.facing x.notes.now _ _ l.w one (not-feeding P B R x.v x.from l.w c.if-u-from.false) l.invariant.upto);
    }

-- all neighbours are taken
pub input_of_router-returns-clause-value : goal.input_of_router-returns-clause-value
input_of_router-returns-clause-value t c =
    let x = c.args in
    let q = c.requires in
    let n = x.nodes + 1 in
    let g = q.given.listing in
    let P = take n x.kin.now in
    let T : Tree = tree_of P (take n x.bursts.now) (take n x.rates.now) in
    let l = c.loop-w in
    let e : l.w ≡ 0 = c.loop-w-test.false in
    let u : Upto x.t T x.v x.from x.notes.now l.total l.notes (before (length P - 1) 0) = rw e at l.invariant.upto in
    u.sum ∙ sym (steps.input-step x.t T g.planted x.v x.from q.facing)

pub input_of_router-returns-clause-noted : goal.input_of_router-returns-clause-noted
input_of_router-returns-clause-noted t c =
    let x = c.args in
    let q = c.requires in
    let n = x.nodes + 1 in
    let g = q.given.listing in
    let P = take n x.kin.now in
    let T : Tree = tree_of P (take n x.bursts.now) (take n x.rates.now) in
    let l = c.loop-w in
    let e : l.w ≡ 0 = c.loop-w-test.false in
    let u : Upto x.t T x.v x.from x.notes.now l.total l.notes (before (length P - 1) 0) = rw e at l.invariant.upto in
    let sum : l.total ≡ input_of x.t T x.v x.from = u.sum ∙ sym (steps.input-step x.t T g.planted x.v x.from q.facing) in
    rw c.note.ensures.notes_after (noted-end x.t T g.planted x.v x.from q.facing x.notes.now l.total l.notes (c.note.ensures.notes_len (omega (arith, g.planted.few, q.facing.known))) sum u.noted)

-- what leaves the link
pub output_of_link-returns-clause-value : goal.output_of_link-returns-clause-value
output_of_link-returns-clause-value t c =
    let x = c.args in
    let q = c.requires in
    let g = q.given.listing in
    output-made x.t (tree_up_to x.nodes x.kin.now x.bursts.now x.rates.now) g.planted g.ranged (λ v. refl) q.given.timed q.given.short x.w x.v q.facing _ _ _ c.input_of_router-entered.ensures.value c.reservation_for.ensures c.after.ensures
