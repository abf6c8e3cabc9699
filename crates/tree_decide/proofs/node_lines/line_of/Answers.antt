-- `tree_decide::node_lines::line_of` meets its contract. Assumes nothing.
use mathlib.Core.Path.{◌≡◌, ap, ◌∙◌}
use Prim.Native.Nat.{◌<◌}
use native.Mathlib.Omega.{arith}
use lib.ListN.{get_or}
use borrow.Author.Tests.{lt-ltb}
use Rattle.measure.specs.declared.Symbols.{Symbols}
use Rattle.tree_plan_model.specs.Inner.{load_in}
use Rattle.tree_plan_model.proofs.Noting.{load-noted}
use Rattle.tree_decide.proofs.Lining.{line_made}
use Rattle.tree_decide.proofs.node_lines.line_of.Goals as goal

pub node_figures-figures-requires : goal.node_figures-figures-requires
node_figures-figures-requires c =
    let load-at-node : c.load_at-load.result ≡ load_in c.args.notes.now c.args.v =
    let x = c.args in
    let q = c.requires in
    c.load_at-load.ensures ∙ load-noted x.notes.now x.v (omega (arith, q.loaded.few, q.v_in_bounds))
    in
    let q = c.requires in
    rw load-at-node (q.loaded.light c.args.v q.le_v q.v_in_bounds)

pub returns : goal.returns
returns c =
    let load-at-node : c.load_at-load.result ≡ load_in c.args.notes.now c.args.v =
    let x = c.args in
    let q = c.requires in
    c.load_at-load.ensures ∙ load-noted x.notes.now x.v (omega (arith, q.loaded.few, q.v_in_bounds))
    in
    let x = c.args in
    let q = c.requires in
    let low : x.v < 256 = omega (arith, q.loaded.few, q.v_in_bounds) in
    let w : c.way_at.result.0 ≡ get_or x.ways.now x.v 0 = ap (λ (y : Symbols). y.0) c.way_at.ensures ∙ rw (lt-ltb x.v 256 low) in
    line_made x.t x.parents.now x.notes.now x.sink x.v _ _ _ _ _ _ c.kind_of-kind.ensures (c.from-depth.ensures ∙ q.depths_set.each x.v q.le_v q.v_in_bounds) load-at-node c.node_figures-figures.ensures (w ∙ q.ways_set.each x.v q.le_v q.v_in_bounds) c.route_with-route.ensures
