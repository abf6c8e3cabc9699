-- `tree_ways::ways::set_way` meets its contract. Assumes nothing.
use mathlib.Core.Path.{ap}
use Prim.Native.Nat.{ℕ}
use lib.ListN.{set}
use Rattle.tree_ways.proofs.Routing.{way-made}
use Rattle.tree_ways.proofs.ways.set_way.Goals as goal

pub returns : goal.returns
returns c =
    let a = c.args in
    let p = c.requires in
    ap (λ (x : ℕ). set a.ways.now a.v x)
    (way-made a.t a.notes.now a.ways.now a.v a.u p.v_bound p.light _ _ _ c.load_at.ensures c.link_figures.ensures c.plus.ensures)
