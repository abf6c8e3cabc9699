-- `tree_ways::figures::link_figures` meets its contract. Assumes nothing.
use native.Mathlib.Omega.{arith}
use Rattle.tree_ways.proofs.Figuring.{link-made, link-none}
use Rattle.tree_ways.proofs.figures.link_figures.Goals as goal

pub returns-then-load-eq0 : goal.returns-then-load-eq0
returns-then-load-eq0 c = λ light. link-none c.args.t c.args.load _ (omega (arith, c.if-load-eq0.true)) c.no_figures.ensures

pub returns-else-load-eq0 : goal.returns-else-load-eq0
returns-else-load-eq0 c = λ light. link-made c.args.t c.args.load light _ _ c.if-load-eq0.false c.reservation_for.ensures c.figures_of.ensures
