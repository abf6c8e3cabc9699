-- `tree_loads::walk::walk` meets its contract. Assumes nothing.
use native.Mathlib.Omega.{arith}
use Rattle.tree_plan_model.specs.Inner.{tree_up_to}
use Rattle.tree_loads.proofs.Notes.{all_noted}
use Rattle.tree_loads.proofs.walk.walk.Goals as goal

pub returns : goal.returns
returns c =
    let x = c.args in
    let q = c.requires in
    all_noted x.t (tree_up_to x.nodes x.kin.now x.bursts.now x.rates.now) q.given.listing.planted q.given.listing.without_gaps x.sink q.le_sink (omega (arith, q.sink_in_bounds)) _ _ c.input_of_router.ensures.noted
