-- `tree_slots::slots_fit` meets its contract. Assumes nothing.
use Rattle.tree_slots.proofs.Fitting.{routers-counted}
use Rattle.tree_slots.proofs.slots_fit.Goals as goal

pub returns : goal.returns
returns c = let x = c.args in routers-counted x.t x.so x.parents.now x.notes.now x.sink _ _ c.tally.ensures _ c.requires.loaded.some c.routers_fit.ensures
