-- `tree_ways::figures::no_figures` meets its contract. Assumes nothing.
use mathlib.Core.Path.{refl}
use Rattle.plan_model.specs.Lines.{no_figures}
use Rattle.tree_ways.proofs.figures.no_figures.Goals as goal

pub returns : goal.returns
unfolding no_figures
returns c = refl
