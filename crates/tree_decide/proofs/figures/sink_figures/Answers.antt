-- `tree_decide::figures::sink_figures` meets its contract. Assumes nothing.
use Rattle.tree_decide.proofs.Lining.{sink-made}
use Rattle.tree_decide.proofs.figures.sink_figures.Goals as goal

pub returns : goal.returns
returns c = sink-made c.args.t c.args.load _ _ c.no_figures.ensures c.whole_frames.ensures
