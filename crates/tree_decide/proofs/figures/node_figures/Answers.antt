-- `tree_decide::figures::node_figures` meets its contract. Assumes nothing.
use Rattle.tree_decide.proofs.Lining.{figures-at-sink, figures-elsewhere}
use Rattle.tree_decide.proofs.figures.node_figures.Goals as goal

pub returns-then-v-sink : goal.returns-then-v-sink
returns-then-v-sink c = figures-at-sink c.args.t c.args.sink c.args.v c.args.load _ c.if-v-sink.true c.sink_figures.ensures

pub returns-else-v-sink : goal.returns-else-v-sink
returns-else-v-sink c = figures-elsewhere c.args.t c.args.sink c.args.v c.args.load _ c.if-v-sink.false (c.link_figures.ensures c.requires)
