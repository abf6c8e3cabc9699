-- `tree_slots::tally::carries` meets its contract. Assumes nothing.
use Rattle.tree_slots.proofs.Passing.{sink-carries-none, others-carry}
use Rattle.tree_slots.proofs.tally.carries.Goals as goal

pub returns-then-v-sink : goal.returns-then-v-sink
returns-then-v-sink c = others-carry _ _ _ c.load_at.result c.if-v-sink.true c.requires c.load_at.ensures

pub returns-else-v-sink : goal.returns-else-v-sink
returns-else-v-sink c = sink-carries-none _ _ _ c.if-v-sink.false
