-- `tree_hops::hops::superframe_of` meets its contract. Assumes nothing.
use Rattle.tree_plan_model.proofs.Noting.{superframe-read}
use Rattle.tree_hops.proofs.Hopping.{hop-elsewhere}
use Rattle.tree_hops.proofs.hops.superframe_of.Goals as goal

pub returns-else-v-sink : goal.returns-else-v-sink
returns-else-v-sink c = let x = c.args in hop-elsewhere x.parents.now x.notes.now x.sink x.v _ c.if-v-sink.false (superframe-read x.parents.now x.notes.now x.v _ c.requires.v_bound c.superframe_at.ensures)
