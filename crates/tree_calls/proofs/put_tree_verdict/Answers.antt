-- `tree_calls::put_tree_verdict` meets its contract. Assumes nothing.
use Rattle.decimal_model.specs.Ascii.{ascii}
use Rattle.tree_calls_model.specs.Entries.{tree_verdict_line}
use Rattle.tree_calls.proofs.put_tree_verdict.Goals as goal

pub returns-in-Ok-clause-value : goal.returns-in-Ok-clause-value
unfolding tree_verdict_line ascii
returns-in-Ok-clause-value c = rw c.in-Ok.is (c.put_bytes.ensures.value)

pub returns-in-Ok-clause-out_after : goal.returns-in-Ok-clause-out_after
unfolding tree_verdict_line ascii
returns-in-Ok-clause-out_after c = rw c.in-Ok.is (c.put_bytes.ensures.out_after)

pub returns-in-Err-clause-value : goal.returns-in-Err-clause-value
unfolding tree_verdict_line
returns-in-Err-clause-value c = rw c.in-Err.is (c.put_reason.ensures.value)

pub returns-in-Err-clause-out_after : goal.returns-in-Err-clause-out_after
unfolding tree_verdict_line
returns-in-Err-clause-out_after c = rw c.in-Err.is (c.put_reason.ensures.out_after)
