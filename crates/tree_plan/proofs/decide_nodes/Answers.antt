-- `tree_plan::decide_nodes` meets its contract. Assumes nothing.
use Rattle.std.proofs.lemmas.Result.{err_from_is_err_and}
use mathlib.Core.Path.{sym}
use native.Mathlib.Omega.{arith}
use Rattle.plan_model.proofs.Answered.{answer-refused}
use Rattle.node_table_model.specs.NodeRows.{tree_table}
use Rattle.tree_plan.proofs.Printing.{planned-nodes}
use Rattle.tree_plan.proofs.decide_nodes.Goals as goal

pub returns-in_err-numbers-clause-lines : goal.returns-in_err-numbers-clause-lines
returns-in_err-numbers-clause-lines c =
    let p = err_from_is_err_and c.from_residual.result c.from_residual.ensures.1 in
    rw (p.1, p.2) (answer-refused tree_table _ _ (sym c.in_err-numbers.ensures.value))

pub returns-clause-lines : goal.returns-clause-lines
returns-clause-lines c =
    let d = c.in_ok-numbers.ensures in
    (omega arith, planned-nodes _ _ _ _ d.value d.length_bound (omega arith) d.table_after)
