-- `tree_decide::decide` meets its contract. Assumes nothing.
use mathlib.Core.Path.{sym, ap, ◌∙◌}
use mathlib.Core.List.{List}
use native.Mathlib.Omega.{arith}
use lib.Seq.{sets}
use Rattle.plan_model.specs.declared.NodeLine.{NodeLine}
use Rattle.plan_model.proofs.Answered.{refused-answer, refused-put, planned-answer, planned-put}
use Rattle.node_table_model.specs.NodeRows.{tree_table}
use Rattle.tree_plan_model.proofs.Tabled.{few-held}
use Rattle.tree_hops.proofs.Outcomes.{outcome-refused, outcome-planned}
use Rattle.tree_decide.proofs.Deciding.{decision-keeps, table-long, lines-asked, lines-put-all}
use Rattle.tree_decide.proofs.decide.Goals as goal

pub returns-in-Err-clause-value : goal.returns-in-Err-clause-value
returns-in-Err-clause-value c =
    let x = c.args in
    refused-answer tree_table _ _ (outcome-refused x.input.now x.b x.sink _ (sym c.in-Err.ensures.verdict_value))

pub returns-in-Err-clause-table_after : goal.returns-in-Err-clause-table_after
returns-in-Err-clause-table_after c =
    let x = c.args in
    refused-put tree_table _ _ x.table.now (outcome-refused x.input.now x.b x.sink _ (sym c.in-Err.ensures.verdict_value))

pub put_lines-requires : goal.put_lines-requires
put_lines-requires c =
    let k = c.in-Ok.ensures in
    let g = lines-asked _ _ _ _ _ _ k.loads_left.held _ c.timing_of.ensures _ _ _ _ k.ways_left in
    record { loaded = g.0; led = g.1; linked = g.2; depths_set = g.3; ways_set = g.4 }

pub overflow_mul-result : goal.overflow_mul-result
overflow_mul-result c = omega (arith, few-held _ _ _ _ _ _ c.in-Ok.ensures.loads_left.held)

pub returns-clause-value : goal.returns-clause-value
returns-clause-value c =
    let k = c.in-Ok.ensures in
    planned-answer tree_table _ _ _ (outcome-planned _ _ _ (sym k.verdict_value)) (table-long _ _ _ _ _ _ k.loads_left.held)

pub returns-clause-length_bound : goal.returns-clause-length_bound
returns-clause-length_bound c = omega (arith, few-held _ _ _ _ _ _ c.in-Ok.ensures.loads_left.held)

pub returns-clause-table_after : goal.returns-clause-table_after
returns-clause-table_after c =
    let k = c.in-Ok.ensures in
    let l = lines-put-all _ _ _ _ _ _ k.loads_left.held _ c.timing_of.ensures in
    planned-put tree_table _ _ c.args.table.now _ (outcome-planned _ _ _ (sym k.verdict_value)) (c.put_lines.ensures ∙ ap (λ (q : List NodeLine). sets c.args.table.now 0 (tree_table q)) l)

pub returns-clause-keeps : goal.returns-clause-keeps
returns-clause-keeps c = decision-keeps _ _ _ (outcome-planned _ _ _ (sym c.in-Ok.ensures.verdict_value))
