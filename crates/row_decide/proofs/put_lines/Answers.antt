-- `row_decide::put_lines` meets its contract. Assumes nothing.
use mathlib.Core.Path.{sym, ap, ◌∙◌}
use Rattle.line_table_model.proofs.LineLaws.{lines-length}
use Rattle.row_model.specs.Lines.{lines}
use Rattle.row_plan_model.specs.Pages.{Page}
use Rattle.row_plan_model.proofs.Whole.{page_of, no_lines}
use Rattle.row_plan_model.proofs.PlanLines.{links-put, links-delay, plan-put}
use Rattle.row_decide.proofs.put_lines.Goals as goal

pub put_sink-requires-clause-delay_value : goal.put_sink-requires-clause-delay_value
put_sink-requires-clause-delay_value c =
    let p = c.requires in
    let s = c.args.row.now.s in
    let e = links-put s p.tables.sound c.args.table.now _ _ _ _ (no_lines c.args.table.now) c.put_end-w.ensures.table_after c.put_upward-w.ensures.table_after c.put_downward-w.ensures.table_after in ap (λ (q : Page). q.delay) e ∙ links-delay s p.tables.sound c.args.table.now

pub returns-clause-value : goal.returns-clause-value
unfolding page_of
returns-clause-value c =
    let p = c.requires in
    let s = c.args.row.now.s in
    let e = links-put s p.tables.sound c.args.table.now _ _ _ _ (no_lines c.args.table.now) c.put_end-w.ensures.table_after c.put_upward-w.ensures.table_after c.put_downward-w.ensures.table_after in
    let w = c.put_sink.ensures in
    let f = plan-put s p.tables.sound c.args.table.now _ _ e w.table_after in ap (λ (q : Page). q.end) f ∙ sym (lines-length (lines s))

pub returns-clause-table_after : goal.returns-clause-table_after
unfolding page_of
returns-clause-table_after c =
    let p = c.requires in
    let s = c.args.row.now.s in
    let e = links-put s p.tables.sound c.args.table.now _ _ _ _ (no_lines c.args.table.now) c.put_end-w.ensures.table_after c.put_upward-w.ensures.table_after c.put_downward-w.ensures.table_after in
    let w = c.put_sink.ensures in
    let f = plan-put s p.tables.sound c.args.table.now _ _ e w.table_after in ap (λ (q : Page). q.numbers) f
