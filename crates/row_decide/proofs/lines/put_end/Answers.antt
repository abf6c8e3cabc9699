-- `row_decide::lines::put_end` meets its contract. Assumes nothing.
use mathlib.Core.Path.{refl}
use native.Mathlib.Omega.{arith}
use Rattle.row_plan_model.specs.Pages.{page}
use Rattle.row_plan_model.proofs.PageLaws.{end-figures}
use Rattle.row_plan_model.proofs.Ends.{end_none, end-some}
use Rattle.row_decide.proofs.lines.put_end.Goals as goal

pub returns-then-row-eq0-clause-table_after : goal.returns-then-row-eq0-clause-table_after
returns-then-row-eq0-clause-table_after c = end_none c.args.row.now.s (page c.args.w c.args.table.now) c.if-row-eq0.true

pub returns-clause-table_after : goal.returns-clause-table_after
returns-clause-table_after c =
    let p = c.requires in
    let e = c.put_link.ensures in
    let f = end-figures c.args.row.now.s p.held.tables.sound _ _ _ p.held.links.interval p.held.links.end refl in end-some c.args.row.now.s (page c.args.w c.args.table.now) _ _ (omega (arith, c.if-row-eq0.false)) f e.table_after
