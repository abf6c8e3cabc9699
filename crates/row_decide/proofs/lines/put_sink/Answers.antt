-- `row_decide::lines::put_sink` meets its contract. Assumes nothing.
use mathlib.Core.Path.{ap, ◌∙◌}
use Rattle.plan_model.specs.declared.Line.{Line}
use Rattle.row_plan_model.specs.Pages.{page, pushed}
use Rattle.row_plan_model.proofs.Ends.{sink-line-made}
use Rattle.row_decide.proofs.lines.put_sink.Goals as goal

pub returns-clause-table_after : goal.returns-clause-table_after
returns-clause-table_after c =
    let p = c.requires in
    let w = c.put_next.ensures in
    let l = sink-line-made c.args.row.now.s _ _ c.args.w.delay _ p.held.links.interval p.held.links.arriving p.delay_value c.whole_frames.ensures in w.table_after ∙ ap (λ (x : Line). pushed (page c.args.w c.args.table.now) x) l
