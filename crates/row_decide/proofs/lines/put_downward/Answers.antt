-- `row_decide::lines::put_downward` meets its contract. Assumes nothing.
use mathlib.Core.Path.{refl, sym, ap, ◌∙◌}
use Prim.Native.Nat.{◌+◌, ◌-◌}
use native.Mathlib.Omega.{arith}
use Rattle.links.specs.declared.Figures.{Figures}
use Rattle.plan_model.specs.declared.Kind.TheVariants.{Downward}
use Rattle.plan_model.specs.Lines.{line}
use Rattle.row_plan_model.specs.Pages.{Page, page, pushed, filled, down_lines_from}
use Rattle.row_plan_model.proofs.PageLaws.{down-figures, down_step, down-end}
use Rattle.row_plan_model.proofs.Tables.{link-there}
use Rattle.row_decide.proofs.lines.put_downward.Goals as goal

pub loop-i-preserved : goal.loop-i-preserved
loop-i-preserved c =
    let l = c.loop-i in
    let s = c.args.row.now.s in
    let p = c.requires in
    let low = c.loop-i-test.true in
    let link = c.link_at.ensures ∙ link-there _ l.i (omega (arith, p.held.tables.sound.checked.sink)) ∙ p.held.tables.downward.held l.i low in
    let f = down-figures s p.held.tables.sound l.i _ _ _ low p.held.links.interval link refl in
    let w = c.put_link-w.ensures in
    let e = w.table_after ∙ ap (λ (x : Figures). pushed (page l.w l.table) (line Downward l.i x)) f in
    record {
      lines = ap (λ (q : Page). filled q (down_lines_from s (s.sink - (l.i + 1)) (l.i + 1))) e ∙ down_step s (page l.w l.table) l.i low ∙ l.invariant.lines;
      end = omega (arith, l.invariant.end, w.end_value);
    }

pub returns-clause-table_after : goal.returns-clause-table_after
returns-clause-table_after c =
    let l = c.loop-i in sym (down-end c.args.row.now.s (page l.w l.table) l.i (omega (arith, c.loop-i-test.false))) ∙ l.invariant.lines
