-- `row_decide::lines::put_upward` meets its contract. Assumes nothing.
use mathlib.Core.Path.{refl, sym, ap, ◌∙◌}
use Prim.Native.Nat.{◌-◌}
use native.Mathlib.Omega.{arith}
use Rattle.links.specs.declared.Figures.{Figures}
use Rattle.plan_model.specs.declared.Kind.TheVariants.{Upward}
use Rattle.plan_model.specs.Lines.{line}
use Rattle.row_model.specs.Lines.{up_lines}
use Rattle.row_plan_model.specs.Pages.{Page, page, pushed, filled}
use Rattle.row_plan_model.proofs.PageLaws.{up-figures, up_step, up-end}
use Rattle.row_plan_model.proofs.Tables.{link-there}
use Rattle.row_decide.proofs.lines.put_upward.Goals as goal

pub loop-i-preserved : goal.loop-i-preserved
loop-i-preserved c =
    let l = c.loop-i in
    let s = c.args.row.now.s in
    let p = c.requires in
    let link = c.link_at.ensures ∙ link-there _ l.i (omega (arith, p.held.tables.sound.checked.h)) ∙ p.held.tables.upward.held l.i (omega arith) (omega arith) in
    let f = up-figures s p.held.tables.sound l.i _ _ _ p.held.links.interval link refl in
    let w = c.put_link-w.ensures in
    let e = w.table_after ∙ ap (λ (x : Figures). pushed (page l.w l.table) (line Upward l.i x)) f in
    record {
      lines = ap (λ (q : Page). filled q (up_lines s (l.i - 1))) e ∙ up_step s (page l.w l.table) l.i (omega arith) ∙ l.invariant.lines;
      end = omega (arith, l.invariant.end, w.end_value);
    }

pub returns-clause-table_after : goal.returns-clause-table_after
returns-clause-table_after c =
    let l = c.loop-i in sym (up-end c.args.row.now.s (page l.w l.table) l.i (omega arith)) ∙ l.invariant.lines
