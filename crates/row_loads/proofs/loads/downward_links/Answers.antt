-- `row_loads::loads::downward_links` meets its contract. Assumes nothing.
use mathlib.Core.Path.{sym, ◌∙◌}
use native.Mathlib.Omega.{arith}
use Prim.Native.Nat.{◌+◌}
use Rattle.row_plan_model.specs.Inner.{link_down}
use Rattle.row_plan_model.proofs.Depths.{down-made, coming-first, coming-made}
use Rattle.row_plan_model.proofs.Tables.{none_below, set_below, link-there}
use Rattle.row_loads.proofs.loads.downward_links.Goals as goal

pub loop-i-init : goal.loop-i-init
loop-i-init c = record { passing = sym (coming-first c.args.s); held = none_below (link_down c.args.s) c.args.down.now c.told-down }

pub loop-i-preserved : goal.loop-i-preserved
loop-i-preserved c =
    let a = c.args in
    let p = c.requires in
    let i = c.loop-i.i in
    let below = c.link_at-below.ensures ∙ link-there _ (i + 1) (omega (arith, p.sound.checked.sink)) ∙ p.held_from.held (i + 1) (omega arith) (omega (arith, p.sound.checked.sink_depth)) in
    let x = down-made a.s p.sound i a.t a.local _ _ _ c.loop-i-test.true p.t_value p.local_value below c.loop-i.invariant.passing c.joined_link-link.ensures in
    record {
      passing = coming-made a.s p.sound i _ _ c.loop-i-test.true x c.after-passing.ensures;
      held = set_below (link_down a.s) _ i _ (omega (arith, p.sound.checked.sink)) x c.loop-i.invariant.held;
    }
