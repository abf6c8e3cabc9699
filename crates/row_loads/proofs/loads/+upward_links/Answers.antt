-- `row_loads::loads::upward_links` meets its contract. Assumes nothing.
use Rattle.std.proofs.Common.{◌≡◌, ◌<◌, refl, sym, ap, subst, ◌∙◌, set, arith}
use Rattle.links.specs.Link.{no_load}
use Rattle.row_plan_model.specs.Inner.{HeldFrom, link_up}
use Rattle.row_plan_model.proofs.Tables.{set_last, set-from}
use Rattle.row_plan_model.proofs.Depths.{last_made, up-made}
use Rattle.row_loads.proofs.loads.+upward_links.Goals as goal

-- the deepest routers
pub returns-then-i-s-clause-value : goal.returns-then-i-s-clause-value
returns-then-i-s-clause-value t c =
    let a = c.args in
    let p = c.requires in
    let last : a.i ≡ a.s.h = c.if-i-s.true in
    last_made a.s p.sound a.t a.local _ p.t_value p.local_value c.link_for-link.ensures ∙ ap (link_up a.s) (sym last)

pub returns-then-i-s-clause-held_from : goal.returns-then-i-s-clause-held_from
returns-then-i-s-clause-held_from t c =
    let a = c.args in
    let p = c.requires in
    let last : a.i ≡ a.s.h = c.if-i-s.true in
    let x = last_made a.s p.sound a.t a.local _ p.t_value p.local_value c.link_for-link.ensures ∙ ap (link_up a.s) (sym last) in
    subst (λ h. HeldFrom (link_up a.s) a.i h (set a.up.now a.i c.link_for-link.result)) last (set_last (link_up a.s) _ a.i _ (omega (arith, p.sound.checked.h)) x c.told-up)

-- the routers above them
pub returns-clause-value : goal.returns-clause-value
returns-clause-value t c =
    let a = c.args in
    let p = c.requires in
    let low : a.i < a.s.h = omega (arith, p.i_le_h, c.if-i-s.false) in
    let u = c.upward_links-below.ensures in
    up-made a.s p.sound a.i a.t a.local no_load _ _ low p.t_value p.local_value u.value refl c.joined_link-link.ensures

pub returns-clause-held_from : goal.returns-clause-held_from
returns-clause-held_from t c =
    let a = c.args in
    let p = c.requires in
    let low : a.i < a.s.h = omega (arith, p.i_le_h, c.if-i-s.false) in
    let u = c.upward_links-below.ensures in
    let x = up-made a.s p.sound a.i a.t a.local no_load _ _ low p.t_value p.local_value u.value refl c.joined_link-link.ensures in
    set-from (link_up a.s) _ a.i _ (omega (arith, p.sound.checked.h)) x a.s.h u.held_from
