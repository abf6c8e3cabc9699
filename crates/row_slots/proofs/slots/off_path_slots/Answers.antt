-- `row_slots::slots::off_path_slots` meets its contract. Assumes nothing.
use mathlib.Core.Path.{ap, ◌∙◌}
use native.Mathlib.Omega.{arith}
use Prim.Native.Nat.{◌+◌, ◌<◌}
use Rattle.row_plan_model.specs.declared.Link.{Link}
use Rattle.row_plan_model.proofs.SlotsMade.{off-path-made, ends-made}
use Rattle.row_plan_model.proofs.Tables.{link-there}
use Rattle.row_slots.proofs.slots.off_path_slots.Goals as goal

pub returns-then-i-row : goal.returns-then-i-row
returns-then-i-row c =
    let i = c.args.i in
    let p = c.requires in
    let t = p.tables in
    let low : i < c.args.row.now.s.h = c.if-i-row.true in
    let below = c.link_at.ensures ∙ link-there _ (i + 1) (omega (arith, t.sound.checked.h)) ∙ t.upward.held (i + 1) (omega arith) (omega arith) in
    off-path-made c.args.row.now.s t.sound i _ _ _ _ _ low (ap (λ (x : Link). x.reservation.slots) p.links.end) below c.times-ends.ensures c.times.ensures c.plus.ensures

pub returns : goal.returns
returns c =
    let p = c.requires in
    ends-made c.args.row.now.s p.tables.sound c.args.i _ _ (omega (arith, c.if-i-row.false)) (ap (λ (x : Link). x.reservation.slots) p.links.end) c.times-ends.ensures
