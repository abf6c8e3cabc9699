-- `row_slots::slots::on_path_slots` meets its contract. Assumes nothing.
use mathlib.Core.Path.{ap, ◌∙◌}
use native.Mathlib.Omega.{arith}
use Prim.Native.Nat.{◌+◌, ◌<◌}
use Rattle.row_plan_model.specs.declared.Link.{Link}
use Rattle.row_plan_model.proofs.SlotsMade.{on-path-made}
use Rattle.row_plan_model.proofs.Tables.{link-there}
use Rattle.row_slots.proofs.slots.on_path_slots.Goals as goal

pub returns : goal.returns
returns c =
    let s = c.args.row.now.s in
    let p = c.requires in
    let t = p.held.tables in
    let i = c.args.i in
    let low : i < s.sink = p.i_lt_sink in
    let below = c.link_at.ensures ∙ link-there _ (i + 1) (omega (arith, t.sound.checked.sink)) ∙ t.upward.held (i + 1) (omega arith) (omega (arith, p.i_lt_sink, t.sound.checked.sink_depth)) in
    let own = c.link_at-2.ensures ∙ link-there _ i (omega (arith, t.sound.checked.sink)) ∙ t.downward.held i low in
    on-path-made s t.sound i _ _ _ _ _ _ _ low (ap (λ (x : Link). x.reservation.slots) p.held.links.end) below own c.times.ensures c.times-2.ensures c.plus.ensures c.plus-2.ensures
