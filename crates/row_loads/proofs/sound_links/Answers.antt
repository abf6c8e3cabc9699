-- `row_loads::sound_links` meets its contract. Assumes nothing.
use mathlib.Core.Path.{ap, ◌∙◌}
use native.Mathlib.Omega.{arith}
use Rattle.links.specs.declared.Timing.{Timing}
use Rattle.row_plan_model.specs.declared.Link.{Link}
use Rattle.row_plan_model.proofs.Depths.{end-link-made}
use Rattle.row_plan_model.proofs.Ends.{sink-load-made}
use Rattle.row_plan_model.proofs.Tables.{link-there}
use Rattle.row_loads.proofs.sound_links.Goals as goal

pub near_load-local-requires-clause-end_value : goal.near_load-local-requires-clause-end_value
near_load-local-requires-clause-end_value c =
    ap (λ (x : Link). x.reservation) (end-link-made c.args.s c.requires _ _ _ c.row_timing-t.ensures c.sensor_load-made.ensures c.link_for-end.ensures)

pub returns-clause-tables_held : goal.returns-clause-tables_held
returns-clause-tables_held c =
    record { sound = c.requires; upward = c.upward_links.ensures.held_from; downward = c.downward_links-passing.ensures.held_below }

pub returns-clause-links_value : goal.returns-clause-links_value
returns-clause-links_value c =
    let s = c.args.s in
    let t = c.row_timing-t.ensures in
    let here = c.link_at.ensures ∙ link-there _ s.sink (omega (arith, c.requires.checked.sink)) ∙ c.upward_links.ensures.held_from.held s.sink (omega arith) c.requires.checked.sink_depth in
    record {
      interval = ap (λ (x : Timing). x.interval) t;
      end = end-link-made s c.requires _ _ _ t c.sensor_load-made.ensures c.link_for-end.ensures;
      arriving = sink-load-made s c.requires _ _ _ here c.downward_links-passing.ensures.value c.plus.ensures;
    }
