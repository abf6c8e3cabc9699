-- `tree_loads::loads_of` meets its contract. Assumes nothing.
use mathlib.Core.Path.{sym}
use Rattle.std.proofs.lemmas.Result.{err_from_is_err_and}
use Rattle.tree_loads.proofs.Holding.{list-first, left-refused, check-refused, check-kept, walk-asked, walk-left}
use Rattle.tree_loads.proofs.loads_of.Goals as goal

pub returns-in_err-listed : goal.returns-in_err-listed
returns-in_err-listed c =
    let a = c.args in
    let p = err_from_is_err_and c.from_residual.result c.from_residual.ensures.1 in
    let q = list-first a.input.now a.b a.sink _ (sym c.in_err-listed.ensures.verdict_value) in
    rw (p.1, p.2) (record { verdict_value = q; loads_left = left-refused a.input.now a.b a.sink _ _ q })

pub returns-in_err-check_before_slots : goal.returns-in_err-check_before_slots
returns-in_err-check_before_slots c =
    let a = c.args in
    let r = c.in_ok-listed in
    let p = err_from_is_err_and c.from_residual-in_err-check_before_slots.result c.from_residual-in_err-check_before_slots.ensures.1 in
    let q = check-refused a.input.now (sym r.ensures.verdict_value) r.listed.nodes _ _ _ r.ensures.whole _ c.link_children.ensures.kin_len c.link_children.ensures.linked a.b a.sink _ c.in_err-check_before_slots.ensures in
    rw (p.1, p.2) (record { verdict_value = q; loads_left = left-refused a.input.now a.b a.sink _ _ q })

pub walk-requires : goal.walk-requires
walk-requires c =
    let a = c.args in
    let r = c.in_ok-listed in
    let w = walk-asked a.input.now (sym r.ensures.verdict_value) r.listed.nodes _ _ _ r.ensures.whole _ c.link_children.ensures.kin_len c.link_children.ensures.linked a.b a.sink c.in_ok-check_before_slots.ensures _ c.timing_of.ensures in
    record { given = w.0; linked = w.1; le_sink = w.2; sink_in_bounds = w.3 }

pub returns : goal.returns
returns c =
    let a = c.args in
    let r = c.in_ok-listed in
    let k = sym r.ensures.verdict_value in
    let w = r.ensures.whole in
    let t = c.link_children.ensures in
    let q = c.in_ok-check_before_slots.ensures in
    record {
      verdict_value = check-kept a.input.now k r.listed.nodes _ _ _ w _ t.kin_len t.linked a.b a.sink q;
      loads_left = walk-left a.input.now k r.listed.nodes _ _ _ w _ t.kin_len t.linked a.b a.sink q _ c.timing_of.ensures _ _ c.walk.ensures;
    }
