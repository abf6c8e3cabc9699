-- `tree_ways::ways_of` meets its contract. Assumes nothing.
use Rattle.std.proofs.lemmas.Result.{err_from_is_err_and}
use Rattle.tree_ways.proofs.Staging.{led-held, loaded-held, ways-left, ways-refused}
use Rattle.tree_ways.proofs.ways_of.Goals as goal

pub returns-in_err-stage : goal.returns-in_err-stage
returns-in_err-stage c =
    let x = c.args in
    let p = err_from_is_err_and c.from_residual.result c.from_residual.ensures.1 in
    let e = c.in_err-stage.ensures in
    rw (p.1, p.2) (record { verdict_value = e.verdict_value; loads_left = e.loads_left; stage_left = e.stage_left; ways_left = ways-refused x.input.now x.b x.sink _ _ x.depths.now x.ways.now })

pub set_depths-requires-clause-rooted : goal.set_depths-requires-clause-rooted
set_depths-requires-clause-rooted c = (led-held _ _ _ _ _ _ c.in_ok-stage.ensures.loads_left.held).planted

pub set_depths-requires-clause-without_gaps : goal.set_depths-requires-clause-without_gaps
set_depths-requires-clause-without_gaps c = (led-held _ _ _ _ _ _ c.in_ok-stage.ensures.loads_left.held).without_gaps

pub set_ways-requires : goal.set_ways-requires
set_ways-requires c =
    let h = c.in_ok-stage.ensures.loads_left.held in
    record { loaded = loaded-held _ _ _ _ _ _ h _ c.timing_of.ensures; led = led-held _ _ _ _ _ _ h }

pub returns-clause-ways_left : goal.returns-clause-ways_left
returns-clause-ways_left c =
    let x = c.args in
    ways-left _ _ _ _ _ _ c.in_ok-stage.ensures.loads_left.held _ c.timing_of.ensures x.depths.now _ x.ways.now _ c.set_depths.ensures c.set_ways.ensures
