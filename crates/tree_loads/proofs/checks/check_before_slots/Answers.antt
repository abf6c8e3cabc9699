-- `tree_loads::checks::check_before_slots` meets its contract. Assumes nothing.
use mathlib.Core.Path.{sym, ◌∙◌}
use Rattle.std.proofs.lemmas.Result.{err_from_is_err_and}
use Rattle.tree_plan_model.specs.Inner.{shape}
use Rattle.tree_plan_model.proofs.Answers.{sink-first, three-four-next, six-next, kept-checked}
use Rattle.tree_loads.proofs.checks.check_before_slots.Goals as goal

pub returns-then-not-sink_right : goal.returns-then-not-sink_right
returns-then-not-sink_right c = sink-first c.args.b (shape c.args.parents.now) c.args.sink (sym c.if-not-sink_right.true ∙ c.sink_right.ensures)

pub returns-in_err-check_radio : goal.returns-in_err-check_radio
returns-in_err-check_radio c =
    let p = err_from_is_err_and c.from_residual.result c.from_residual.ensures.1 in
    rw (p.1, p.2) (three-four-next c.args.b (shape c.args.parents.now) c.args.sink (sym c.if-not-sink_right.false ∙ c.sink_right.ensures) _ (sym c.in_err-check_radio.ensures))

pub superframes_fit-requires-clause-checked_radio : goal.superframes_fit-requires-clause-checked_radio
superframes_fit-requires-clause-checked_radio c = kept-checked c.args.b (shape c.args.parents.now) c.args.sink (sym c.in_ok-check_radio.ensures)

pub returns : goal.returns
returns c = c.superframes_fit.ensures ∙ six-next c.args.b (shape c.args.parents.now) c.args.sink (sym c.if-not-sink_right.false ∙ c.sink_right.ensures) (sym c.in_ok-check_radio.ensures)
