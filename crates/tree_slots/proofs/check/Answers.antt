-- `tree_slots::check` meets its contract. Assumes nothing.
use mathlib.Core.Path.{sym, ◌∙◌}
use Rattle.tree_slots.proofs.Stages.{before-broken, loaded-held, slots_next}
use Rattle.tree_slots.proofs.check.Goals as goal

pub returns-in-Err-clause-verdict_value : goal.returns-in-Err-clause-verdict_value
returns-in-Err-clause-verdict_value c = let x = c.args in before-broken x.input.now x.b x.sink _ (sym c.in-Err.ensures.verdict_value)

pub slots_fit-requires-clause-loaded : goal.slots_fit-requires-clause-loaded
slots_fit-requires-clause-loaded c = loaded-held _ _ _ _ _ _ c.in-Ok.ensures.loads_left.held _ c.timing_of.ensures

pub returns-in-Ok-slots_fit-clause-verdict_value : goal.returns-in-Ok-slots_fit-clause-verdict_value
returns-in-Ok-slots_fit-clause-verdict_value c =
    let k = c.in-Ok.ensures in
    c.in-Ok-slots_fit.ensures ∙ slots_next _ _ _ _ _ _ k.loads_left.held _ c.timing_of.ensures (sym k.verdict_value)

pub returns-in-Err-slots_fit-clause-verdict_value : goal.returns-in-Err-slots_fit-clause-verdict_value
returns-in-Err-slots_fit-clause-verdict_value c =
    let k = c.in-Ok.ensures in
    c.in-Err-slots_fit.ensures ∙ slots_next _ _ _ _ _ _ k.loads_left.held _ c.timing_of.ensures (sym k.verdict_value)
