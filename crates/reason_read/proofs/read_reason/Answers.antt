-- `reason_read::read_reason` meets its contract. Assumes nothing.
use mathlib.Core.Path.{refl, sym, ◌∙◌}
use Rattle.refusals.specs.Table.{table}
use Rattle.reason_model.specs.Reading.{read_reason}
use Rattle.reason_model.proofs.Sorts.{sort-found, sort-later, sort-none}
use Rattle.reason_read.proofs.read_reason.Goals as goal

pub loop-sort-init : goal.loop-sort-init
unfolding read_reason
loop-sort-init c = refl

pub returns-in-Some : goal.returns-in-Some
unfolding table
returns-in-Some c =
    let line = c.args.line.now in
    let l = c.loop-sort in
    rw c.number_at.ensures (sym (sort-found line l.sort c.loop-sort-test.true _ (sym c.in-Some.ensures)) ∙ l.invariant)

pub loop-sort-preserved : goal.loop-sort-preserved
unfolding table
loop-sort-preserved c =
    let line = c.args.line.now in
    let l = c.loop-sort in
    sym (sort-later line l.sort c.loop-sort-test.true (sym c.in_default.ensures)) ∙ l.invariant

pub returns : goal.returns
unfolding table
returns c =
    let line = c.args.line.now in
    let l = c.loop-sort in
    sym (sort-none line l.sort c.loop-sort-test.false) ∙ l.invariant
