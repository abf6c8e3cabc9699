-- `reason_read::matching::match_phrase` meets its contract. Assumes nothing.
use mathlib.Core.Path.{sym, ◌∙◌}
use Rattle.reason_model.proofs.Following.{followed-more, followed-nowhere, followed-all}
use Rattle.reason_read.proofs.matching.match_phrase.Goals as goal

pub returns-in_err-place : goal.returns-in_err-place
returns-in_err-place c =
    let l = c.loop-part in
    let s = c.split_at.ensures in
    let n = followed-nowhere c.args.phrase.now l.rest.now l.place l.part-index c.loop-part-test.true c.extent.result c.extent.ensures.value (rw s.front at (sym c.in_err-place.ensures)) in
    c.from_residual.ensures ∙ n ∙ l.invariant

pub loop-part-preserved : goal.loop-part-preserved
loop-part-preserved c =
    let l = c.loop-part in
    let s = c.split_at.ensures in
    rw s.back (followed-more c.args.phrase.now l.rest.now l.place l.part-index c.loop-part-test.true c.extent.result c.extent.ensures.value c.in_ok-place.place (rw s.front at (sym c.in_ok-place.ensures)) ∙ l.invariant)

pub returns : goal.returns
returns c =
    let l = c.loop-part in
    c.then_some.ensures ∙ rw c.is_empty.ensures (followed-all c.args.phrase.now l.rest.now l.place l.part-index c.loop-part-test.false) ∙ l.invariant
