-- `report::put_refusal` meets its contract. Assumes nothing.
use mathlib.Core.Path.{◌≡◌}
use Rattle.refusals.specs.Refusals.{number_of, place_of}
use Rattle.report_model.proofs.LineText.{refusal-row}
use Rattle.report.proofs.put_refusal.Goals as goal

pub returns-clause-value : goal.returns-clause-value
returns-clause-value c =
    let r = c.args.refusal in
    let n : c.from-number.result ≡ number_of r = cc in
    let p : c.from-place.result ≡ place_of r = cc in
    rw (← refusal-row r _ _ n p) c.put_row.ensures.value

pub returns-clause-out_after : goal.returns-clause-out_after
returns-clause-out_after c =
    let r = c.args.refusal in
    let n : c.from-number.result ≡ number_of r = cc in
    let p : c.from-place.result ≡ place_of r = cc in
    rw (← refusal-row r _ _ n p) c.put_row.ensures.out_after
