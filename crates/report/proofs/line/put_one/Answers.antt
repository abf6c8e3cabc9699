-- `report::line::put_one` meets its contract. Assumes nothing.
use native.Mathlib.Omega.{arith}
use Rattle.decimal_model.proofs.Writing.{at-most-twenty}
use Rattle.report.proofs.line.put_one.Goals as goal

pub overflow_add-result-2 : goal.overflow_add-result-2
overflow_add-result-2 c =
    let h = at-most-twenty c.args.n c.ranges.n.fits in
    omega (arith, h.1, c.requires, c.put_number.ensures.value)

pub returns-clause-upper_bound : goal.returns-clause-upper_bound
returns-clause-upper_bound c =
    let h = at-most-twenty c.args.n c.ranges.n.fits in
    omega (arith, h.1, c.put_number.ensures.value)
