-- `report_length::line_length` meets its contract. Assumes nothing.
use mathlib.Core.Path.{ap}
use native.Mathlib.Omega.{arith}
use lib.ListN.{length}
use Rattle.report_model.proofs.LineText.{line-spaced}
use Rattle.report_length.proofs.line_length.Goals as goal

pub returns-clause-value : goal.returns-clause-value
returns-clause-value c =
    let e = rw c.numbers_of.ensures at c.spaced_length.ensures.value in omega (arith, e, ap length (line-spaced c.args.line))
