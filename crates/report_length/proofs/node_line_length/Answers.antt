-- `report_length::node_line_length` meets its contract. Assumes nothing.
use mathlib.Core.Path.{ap}
use mathlib.Core.List.{[], ◌∷◌}
use native.Mathlib.Omega.{arith}
use lib.ListN.{length, length-append}
use Rattle.report_model.specs.TreeText.{node_text}
use Rattle.report_model.proofs.LineText.{node-spaced}
use Rattle.report_length.proofs.node_line_length.Goals as goal

pub returns-clause-value : goal.returns-clause-value
returns-clause-value c =
    let n = c.args.node in omega (arith, simp length-append at (ap length (node-spaced n)), length-append (node_text n) (10 ∷ []))
