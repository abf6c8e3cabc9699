-- `report::put_tree_header` meets its contract. Assumes nothing.
use Rattle.decimal_model.specs.Ascii.{ascii}
use Rattle.report_model.specs.TreeText.{tree_header}
use Rattle.report.proofs.put_tree_header.Goals as goal

pub returns-clause-out_after : goal.returns-clause-out_after
unfolding tree_header ascii
returns-clause-out_after c = c.put_bytes.ensures.out_after
