-- `report::put_header` meets its contract. Assumes nothing.
use Rattle.decimal_model.specs.Ascii.{ascii}
use Rattle.report_model.specs.Text.{header}
use Rattle.report.proofs.put_header.Goals as goal

pub returns-clause-out_after : goal.returns-clause-out_after
unfolding header ascii
returns-clause-out_after c = c.put_bytes.ensures.out_after
