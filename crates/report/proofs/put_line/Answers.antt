-- `report::put_line` meets its contract. Assumes nothing.
use Rattle.report_model.proofs.LineText.{line-row}
use Rattle.report.proofs.put_line.Goals as goal

pub returns-clause-value : goal.returns-clause-value
returns-clause-value c = rw (← line-row c.args.line _ _ c.letter_of.ensures c.numbers_of.ensures) c.put_row.ensures.value

pub returns-clause-out_after : goal.returns-clause-out_after
returns-clause-out_after c = rw (← line-row c.args.line _ _ c.letter_of.ensures c.numbers_of.ensures) c.put_row.ensures.out_after
