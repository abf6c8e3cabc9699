-- `row_read::read_named_row` meets its contract. Assumes nothing.
use mathlib.Core.Path.{ap, ◌∙◌}
use Rattle.row_read_model.specs.declared.Heading.{Heading}
use Rattle.row_read_model.specs.Rows.{row_under, named_row}
use Rattle.row_read.proofs.read_named_row.Goals as goal

pub returns : goal.returns
unfolding named_row
returns c = c.read_row.ensures ∙ ap (λ (h : Heading). row_under h c.args.row.now) c.heading_of.ensures
