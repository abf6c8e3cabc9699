-- `reason_table::phrases::phrase` meets its contract. Assumes nothing.
use mathlib.Core.Path.{sym}
use Rattle.decimal_model.specs.Ascii.{ascii}
use Rattle.refusals.specs.Table.{table}
use Rattle.reason_model.specs.Inner.{phrases}
use Rattle.reason_model.proofs.Tables.{text-listed, phrase-listed, phrase-else}
use Rattle.reason_table.proofs.phrases.phrase.Goals as goal

pub returns-then-sort-lt-SORTS-clause-value : goal.returns-then-sort-lt-SORTS-clause-value
unfolding table phrases ascii
returns-then-sort-lt-SORTS-clause-value c = rw text-listed (phrase-listed c.args.sort)

pub returns-else-sort-lt-SORTS-clause-value : goal.returns-else-sort-lt-SORTS-clause-value
unfolding table
returns-else-sort-lt-SORTS-clause-value c = sym (phrase-else c.args.sort c.if-sort-lt-SORTS.false)
