-- `superframe::exchange::table_entry` meets its contract. Assumes nothing.
use mathlib.Core.Path.{ap, ◌∙◌}
use Rattle.measure.specs.Measures.{symbols}
use Rattle.superframe_model.specs.Exchange.{air_time, acknowledgement, spacing, exchange}
use Rattle.superframe_model.specs.ExchangeTable.{entries_from, exchange_table}
use Rattle.superframe_model.proofs.TableLaws.{entry-is, entry-none, in_order}
use Rattle.superframe.proofs.exchange.table_entry.Goals as goal

pub returns-then-index-lt244-clause-value : goal.returns-then-index-lt244-clause-value
unfolding exchange_table entries_from exchange air_time acknowledgement spacing
returns-then-index-lt244-clause-value c = ap symbols c.from.ensures ∙ entry-is c.args.index c.if-index-lt244.true

pub returns-then-index-lt244-clause-in_order : goal.returns-then-index-lt244-clause-in_order
unfolding exchange_table entries_from exchange air_time acknowledgement spacing
returns-then-index-lt244-clause-in_order c = (in_order _ _ (ap symbols c.from.ensures ∙ entry-is c.args.index c.if-index-lt244.true)).1

pub returns-else-index-lt244-clause-value : goal.returns-else-index-lt244-clause-value
returns-else-index-lt244-clause-value c = entry-none _ c.if-index-lt244.false

pub returns-else-index-lt244-clause-in_order : goal.returns-else-index-lt244-clause-in_order
returns-else-index-lt244-clause-in_order c = (in_order _ _ (entry-none _ c.if-index-lt244.false)).1
