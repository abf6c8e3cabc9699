-- `settings::columns::fits` meets its contract. Assumes nothing.
use Rattle.settings_model.specs.Columns.{twelve, every_column}
use Rattle.settings_model.proofs.Ranges.{lowest-listed, highest-listed, below-range, above-lowest}
use Rattle.settings.proofs.columns.fits.Goals as goal

pub returns-then-lowest-value : goal.returns-then-lowest-value
unfolding twelve every_column
returns-then-lowest-value c =
    let k = c.args.k in
    above-lowest k c.args.value _ _ (lowest-listed k) (highest-listed k) c.if-lowest-value.true

pub returns-else-lowest-value : goal.returns-else-lowest-value
unfolding twelve every_column
returns-else-lowest-value c =
    let k = c.args.k in
    below-range k c.args.value _ (lowest-listed k) c.if-lowest-value.false
