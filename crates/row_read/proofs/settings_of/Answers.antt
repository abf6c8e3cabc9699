-- `row_read::settings_of` meets its contract. Assumes nothing.
use mathlib.Core.Path.{refl}
use Rattle.row_read_model.specs.Rows.{settings_of}
use Rattle.row_read.proofs.settings_of.Goals as goal

pub returns : goal.returns
unfolding settings_of
returns c = refl
