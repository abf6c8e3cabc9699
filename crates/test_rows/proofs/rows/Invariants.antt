-- `test_rows::rows` ends: the cursor moves forward within the text. Assumes nothing.
use Rattle.std.proofs.Common.{◌-◌, length}
use Rattle.test_rows.proofs.rows.Given as goal

abbrev pub decreases-loop-line : goal.decreases-loop-line
decreases-loop-line g l = length l.text - l.cursor.at
