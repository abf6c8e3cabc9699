-- `decimal::is_shaped` meets its contract. Assumes nothing.
use native.Mathlib.Omega.{arith}
use lib.ListN.{length}
use borrow.Author.Tests.{le-leb, lt-leb}
use Rattle.decimal_model.specs.Number.{shaped}
use Rattle.decimal_model.proofs.Spelling.{shaped-one, shaped-several}
use Rattle.decimal.proofs.is_shaped.Goals as goal

pub returns-in-empty : goal.returns-in-empty
unfolding shaped
returns-in-empty c = simp (lt-leb 1 (length c.args.s.now) (omega arith))

pub returns-in-len1 : goal.returns-in-len1
returns-in-len1 c = shaped-one c.args.s.now (omega arith)

pub returns-then-s-le4 : goal.returns-then-s-le4
returns-then-s-le4 c = shaped-several c.args.s.now (omega arith) (omega arith)

pub returns-else-s-le4 : goal.returns-else-s-le4
unfolding shaped
returns-else-s-le4 c = let s = c.args.s.now in simp (le-leb 1 (length s) (omega arith), lt-leb (length s) 4 (omega arith))
