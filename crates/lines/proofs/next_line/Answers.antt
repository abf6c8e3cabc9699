-- `lines::next_line` meets its contract. Assumes nothing.
use Rattle.lines.proofs.LineLaws.{line-none, line-found}
use native.Mathlib.Omega.{arith}
use mathlib.Core.Path.{sym}
use Rattle.lines.proofs.next_line.Goals as goal

pub returns-then-text-start : goal.returns-then-text-start
returns-then-text-start c = sym (line-none c.args.text.now c.args.cursor.at (omega arith))

pub returns : goal.returns
returns c =
    let a = c.args in rw c.min.ensures (sym (line-found a.text.now a.cursor.at c.find-end.result (omega arith) c.find-end.ensures.place))
