-- `test_rows::rows` ends. Assumes nothing.
use Rattle.std.proofs.Common.{arith, sym}
use Rattle.lines.proofs.LawsHold.{found-advances}
use Rattle.test_rows.proofs.rows.Goals as goal

pub loop-line-smaller : goal.loop-line-smaller
loop-line-smaller g c =
    let a = found-advances c.args.text.now c.loop-line.cursor.at _ _ _ (sym c.in-Some.ensures) in
    omega (arith, a.forward, a.next_within)
