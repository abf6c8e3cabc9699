-- `row_print::printed_length` meets its contract. Assumes nothing.
use mathlib.Core.Path.{◌≡◌, ap}
use mathlib.Core.List.{[], ◌∷◌, ◌++◌}
use Prim.Native.Nat.{min}
use native.Mathlib.Omega.{arith}
use lib.ListN.{length, length-append}
use Rattle.report_model.specs.Text.{line_text}
use Rattle.row_print.proofs.Paging.{behind, behind-none, behind_more, text-length}
use Rattle.row_print.proofs.printed_length.Goals as goal

pub loop-i-init : goal.loop-i-init
loop-i-init c = omega (arith, ap length (behind-none c.args.table.now))

pub loop-i-preserved : goal.loop-i-preserved
loop-i-preserved c =
    let table = c.args.table.now in
    let more = behind_more table c.loop-i.i c.line_at.result c.line_at.ensures in
    omega (arith, ap length more, length-append (behind table c.loop-i.i) (line_text c.line_at.result ++ 10 ∷ []), length-append (line_text c.line_at.result) (10 ∷ []))

pub returns-clause-value : goal.returns-clause-value
returns-clause-value c =
    let a = c.args in
    let n : c.loop-i.i ≡ min a.lines 26 = omega arith in rw (← n) (omega (arith, text-length a.table.now c.loop-i.i))
