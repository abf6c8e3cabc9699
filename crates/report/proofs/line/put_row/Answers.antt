-- `report::line::put_row` meets its contract. Assumes nothing.
use mathlib.Core.Path.{◌∙◌}
use mathlib.Core.List.{◌++◌}
use native.Mathlib.Omega.{arith}
use Rattle.report_model.specs.Inner.{row}
use Rattle.report_model.proofs.LineText.{row-put}
use Rattle.buffer.proofs.Behind.{sets-lower}
use Rattle.report.proofs.line.put_row.Goals as goal

pub returns-clause-value : goal.returns-clause-value
returns-clause-value c =
    let a = c.args in
    let v = c.put_spaced-end.ensures in
    let w = c.put_spaced-end-2.ensures in
    omega (arith, (row-put a.letter a.numbers.now a.more.now c.put_byte.ensures v.value v.out_after w.value w.out_after c.put_byte-2.ensures).ends)

pub returns-clause-out_after : goal.returns-clause-out_after
returns-clause-out_after c =
    let a = c.args in
    let v = c.put_spaced-end.ensures in
    let w = c.put_spaced-end-2.ensures in
    let p = row-put a.letter a.numbers.now a.more.now c.put_byte.ensures v.value v.out_after w.value w.out_after c.put_byte-2.ensures in
    p.leaves ∙ sets-lower a.out.now a.at c.min-start.result (row a.letter (a.numbers.now ++ a.more.now)) c.min-start.ensures
