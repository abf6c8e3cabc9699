-- `row_print::print` meets its contract. Assumes nothing.
use mathlib.Core.Path.{◌≡◌, refl, ap}
use mathlib.Core.List.{[], ◌∷◌, ◌++◌}
use Prim.Native.Nat.{ℕ, ◌+◌, min}
use native.Mathlib.Omega.{arith}
use Rattle.buffer.proofs.Behind.{put-behind, front_ends}
use Rattle.report_model.specs.Text.{line_text}
use Rattle.row_print.proofs.Paging.{behind-none, behind_more, text-put}
use Rattle.row_print.proofs.print.Goals as goal

pub loop-i-init : goal.loop-i-init
loop-i-init c =
    let table = c.args.table.now in
    let e = c.put_header-end.ensures.value in
    (omega arith, rw (behind-none table) (record { ends = e; leaves = refl }))

pub loop-i-preserved : goal.loop-i-preserved
loop-i-preserved c =
    let w = c.put_line-end.ensures in
    let table = c.args.table.now in
    let more = behind_more table c.loop-i.i c.line_at.result c.line_at.ensures in
    let p = put-behind (line_text c.line_at.result ++ 10 ∷ []) c.loop-i.invariant.1 (ap (λ (k : ℕ). c.loop-i.end + k) w.value) w.out_after in
    (omega arith, rw more p)

pub returns-clause-value : goal.returns-clause-value
returns-clause-value c =
    let a = c.args in
    let n : c.loop-i.i ≡ min a.lines 26 = omega arith in
    let p = rw n at (text-put a.table.now c.loop-i.i c.put_header-end.ensures.out_after c.loop-i.invariant.1) in front_ends p

pub returns-clause-out_after : goal.returns-clause-out_after
returns-clause-out_after c =
    let a = c.args in
    let n : c.loop-i.i ≡ min a.lines 26 = omega arith in
    let p = rw n at (text-put a.table.now c.loop-i.i c.put_header-end.ensures.out_after c.loop-i.invariant.1) in p.leaves
