-- `reason_table::columns::put_name` meets its contract. Assumes nothing.
use mathlib.Core.Path.{◌≡◌, ◌∙◌}
use native.Mathlib.Omega.{arith}
use native.Mathlib.Numerals.{add-one}
use Prim.Native.Nat.{◌+◌}
use lib.ListN.{length, get_or, take}
use lib.Seq.{length-take-le, take-suc}
use Rattle.buffer.proofs.Putting.{sets-byte}
use Rattle.reason_table.proofs.columns.put_name.Goals as goal

pub loop-k-preserved : goal.loop-k-preserved
loop-k-preserved c =
    let a = c.args in
    let k = c.loop-k.k in
    let h = c.loop-k-test.true in
    let z : length (take k a.name.now) ≡ k = length-take-le k a.name.now (omega arith) in
    c.put_byte.ensures ∙ rw (c.loop-k.invariant, add-one k, take-suc a.name.now k 0 h) (rw z at (sets-byte a.out.now a.at (take k a.name.now) (get_or a.name.now k 0)))
