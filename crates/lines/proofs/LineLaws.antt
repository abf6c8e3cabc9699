-- The line at a position of a text. Assumes nothing.
use Rattle.std.specs.Prelude.{None}
use mathlib.Core.Path.{◌≡◌}
use mathlib.Core.List.{List}
use Prim.Native.Nat.{ℕ, ◌+◌, ◌-◌, ◌≤◌, ◌<◌, min}
use native.Mathlib.Omega.{arith}
use lib.ListN.{length, take, drop, length-drop, length-take}
use Rattle.octets.specs.Bytes.{index_of}
use Rattle.lines.specs.Text.{first_line, line_at, found}
use Rattle.lines.proofs.Cutting.{index-le, lines-past, lines_step}

pub line-none : (s : List ℕ) (at : ℕ) → length s ≤ at → line_at s at ≡ None
unfolding line_at first_line
line-none s at h = rw (lines-past s at h)

pub line-found : (s : List ℕ) (at end : ℕ) → at < length s → end ≡ at + index_of 10 (drop at s)
    → line_at s at ≡ found at end (record { at = min (end + 1) (length s) })
unfolding line_at first_line
line-found s at end h e =
    let i = index-le 10 (drop at s) in
    let l = rw length-drop at i in
    let z : at + length (take (end - at) (drop at s)) ≡ end = rw (length-take, length-drop) (omega (arith, e, l)) in
    rw (lines_step s at end h e, z)
