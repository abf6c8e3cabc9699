-- A text and its LF put at the front. Assumes nothing.
use mathlib.Core.Path.{◌≡◌}
use mathlib.Core.List.{List, [], ◌∷◌, ◌++◌}
use Prim.Native.Nat.{ℕ, ◌+◌}
use native.Mathlib.Omega.{arith}
use lib.ListN.{length, length-append}
use lib.Seq.{sets}
use Rattle.lines.specs.Text.{ended}
use Rattle.buffer.proofs.Putting.{sets-sets}

pub put_ended : (e t : List ℕ) → sets (sets e 0 t) (length t) (10 ∷ []) ≡ sets e 0 (t ++ 10 ∷ [])
put_ended e t = let q : length t ≡ 0 + length t = omega arith in rw q (sets-sets e 0 t (10 ∷ []))

pub length_ended : (t : List ℕ) → length (ended (t ∷ [])) ≡ length t + 1
unfolding ended
length_ended t = length-append t (10 ∷ [])
