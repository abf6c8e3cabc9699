-- The entries of a table up to a number. Assumes nothing.
use mathlib.Core.Path.{◌≡◌}
use mathlib.Core.List.{List}
use Prim.Native.Nat.{ℕ, ◌<◌}
use native.Mathlib.Omega.{arith}
use lib.ListN.{length, get_or, take, length-take}
use lib.Seq.{get_or-take}

pub prefix-at : (n : ℕ) (l : List ℕ) (v : ℕ) → v < length (take n l) → get_or (take n l) v 0 ≡ get_or l v 0
prefix-at n l v h = get_or-take n l v 0 (omega (arith, length-take n l))
