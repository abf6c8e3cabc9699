-- A number that was read to its end. Assumes nothing.
use Rattle.std.specs.Prelude.{Some}
use mathlib.Core.Path.{◌≡◌}
use mathlib.Core.Bool.{true}
use mathlib.Core.List.{List}
use Prim.Native.Nat.{ℕ, ◌^◌, ◌≤◌, ◌<◌}
use lib.ListN.{length, drop}
use Rattle.decimal_model.specs.Number.{spelled_after, spelled}
use Rattle.reason_model.specs.Reading.{numeral, place_in}
use Rattle.reason_model.proofs.Words.{place-whole}

-- the place of a numeral of which nothing is left, in 32 bits
pub read_whole : (w : List ℕ) (k v : ℕ) → numeral w ≡ true → spelled_after v (drop k w) ≡ spelled w → length w ≤ k → v < 2 ^ 32 → Some v ≡ place_in w
read_whole w k v n l h o = place-whole w n k v l h o
