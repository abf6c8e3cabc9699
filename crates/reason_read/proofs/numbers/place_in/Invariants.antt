-- What the loop of `reason_read::numbers::place_in` keeps. Assumes nothing.
use mathlib.Core.Path.{◌≡◌}
use Prim.Native.Nat.{◌^◌, ◌<◌}
use lib.ListN.{drop}
use Rattle.decimal_model.specs.Number.{spelled_after, spelled}
use Rattle.reason_read.proofs.numbers.place_in.Given as goal

abbrev pub invariant-loop-digit : goal.invariant-loop-digit
invariant-loop-digit l = record { small : l.place < 2 ^ 32; left : spelled_after l.place (drop l.digit-index l.word) ≡ spelled l.word }
