-- What the loop of `decimal::read_number` keeps. Assumes nothing.
use mathlib.Core.Path.{◌≡◌}
use Prim.Native.Nat.{◌^◌, ◌≤◌, ◌<◌}
use lib.ListN.{length, drop}
use Rattle.decimal_model.specs.Number.{digits, spelled_after, spelled}
use Rattle.decimal.proofs.read_number.Given as goal

abbrev pub invariant-loop-byte : goal.invariant-loop-byte
invariant-loop-byte l =
    (length l.s ≤ 4) × (l.v < 10 ^ l.byte-index) × (digits (drop l.byte-index l.s) ≡ digits l.s) × (spelled_after l.v (drop l.byte-index l.s) ≡ spelled l.s)
