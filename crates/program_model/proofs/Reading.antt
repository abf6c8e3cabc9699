-- What a program writes for an input that it read up to its 65,537th byte, where what stands behind them decides nothing. Assumes nothing.
use Rattle.std.specs.Prelude.{Option, Some, None, IfSome}
use Rattle.std.specs.Io.KnownBytes.{Consumes, IsAtEnd, Appends}
use mathlib.Core.Path.{◌≡◌, ap, sym, subst, ◌∙◌}
use mathlib.Core.List.{List, ◌++◌, append-nil}
use Prim.Native.Nat.{ℕ, ◌<◌}
use native.Mathlib.Omega.{arith}
use native.Mathlib.Decide.{dec_lt}
use lib.ListN.{length}

-- `f` is what is written for an input. The reader had these bytes, of which it gave `front`, and has those left.
pub written_whole : (f : List ℕ → List ℕ) → ((front rest : List ℕ) → 65536 < length front → f (front ++ rest) ≡ f front)
    → (had left : Option (List ℕ)) (front : List ℕ) → Consumes had left front → (length front < 65537 → IsAtEnd left)
    → (before after : Option (List ℕ)) → Appends before after (f front) → IfSome had (λ input. Appends before after (f input))
written_whole f long None left front given end before after w = tt
written_whole f long (Some xs) None front given end before after w = absurd given
written_whole f long (Some xs) (Some ys) front given end before after w = subst (λ (t : List ℕ). Appends before after t) (sym same) w
  where
    by : Dec (length front < 65537) → f xs ≡ f front
    by (yes h) = ap f (given ∙ ap (λ (t : List ℕ). front ++ t) (end h) ∙ append-nil front)
    by (no h) = ap f given ∙ long front ys (omega arith)

    same : f xs ≡ f front
    same = by (dec_lt (length front) 65537)
