-- A line that is read for a phrase, part by part. Assumes nothing.
use Rattle.std.specs.Prelude.{Some, None}
use Rattle.std.specs.Bool.{then_some, ◌==◌}
use mathlib.Core.Path.{◌≡◌, refl, sym}
use mathlib.Core.List.{List, [], ◌∷◌, map}
use Prim.Native.Nat.{ℕ, ◌+◌, ◌≤◌, ◌<◌}
use native.Mathlib.Omega.{arith}
use native.Mathlib.Numerals.{add-one}
use borrow.Author.Tests.{ne_eqb}
use lib.ListN.{length, get_or, take, drop, drop_of_length-le}
use lib.Seq.{drop-cons}
use Rattle.reason_model.specs.Reasons.{part_of}
use Rattle.reason_model.specs.Reading.{extent, meant, matched}
use Rattle.reason_model.proofs.Gaps.{nowhere-matched}

-- behind the first k parts of a phrase a text is left, and the place is this one so far
module _ (phrase rest : List ℕ) (place k : ℕ) where
  -- the next part takes the bytes in front
  module _ (h : k < length phrase) (n : ℕ) (e : n ≡ extent (part_of (get_or phrase k 0)) rest) where
    next : matched (map part_of (drop k phrase)) (Some place) rest
        ≡ matched (map part_of (drop (k + 1) phrase)) (meant place (part_of (get_or phrase k 0)) (take n rest)) (drop n rest)
    unfolding matched
    next = rw (drop-cons phrase k 0 h, e, add-one)

    pub followed-more : (q : ℕ) → meant place (part_of (get_or phrase k 0)) (take n rest) ≡ Some q
        → matched (map part_of (drop (k + 1) phrase)) (Some q) (drop n rest) ≡ matched (map part_of (drop k phrase)) (Some place) rest
    followed-more q m = sym (rw m at next)

    pub followed-nowhere : meant place (part_of (get_or phrase k 0)) (take n rest) ≡ None → None ≡ matched (map part_of (drop k phrase)) (Some place) rest
    followed-nowhere m = sym (rw (m, nowhere-matched) at next)

  -- all parts were read: the text ends there, or goes on
  pub followed-all : length phrase ≤ k → then_some (length rest == 0) place ≡ matched (map part_of (drop k phrase)) (Some place) rest
  unfolding matched
  followed-all h = rw (drop_of_length-le phrase h) (by rest)
    where
      by : (t : List ℕ) → then_some (length t == 0) place ≡ matched [] (Some place) t
      by [] = refl
      by (b ∷ t) = rw (ne_eqb (length (b ∷ t)) 0 (λ e. absurd (omega arith)))
