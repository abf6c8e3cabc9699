-- What stands for a part of a phrase is read for it, where every gap ends before a byte that is of no word. Assumes nothing.
use Rattle.std.specs.Prelude.{Some, None}
use mathlib.Core.Path.{◌≡◌, refl}
use mathlib.Core.Bool.{Bool, true, false, not, ◌&&◌, false≢true}
use mathlib.Core.List.{List, [], ◌∷◌, ◌++◌}
use Prim.Native.Nat.{ℕ}
use native.Mathlib.Omega.{arith}
use lib.ListN.{length}
use lib.Seq.{take-append_seam, drop-append_seam}
use Rattle.decimal_model.specs.Decimal.{decimal}
use Rattle.reason_model.specs.Reasons.{column_name, Part, Byte, Name, Place, Value, part_text, filled}
use Rattle.reason_model.specs.Reading.{word_byte, extent, meant, matched}
use Rattle.reason_model.proofs.Words.{goes_on, word-length, decimal-word}
use Rattle.reason_model.proofs.ColumnNames.{column-word}

-- ---- phrases in which every gap ends where no byte of a word follows

-- the part behind a gap ends it
unfoldable pub ends_gap : List Part → Bool
ends_gap [] = true
ends_gap (Byte b ∷ xs) = not (word_byte b)
ends_gap (Name ∷ xs) = false
ends_gap (Place ∷ xs) = false
ends_gap (Value ∷ xs) = false

unfoldable pub ended : Part → List Part → Bool
ended (Byte b) xs = true
ended Name xs = ends_gap xs
ended Place xs = ends_gap xs
ended Value xs = ends_gap xs

unfoldable pub sound : List Part → Bool
sound [] = true
sound (x ∷ xs) = ended x xs && sound xs

module _ (p : ℕ) (vs : List ℕ) where
  gap-ended : (xs : List Part) → ends_gap xs ≡ true → goes_on (filled p xs vs) ≡ true
  unfolding ends_gap goes_on filled part_text
  gap-ended [] e = refl
  gap-ended (Byte b ∷ xs) e = e
  gap-ended (Name ∷ xs) e = absurd (false≢true e)
  gap-ended (Place ∷ xs) e = absurd (false≢true e)
  gap-ended (Value ∷ xs) e = absurd (false≢true e)

  -- what stands for a part is as long as what is read for it
  part-extent : (v : ℕ) (x : Part) (xs : List Part) → ended x xs ≡ true
      → extent x (part_text p v x ++ filled p xs vs) ≡ length (part_text p v x)
  unfolding ended extent part_text
  part-extent v (Byte b) xs e = omega arith
  part-extent v Name xs e = word-length (column_name p) (filled p xs vs) (column-word p) (gap-ended xs e)
  part-extent v Place xs e = word-length (decimal p) (filled p xs vs) (decimal-word p) (gap-ended xs e)
  part-extent v Value xs e = word-length (decimal v) (filled p xs vs) (decimal-word v) (gap-ended xs e)

  -- a part is read from what stands for it
  pub part-matched : (v : ℕ) (x y : Part) (xs ys : List Part) (q : ℕ) → ended y ys ≡ true
      → extent x (part_text p v y ++ filled p ys vs) ≡ extent y (part_text p v y ++ filled p ys vs)
      → matched (x ∷ xs) (Some q) (part_text p v y ++ filled p ys vs) ≡ matched xs (meant q x (part_text p v y)) (filled p ys vs)
  unfolding matched
  part-matched v x y xs ys q e f =
      rw (f, part-extent v y ys e, take-append_seam (part_text p v y) (filled p ys vs), drop-append_seam (part_text p v y) (filled p ys vs))

-- what cannot be read stays so
pub nowhere-matched : (xs : List Part) (t : List ℕ) → matched xs None t ≡ None
unfolding matched
nowhere-matched [] t = refl
nowhere-matched (x ∷ xs) t = refl
