-- The bytes and the length of a phrase with its gaps filled. Assumes nothing.
use mathlib.Core.Path.{◌≡◌, refl}
use mathlib.Core.Bool.{Bool, true, false, ◌&&◌, ◌||◌, and-eq-true_iff}
use mathlib.Core.List.{List, [], ◌∷◌, ◌++◌}
use Prim.Native.Nat.{ℕ, ◌+◌, ◌^◌, ◌≤◌, ◌<◌}
use native.Mathlib.Omega.{arith}
use lib.Dec.{leb}
use lib.ListN.{length, length-append, get_or, drop}
use lib.Seq.{get_or-drop}
use borrow.Author.Tests.{leb-true, le-leb}
use Rattle.decimal_model.specs.Number.{digit}
use Rattle.decimal_model.specs.Decimal.{decimal}
use Rattle.decimal_model.proofs.Writing.{at-most-twenty}
use Rattle.reason_model.specs.Reasons.{column_name, Part, Byte, Name, Place, Value, part_text, taken, filled}
use Rattle.reason_model.specs.Reading.{word_byte}
use Rattle.reason_model.specs.Laws.{printable}
use Rattle.reason_model.specs.Inner.{most}
use Rattle.reason_model.proofs.Words.{is_word, decimal-word}
use Rattle.reason_model.proofs.ColumnNames.{column-word, column-short}

-- ---- bytes

printable-both : (s t : List ℕ) → printable s ≡ true → printable t ≡ true → printable (s ++ t) ≡ true
unfolding printable
printable-both [] t d e = e
printable-both (b ∷ bs) t d e =
    let h = (and-eq-true_iff (leb 32 b && leb b 126) (printable bs)).0 d in rw (h.0, printable-both bs t h.1 e)

word-byte-printable : (b : ℕ) → word_byte b ≡ true → (leb 32 b && leb b 126) ≡ true
unfolding word_byte
word-byte-printable b e = by (digit b) refl e where
  within : (l h : ℕ) → 32 ≤ l → h ≤ 126 → (leb l b && leb b h) ≡ true → (leb 32 b && leb b 126) ≡ true
  within l h i j f =
      let g = (and-eq-true_iff (leb l b) (leb b h)).0 f in
      let lo = leb-true l b g.0 in
      let hi = leb-true b h g.1 in
      rw (le-leb 32 b (omega arith), le-leb b 126 (omega arith))

  by : (c : Bool) → digit b ≡ c → (c || (leb 65 b && leb b 90)) ≡ true → (leb 32 b && leb b 126) ≡ true
  by true f g = within 48 57 (omega arith) (omega arith) f
  by false f g = within 65 90 (omega arith) (omega arith) g

word-printable : (w : List ℕ) → is_word w ≡ true → printable w ≡ true
unfolding is_word printable
word-printable [] e = refl
word-printable (b ∷ bs) e =
    let h = (and-eq-true_iff (word_byte b) (is_word bs)).0 e in rw (word-byte-printable b h.0, word-printable bs h.1)

-- the bytes of a phrase can be printed
unfoldable pub prints : List Part → Bool
prints [] = true
prints (Byte b ∷ xs) = (leb 32 b && leb b 126) && prints xs
prints (Name ∷ xs) = prints xs
prints (Place ∷ xs) = prints xs
prints (Value ∷ xs) = prints xs

pub filled-printable : (p : ℕ) (xs : List Part) (vs : List ℕ) → prints xs ≡ true → printable (filled p xs vs) ≡ true
unfolding prints printable filled part_text taken
filled-printable p [] vs e = refl
filled-printable p (Byte b ∷ xs) vs e =
    let h = (and-eq-true_iff (leb 32 b && leb b 126) (prints xs)).0 e in rw h.0 (filled-printable p xs vs h.1)
filled-printable p (Name ∷ xs) vs e = printable-both (column_name p) (filled p xs vs) (word-printable (column_name p) (column-word p)) (filled-printable p xs vs e)
filled-printable p (Place ∷ xs) vs e = printable-both (decimal p) (filled p xs vs) (word-printable (decimal p) (decimal-word p)) (filled-printable p xs vs e)
filled-printable p (Value ∷ xs) vs e =
    printable-both (decimal (get_or vs 0 0)) (filled p xs (drop 1 vs)) (word-printable (decimal (get_or vs 0 0)) (decimal-word (get_or vs 0 0))) (filled-printable p xs (drop 1 vs) e)

-- ---- length

module _ (p : ℕ) (h : p < 2 ^ 64) where
  part-short : (v : ℕ) (x : Part) → v < 2 ^ 64 → length (part_text p v x) ≤ most (x ∷ [])
  unfolding part_text most
  part-short v (Byte b) k = omega arith
  part-short v Name k = omega (arith, column-short p h)
  part-short v Place k = omega (arith, (at-most-twenty p h).1)
  part-short v Value k = omega (arith, (at-most-twenty v k).1)

  most-cons : (x : Part) (xs : List Part) → most (x ∷ xs) ≡ most (x ∷ []) + most xs
  unfolding most
  most-cons (Byte b) xs = omega arith
  most-cons Name xs = omega arith
  most-cons Place xs = omega arith
  most-cons Value xs = omega arith

  pub filled-short : (xs : List Part) (vs : List ℕ) → ((i : ℕ) → get_or vs i 0 < 2 ^ 64) → length (filled p xs vs) ≤ most xs
  unfolding filled
  filled-short [] vs s = omega arith
  filled-short (x ∷ xs) vs s =
      let us : List ℕ = drop (taken x) vs in
      omega (
        arith,
        length-append (part_text p (get_or vs 0 0) x) (filled p xs us),
        part-short (get_or vs 0 0) x (s 0),
        most-cons x xs,
        filled-short xs us (λ i. rw (get_or-drop (taken x) vs i 0) (s (taken x + i))),
      )
