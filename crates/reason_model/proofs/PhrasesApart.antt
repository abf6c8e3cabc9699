-- A phrase with its gaps filled is read for that phrase, and for no phrase that is apart from it. Assumes nothing.
use Rattle.std.specs.Prelude.{Option, Some, None}
use mathlib.Core.Path.{◌≡◌, refl, ap, sym, ◌∙◌}
use mathlib.Core.Bool.{Bool, true, false, cond, ◌&&◌, and-eq-true_iff, false≢true}
use mathlib.Core.List.{List, [], ◌∷◌}
use Prim.Native.Nat.{ℕ, ◌+◌, ◌^◌, ◌<◌}
use native.Mathlib.Omega.{arith}
use lib.Dec.{eqb}
use lib.ListN.{get_or, drop}
use borrow.Author.Tests.{eqb-true, eqb-false, ne_eqb}
use Rattle.lines.specs.Text.{same}
use Rattle.lines.proofs.Sameness.{same-itself}
use Rattle.reason_model.specs.Reasons.{Part, Byte, Name, Place, Value, part_text, taken, filled}
use Rattle.reason_model.specs.Reading.{extent, meant, matched}
use Rattle.reason_model.proofs.Words.{numeral-decimal, place-decimal}
use Rattle.reason_model.proofs.ColumnNames.{column-read}
use Rattle.reason_model.proofs.Gaps.{ended, sound, part-matched, nowhere-matched}

-- ---- phrases apart: they differ in a byte, and their parts before it are the same

-- a number for each part
unfoldable pub code : Part → ℕ
code (Byte b) = 3 + b
code Name = 0
code Place = 1
code Value = 2

code_apart : (x y : Part) → code x ≡ code y → x ≡ y
unfolding code
code_apart (Byte b) (Byte c) e = let z : b ≡ c = omega arith in rw z
code_apart (Byte b) Name e = absurd (omega arith)
code_apart (Byte b) Place e = absurd (omega arith)
code_apart (Byte b) Value e = absurd (omega arith)
code_apart Name (Byte c) e = absurd (omega arith)
code_apart Name Name e = refl
code_apart Name Place e = absurd (omega arith)
code_apart Name Value e = absurd (omega arith)
code_apart Place (Byte c) e = absurd (omega arith)
code_apart Place Name e = absurd (omega arith)
code_apart Place Place e = refl
code_apart Place Value e = absurd (omega arith)
code_apart Value (Byte c) e = absurd (omega arith)
code_apart Value Name e = absurd (omega arith)
code_apart Value Place e = absurd (omega arith)
code_apart Value Value e = refl

unfoldable pub is_byte : Part → Bool
is_byte (Byte b) = true
is_byte Name = false
is_byte Place = false
is_byte Value = false

unfoldable pub apart : List Part → List Part → Bool
apart [] ys = false
apart (x ∷ xs) [] = false
apart (x ∷ xs) (y ∷ ys) = cond (eqb (code x) (code y)) (apart xs ys) (is_byte x && is_byte y)

-- ---- a phrase is read from what fills it, and no phrase that is apart from it is

-- the place after a part was read that p fills, where it was q before
unfoldable pub stood : ℕ → ℕ → Part → ℕ
stood q p (Byte b) = q
stood q p Name = p
stood q p Place = p
stood q p Value = q

-- and after a phrase
unfoldable pub placed : ℕ → ℕ → List Part → ℕ
placed q p [] = q
placed q p (x ∷ xs) = placed (stood q p x) p xs

module _ (p : ℕ) (h : p < 2 ^ 32) where
  text-meant : (q v : ℕ) (x : Part) → meant q x (part_text p v x) ≡ Some (stood q p x)
  unfolding meant part_text stood
  text-meant q v (Byte b) = rw (same-itself (b ∷ []))
  text-meant q v Name = column-read p h
  text-meant q v Place = place-decimal p h
  text-meant q v Value = rw (numeral-decimal v)

  pub filled-matched : (xs : List Part) (vs : List ℕ) (q : ℕ) → sound xs ≡ true → matched xs (Some q) (filled p xs vs) ≡ Some (placed q p xs)
  unfolding sound matched filled placed
  filled-matched [] vs q s = refl
  filled-matched (x ∷ xs) vs q s =
      let e = (and-eq-true_iff (ended x xs) (sound xs)).0 s in
      let us : List ℕ = drop (taken x) vs in
      part-matched p us (get_or vs 0 0) x x xs xs q e.0 refl
      ∙ ap (λ (m : Option ℕ). matched xs m (filled p xs us)) (text-meant q (get_or vs 0 0) x)
      ∙ filled-matched xs us (stood q p x) e.1

  apart-byte : (q b c : ℕ) (xs ys : List Part) (vs : List ℕ) → eqb b c ≡ false → matched (Byte b ∷ xs) (Some q) (filled p (Byte c ∷ ys) vs) ≡ None
  unfolding matched filled meant same part_text extent taken ended
  apart-byte q b c xs ys vs e =
      part-matched p vs 0 (Byte b) (Byte c) xs ys q refl refl
      ∙ ap (λ (m : Option ℕ). matched xs m (filled p ys vs)) (rw (ne_eqb c b (λ z. eqb-false b c e (sym z))))
      ∙ nowhere-matched xs (filled p ys vs)

  pub apart-matched : (xs ys : List Part) (vs : List ℕ) (q : ℕ) → apart xs ys ≡ true → sound ys ≡ true → matched xs (Some q) (filled p ys vs) ≡ None
  unfolding apart sound filled is_byte code
  apart-matched [] ys vs q a s = absurd (false≢true a)
  apart-matched (x ∷ xs) [] vs q a s = absurd (false≢true a)
  apart-matched (x ∷ xs) (y ∷ ys) vs q a s = by (eqb (code x) (code y)) refl a (λ k. apart-matched xs ys (drop (taken y) vs) k) where
    e : (ended y ys ≡ true) × (sound ys ≡ true)
    e = (and-eq-true_iff (ended y ys) (sound ys)).0 s

    same-part : x ≡ y → ((k : ℕ) → apart xs ys ≡ true → sound ys ≡ true → matched xs (Some k) (filled p ys (drop (taken y) vs)) ≡ None)
        → apart xs ys ≡ true → matched (x ∷ xs) (Some q) (filled p (y ∷ ys) vs) ≡ None
    same-part z g f =
        part-matched p (drop (taken y) vs) (get_or vs 0 0) x y xs ys q e.0 (rw z)
        ∙ ap (λ (m : Option ℕ). matched xs m (filled p ys (drop (taken y) vs))) (rw z (text-meant q (get_or vs 0 0) y))
        ∙ g (stood q p y) f e.1

    bytes : (u v : Part) → eqb (code u) (code v) ≡ false → is_byte u && is_byte v ≡ true → matched (u ∷ xs) (Some q) (filled p (v ∷ ys) vs) ≡ None
    bytes (Byte b) (Byte c) n f = apart-byte q b c xs ys vs (ne_eqb b c (λ z. eqb-false (3 + b) (3 + c) n (ap (λ (k : ℕ). 3 + k) z)))
    bytes (Byte b) Name n f = absurd (false≢true f)
    bytes (Byte b) Place n f = absurd (false≢true f)
    bytes (Byte b) Value n f = absurd (false≢true f)
    bytes Name v n f = absurd (false≢true f)
    bytes Place v n f = absurd (false≢true f)
    bytes Value v n f = absurd (false≢true f)

    by : (c : Bool) → eqb (code x) (code y) ≡ c → cond c (apart xs ys) (is_byte x && is_byte y) ≡ true
        → ((k : ℕ) → apart xs ys ≡ true → sound ys ≡ true → matched xs (Some k) (filled p ys (drop (taken y) vs)) ≡ None)
        → matched (x ∷ xs) (Some q) (filled p (y ∷ ys) vs) ≡ None
    by true n f g = same-part (code_apart x y (eqb-true (code x) (code y) n)) g f
    by false n f g = bytes x y n f
