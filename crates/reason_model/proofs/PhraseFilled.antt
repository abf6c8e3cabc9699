-- What is read for a phrase is that phrase with its gaps filled. Assumes nothing.
use Rattle.std.specs.Prelude.{Option, Some, None}
use mathlib.Core.Path.{◌≡◌, refl, ap, sym, ◌∙◌}
use mathlib.Core.Bool.{Bool, true, false, not, cond, ◌&&◌, false≢true}
use mathlib.Core.List.{List, [], ◌∷◌, ◌++◌}
use Prim.Native.Nat.{ℕ}
use lib.ListN.{get_or, take, drop, take-append-drop}
use Rattle.lines.specs.Text.{same}
use Rattle.lines.proofs.Sameness.{same-equal}
use borrow.Author.Tests.{not-true}
use Rattle.decimal_model.specs.Number.{spelled}
use Rattle.refusals.specs.Table.{Placing, Always, Own, place_said}
use Rattle.refusals.proofs.Sorts.{place_for}
use Rattle.reason_model.specs.Reasons.{Part, Byte, Name, Place, Value, part_text, taken, filled}
use Rattle.reason_model.specs.Reading.{numeral, place_in, column_in, extent, meant, matched}
use Rattle.reason_model.proofs.Words.{numeral-writes, place-writes, no_place, same_place}
use Rattle.reason_model.proofs.ColumnNames.{column-writes}
use Rattle.reason_model.proofs.Gaps.{nowhere-matched}
use Rattle.reason_model.proofs.PhrasesApart.{stood, placed}

-- ---- what is read for a phrase is that phrase filled

-- a part that stands for the place
unfoldable pub is_mark : Part → Bool
is_mark (Byte b) = false
is_mark Name = true
is_mark Place = true
is_mark Value = false

-- the place stands nowhere in a phrase, or once
unfoldable pub unmarked : List Part → Bool
unmarked [] = true
unmarked (x ∷ xs) = not (is_mark x) && unmarked xs

unfoldable pub once : List Part → Bool
once [] = true
once (x ∷ xs) = cond (is_mark x) (unmarked xs) (once xs)

unmarked-placed : (q p : ℕ) (xs : List Part) → unmarked xs ≡ true → placed q p xs ≡ q
unfolding unmarked placed stood is_mark
unmarked-placed q p [] u = refl
unmarked-placed q p (Byte b ∷ xs) u = unmarked-placed q p xs u
unmarked-placed q p (Name ∷ xs) u = absurd (false≢true u)
unmarked-placed q p (Place ∷ xs) u = absurd (false≢true u)
unmarked-placed q p (Value ∷ xs) u = unmarked-placed q p xs u

-- where the place stands in a phrase, it is read from there
marked-placed : (q p : ℕ) (xs : List Part) → unmarked xs ≡ false → once xs ≡ true → placed q p xs ≡ p
unfolding unmarked once placed stood is_mark
marked-placed q p [] u o = absurd (false≢true (sym u))
marked-placed q p (Byte b ∷ xs) u o = marked-placed q p xs u o
marked-placed q p (Name ∷ xs) u o = unmarked-placed p p xs o
marked-placed q p (Place ∷ xs) u o = unmarked-placed p p xs o
marked-placed q p (Value ∷ xs) u o = marked-placed q p xs u o

-- a phrase says the place exactly where each refusal of its sort has its own
unfoldable pub agrees : Placing → List Part → Bool
agrees (Always n) xs = unmarked xs
agrees Own xs = not (unmarked xs)

-- so the place that is read is the one that the sort leaves
pub place_read : (pl : Placing) (p : ℕ) (xs : List Part) → agrees pl xs ≡ true → once xs ≡ true → placed (place_said pl) p xs ≡ place_for pl p
unfolding agrees place_said place_for
place_read (Always n) p xs a o = unmarked-placed n p xs a
place_read Own p xs a o = marked-placed 0 p xs (not-true (unmarked xs) a) o

-- values with which a phrase is this line, and the place that it has then
pub record Fills (q p : ℕ) (xs : List Part) (t : List ℕ) : Type 0 where
  pub values : List ℕ
  pub fills : filled p xs values ≡ t
  pub stays : placed q p xs ≡ p

unmarked-once : (xs : List Part) → unmarked xs ≡ true → once xs ≡ true
unfolding unmarked once is_mark
unmarked-once [] u = refl
unmarked-once (Byte b ∷ xs) u = unmarked-once xs u
unmarked-once (Name ∷ xs) u = absurd (false≢true u)
unmarked-once (Place ∷ xs) u = absurd (false≢true u)
unmarked-once (Value ∷ xs) u = unmarked-once xs u

module _ (p q : ℕ) (xs : List Part) (t : List ℕ) (n : ℕ) where
  -- a part that leaves the place as it was: a byte, or a value v
  kept_fills : (x : Part) (v : ℕ) (us : List ℕ) → part_text p v x ≡ take n t → get_or us 0 0 ≡ v → stood q p x ≡ q
      → (i : Fills q p xs (drop n t)) → drop (taken x) us ≡ i.values → Fills q p (x ∷ xs) t
  unfolding filled placed
  kept_fills x v us w g k i d = record {
    values = us;
    fills = rw (g, d, w, i.fills) (take-append-drop n t);
    stays = rw k i.stays;
  }

  -- a part that stands for the place, behind which it stands no more
  mark-fills : (x : Part) (k : ℕ) → ((v : ℕ) → part_text k v x ≡ take n t) → stood q p x ≡ p → taken x ≡ 0 → unmarked xs ≡ true
      → Fills k p xs (drop n t) → Fills q p (x ∷ xs) t
  unfolding filled placed
  mark-fills x k w s z u i =
      let e : k ≡ p = sym (unmarked-placed k p xs u) ∙ i.stays in
      record {
        values = i.values;
        fills = rw (z, i.fills) (rw e at (ap (λ (l : List ℕ). l ++ drop n t) (w (get_or i.values 0 0)) ∙ take-append-drop n t));
        stays = rw s (unmarked-placed p p xs u);
      }

none-fills : {A : Type 0} (xs : List Part) (t : List ℕ) (p : ℕ) → matched xs None t ≡ Some p → A
none-fills xs t p e = no_place p (sym (nowhere-matched xs t) ∙ e)

pub matched-fills : (xs : List Part) (q p : ℕ) (t : List ℕ) → once xs ≡ true → matched xs (Some q) t ≡ Some p → Fills q p xs t
unfolding matched filled placed once is_mark meant part_text stood taken
matched-fills [] q p [] o e = record { values = []; fills = refl; stays = same_place q p e }
matched-fills [] q p (b ∷ t) o e = no_place p e
matched-fills (Byte b ∷ xs) q p t o e = by (same w (b ∷ [])) refl e (matched-fills xs q p (drop n t) o) where
  n : ℕ
  n = extent (Byte b) t

  w : List ℕ
  w = take n t

  by : (c : Bool) → same w (b ∷ []) ≡ c → matched xs (cond c (Some q) None) (drop n t) ≡ Some p
      → (matched xs (Some q) (drop n t) ≡ Some p → Fills q p xs (drop n t)) → Fills q p (Byte b ∷ xs) t
  by true s f g = let i = g f in kept_fills p q xs t n (Byte b) (get_or i.values 0 0) i.values (sym (same-equal w (b ∷ []) s)) refl refl i refl
  by false s f g = none-fills xs (drop n t) p f
matched-fills (Name ∷ xs) q p t o e = by (column_in w) refl e (λ k. matched-fills xs k p (drop n t) (unmarked-once xs o)) where
  n : ℕ
  n = extent Name t

  w : List ℕ
  w = take n t

  by : (m : Option ℕ) → column_in w ≡ m → matched xs m (drop n t) ≡ Some p
      → ((k : ℕ) → matched xs (Some k) (drop n t) ≡ Some p → Fills k p xs (drop n t)) → Fills q p (Name ∷ xs) t
  by (Some k) s f g = mark-fills p q xs t n Name k (λ v. column-writes w k s) refl refl o (g k f)
  by None s f g = none-fills xs (drop n t) p f
matched-fills (Place ∷ xs) q p t o e = by (place_in w) refl e (λ k. matched-fills xs k p (drop n t) (unmarked-once xs o)) where
  n : ℕ
  n = extent Place t

  w : List ℕ
  w = take n t

  by : (m : Option ℕ) → place_in w ≡ m → matched xs m (drop n t) ≡ Some p
      → ((k : ℕ) → matched xs (Some k) (drop n t) ≡ Some p → Fills k p xs (drop n t)) → Fills q p (Place ∷ xs) t
  by (Some k) s f g = mark-fills p q xs t n Place k (λ v. place-writes w k s) refl refl o (g k f)
  by None s f g = none-fills xs (drop n t) p f
matched-fills (Value ∷ xs) q p t o e = by (numeral w) refl e (matched-fills xs q p (drop n t) o) where
  n : ℕ
  n = extent Value t

  w : List ℕ
  w = take n t

  by : (c : Bool) → numeral w ≡ c → matched xs (cond c (Some q) None) (drop n t) ≡ Some p
      → (matched xs (Some q) (drop n t) ≡ Some p → Fills q p xs (drop n t)) → Fills q p (Value ∷ xs) t
  by true s f g = let i = g f in kept_fills p q xs t n Value (spelled w) (spelled w ∷ i.values) (numeral-writes w s) refl refl i refl
  by false s f g = none-fills xs (drop n t) p f
