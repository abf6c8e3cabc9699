-- Bytes cut into pieces, from the first cut on. Assumes nothing.
use mathlib.Core.Path.{◌≡◌, refl, sym}
use mathlib.Core.Bool.{Bool, true, false, cond}
use mathlib.Core.List.{List, [], ◌∷◌}
use Prim.Native.Nat.{ℕ, suc, ◌+◌, ◌-◌, ◌≤◌, ◌<◌}
use native.Mathlib.Omega.{arith}
use native.Mathlib.Nat.{le_of_lt}
use lib.Dec.{eqb, leb}
use lib.ListN.{length, take, drop, drop_of_length-le, length-drop}
use lib.Seq.{drop-drop, take_all}
use borrow.Author.Tests.{le-leb, lt-leb, leb-true, leb-false}
use Rattle.octets.specs.Bytes.{index_of, index_after}
use Rattle.lines.specs.Text.{before, pieces, fields, lines}

-- the index of a byte is at most the length
pub index-le : (at : ℕ) (s : List ℕ) → index_of at s ≤ length s
unfolding index_of index_after
index-le at [] = omega arith
index-le at (b ∷ bs) = by (eqb b at) (index-le at bs) where
  by : (c : Bool) → index_of at bs ≤ length bs → index_after c (index_of at bs) ≤ suc (length bs)
  by true h = omega arith
  by false h = omega arith

-- the first cut ends the first piece
pub cut-first : (at : ℕ) (rest : List (List ℕ)) (s : List ℕ) → index_of at s < length s
    → pieces at rest s ≡ take (index_of at s) s ∷ pieces at rest (drop (suc (index_of at s)) s)
unfolding index_of index_after pieces before
cut-first at rest [] h = absurd (omega arith)
cut-first at rest (b ∷ bs) h = by (eqb b at) h (cut-first at rest bs) where
  by : (c : Bool) → index_after c (index_of at bs) < suc (length bs)
      → (index_of at bs < length bs → pieces at rest bs ≡ take (index_of at bs) bs ∷ pieces at rest (drop (suc (index_of at bs)) bs))
      → before c b (pieces at rest bs) ≡ take (index_after c (index_of at bs)) (b ∷ bs) ∷ pieces at rest (drop (suc (index_after c (index_of at bs))) (b ∷ bs))
  by true g f = refl
  by false g f = rw (f (omega arith))

-- bytes without a cut are one piece, in front of what an empty rest counts as
pub no_cut : (at : ℕ) (s : List ℕ) → length s ≤ index_of at s → pieces at ([] ∷ []) s ≡ s ∷ []
unfolding index_of index_after pieces before
no_cut at [] h = refl
no_cut at (b ∷ bs) h = by (eqb b at) h (no_cut at bs) where
  by : (c : Bool) → suc (length bs) ≤ index_after c (index_of at bs) → (length bs ≤ index_of at bs → pieces at ([] ∷ []) bs ≡ bs ∷ [])
      → before c b (pieces at ([] ∷ []) bs) ≡ (b ∷ bs) ∷ []
  by true g f = absurd (omega arith)
  by false g f = rw (f (omega arith))

pub no-cut-some : (at b : ℕ) (bs : List ℕ) → length (b ∷ bs) ≤ index_of at (b ∷ bs) → pieces at [] (b ∷ bs) ≡ (b ∷ bs) ∷ []
unfolding index_of index_after pieces before
no-cut-some at b [] h = by (eqb b at) h where
  by : (c : Bool) → 1 ≤ index_after c 0 → before c b [] ≡ (b ∷ []) ∷ []
  by true g = absurd (omega arith)
  by false g = refl
no-cut-some at b (x ∷ xs) h = by (eqb b at) h (no-cut-some at x xs) where
  by : (c : Bool) → suc (length (x ∷ xs)) ≤ index_after c (index_of at (x ∷ xs))
      → (length (x ∷ xs) ≤ index_of at (x ∷ xs) → pieces at [] (x ∷ xs) ≡ (x ∷ xs) ∷ [])
      → before c b (pieces at [] (x ∷ xs)) ≡ (b ∷ x ∷ xs) ∷ []
  by true g f = absurd (omega arith)
  by false g f = rw (f (omega arith))

-- the pieces from a position on: none from behind the end
unfoldable pub pieces_from : ℕ → List (List ℕ) → List ℕ → ℕ → List (List ℕ)
pieces_from cut rest s at = cond (leb at (length s)) (pieces cut rest (drop at s)) []

-- the piece at a position ends before the first cut, and the next one starts behind that
pub pieces_step : (cut : ℕ) (rest : List (List ℕ)) (s : List ℕ) (at end : ℕ) → at ≤ length s → end ≡ at + index_of cut (drop at s)
    → (length (drop at s) ≤ index_of cut (drop at s) → pieces cut rest (drop at s) ≡ drop at s ∷ [])
    → pieces_from cut rest s at ≡ take (end - at) (drop at s) ∷ pieces_from cut rest s (end + 1)
unfolding pieces_from
pieces_step cut rest s at end h e whole = rw (le-leb at (length s) h) (by (leb (end + 1) (length s)) refl) where
  i : ℕ
  i = index_of cut (drop at s)

  by : (c : Bool) → leb (end + 1) (length s) ≡ c
      → pieces cut rest (drop at s) ≡ take (end - at) (drop at s) ∷ cond c (pieces cut rest (drop (end + 1) s)) []
  by true f =
      let l = leb-true (end + 1) (length s) f in
      let z : end - at ≡ i = omega (arith, e) in
      let y : at + suc i ≡ end + 1 = omega (arith, e) in
      rw (z, sym y, sym (drop-drop (suc i) at s))
      (cut-first cut rest (drop at s) (rw length-drop (omega (arith, e))))
  by false f =
      let l = leb-false (end + 1) (length s) f in
      let z : end - at ≡ i = omega (arith, e) in
      let w : length (drop at s) ≤ i = rw length-drop (omega (arith, e)) in
      rw (z, take_all i (drop at s) w) (whole w)

-- the values of a line from a position on
abbrev pub fields_from : List ℕ → ℕ → List (List ℕ)
fields_from s at = pieces_from 32 ([] ∷ []) s at

pub fields-first : (s : List ℕ) → fields_from s 0 ≡ fields s
unfolding fields pieces_from
fields-first s = rw (le-leb 0 (length s) (omega arith))

pub fields-past : (s : List ℕ) (at : ℕ) → length s < at → fields_from s at ≡ []
unfolding pieces_from
fields-past s at h = rw (lt-leb at (length s) h)

pub fields-step : (s : List ℕ) (at end : ℕ) → at ≤ length s → end ≡ at + index_of 32 (drop at s)
    → fields_from s at ≡ take (end - at) (drop at s) ∷ fields_from s (end + 1)
fields-step s at end h e = pieces_step 32 ([] ∷ []) s at end h e (no_cut 32 (drop at s))

-- the lines of a text from a position on
pub lines-past : (s : List ℕ) (at : ℕ) → length s ≤ at → lines (drop at s) ≡ []
unfolding lines pieces
lines-past s at h = rw (drop_of_length-le s h)

pub lines_from : (s : List ℕ) (at : ℕ) → pieces_from 10 [] s at ≡ lines (drop at s)
unfolding lines pieces_from pieces
lines_from s at = by (leb at (length s)) refl where
  by : (c : Bool) → leb at (length s) ≡ c → cond c (pieces 10 [] (drop at s)) [] ≡ pieces 10 [] (drop at s)
  by true e = refl
  by false e = let l = leb-false at (length s) e in rw (drop_of_length-le s (le_of_lt l))

pub lines_step : (s : List ℕ) (at end : ℕ) → at < length s → end ≡ at + index_of 10 (drop at s)
    → lines (drop at s) ≡ take (end - at) (drop at s) ∷ lines (drop (end + 1) s)
lines_step s at end h e =
    let p = pieces_step 10 [] s at end (le_of_lt h) e (whole (drop at s) (rw length-drop (omega arith))) in
    rw (lines_from s at, lines_from s (end + 1)) at p where
      whole : (l : List ℕ) → 0 < length l → length l ≤ index_of 10 l → pieces 10 [] l ≡ l ∷ []
      whole [] z = absurd (omega arith)
      whole (b ∷ bs) z = no-cut-some 10 b bs
