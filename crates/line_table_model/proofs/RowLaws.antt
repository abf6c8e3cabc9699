-- Many lines of one sort in a table, put one behind another and read back. Assumes nothing.
use mathlib.Core.Path.{◌≡◌, refl, sym, ap, ◌∙◌}
use mathlib.Core.List.{List, [], ◌∷◌, ◌++◌, append-nil, append_assoc}
use Prim.Native.Nat.{ℕ, zero, suc, ◌+◌, ◌*◌, ◌≤◌, ◌<◌}
use native.Mathlib.Omega.{arith}
use lib.ListN.{length, get_or, take, drop, length-append}
use lib.Seq.{sets, sets-eq, take-suc, take-length}
use Rattle.network.specs.Counting.{join}
use Rattle.buffer.proofs.Putting.{sets-sets}
use Rattle.line_table_model.specs.Rows.{rows_of, rows_in}

-- two lines of two numbers each, told by their first
pub two-lines : rows_in 2 (λ ns at. get_or ns at 0) (1 ∷ 2 ∷ 3 ∷ 4 ∷ []) 2 ≡ 1 ∷ 3 ∷ []
unfolding rows_in join
two-lines = refl

-- A sort of line: its numbers, how it is read at a position, that it has so many, that it is read back at the front, and that numbers
-- before it are passed over
module _ {A : Type 0} (width : ℕ) (numbers : A → List ℕ) (read : List ℕ → ℕ → A)
    (wide : (a : A) → length (numbers a) ≡ width)
    (back : (a : A) (ys : List ℕ) → read (numbers a ++ ys) 0 ≡ a)
    (behind : (xs ys : List ℕ) (m : ℕ) → read (xs ++ ys) (length xs + m) ≡ read ys m) where
  pub rows_append : (xs ys : List A) → rows_of numbers (xs ++ ys) ≡ rows_of numbers xs ++ rows_of numbers ys
  unfolding rows_of
  rows_append [] ys = refl
  rows_append (x ∷ xs) ys = rw (rows_append xs ys) (sym (append_assoc (numbers x) (rows_of numbers xs) (rows_of numbers ys)))

  pub rows-length : (p : List A) → length (rows_of numbers p) ≡ width * length p
  unfolding rows_of
  rows-length [] = omega arith
  rows-length (l ∷ ls) = omega (arith, length-append (numbers l) (rows_of numbers ls), wide l, rows-length ls)

  -- one line more, put behind those that are there
  pub rows-put : (e : List ℕ) (ls : List A) (l : A) → sets (sets e 0 (rows_of numbers ls)) (width * length ls) (numbers l) ≡ sets e 0 (rows_of numbers (ls ++ (l ∷ [])))
  unfolding rows_of
  rows-put e ls l =
      let n : width * length ls ≡ 0 + length (rows_of numbers ls) = omega (arith, rows-length ls) in
      let q : rows_of numbers (ls ++ (l ∷ [])) ≡ rows_of numbers ls ++ numbers l = rows_append ls (l ∷ []) ∙ ap (λ (t : List ℕ). rows_of numbers ls ++ t) (append-nil (numbers l)) in
      rw (n, q) (sets-sets e 0 (rows_of numbers ls) (numbers l))

  -- line i of a plan's numbers, whatever stands behind them
  row_back : (p : List A) (d : A) (rest : List ℕ) (i : ℕ) → i < length p → read (rows_of numbers p ++ rest) (width * i) ≡ get_or p i d
  unfolding rows_of
  row_back [] d rest i h = absurd (omega arith)
  row_back (l ∷ ls) d rest zero h = let e : width * 0 ≡ 0 = omega arith in rw (append_assoc (numbers l) (rows_of numbers ls) rest, e) (back l (rows_of numbers ls ++ rest))
  row_back (l ∷ ls) d rest (suc i) h =
      let e : width * suc i ≡ length (numbers l) + width * i = omega (arith, wide l) in
      rw (append_assoc (numbers l) (rows_of numbers ls) rest, e, behind (numbers l) (rows_of numbers ls ++ rest) (width * i)) (row_back ls d rest i (omega arith))

  -- and the first n lines
  rows-to : (p : List A) (d : A) (rest : List ℕ) (n : ℕ) → n ≤ length p → rows_in width read (rows_of numbers p ++ rest) n ≡ take n p
  unfolding rows_in join
  rows-to p d rest zero h = refl
  rows-to p d rest (suc n) h = rw (rows-to p d rest n (omega arith), row_back p d rest n (omega arith)) (sym (take-suc p n d (omega arith)))

  none_in : (ns : List ℕ) → rows_in width read ns 0 ≡ []
  unfolding rows_in join
  none_in ns = refl

  -- a plan's numbers at the front of a table that has room for them are its lines
  pub rows_back : (p : List A) (e : List ℕ) → length (rows_of numbers p) ≤ length e → rows_in width read (sets e 0 (rows_of numbers p)) (length p) ≡ p
  rows_back [] e h = none_in (sets e 0 (rows_of numbers []))
  rows_back (l ∷ ls) e h =
      let p : List A = l ∷ ls in
      let q : sets e 0 (rows_of numbers p) ≡ rows_of numbers p ++ drop (0 + length (rows_of numbers p)) e = sets-eq (rows_of numbers p) e 0 (omega (arith, h)) in
      rw q (rows-to p l (drop (0 + length (rows_of numbers p)) e) (length p) (omega arith) ∙ take-length p)

  -- one line more that stands in a table
  pub rows_more : (ns : List ℕ) (n : ℕ) → rows_in width read ns (suc n) ≡ rows_in width read ns n ++ (read ns (width * n) ∷ [])
  unfolding rows_in join
  rows_more ns n = refl
