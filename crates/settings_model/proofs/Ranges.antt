-- The columns' ranges, as the code's tests tell them. Assumes nothing.
use mathlib.Core.Path.{◌≡◌, ap}
use mathlib.Core.List.{map}
use Prim.Native.Nat.{ℕ, ◌≤◌, ◌<◌}
use lib.Dec.{leb}
use lib.ListN.{get_or, get_or-map}
use borrow.Author.Tests.{le-leb, lt-leb}
use Rattle.settings_model.specs.Columns.{Column, column, every_column, column_at, in_range}

-- a column's range as a pair
abbrev pub range : Column → ℕ × ℕ
range c = (c.lowest, c.highest)

-- what stands in the list of these pairs is the lowest and the highest value of a column
pub lowest-listed : (k : ℕ) → (get_or (map range every_column) k (0, 0)).0 ≡ (column_at k).lowest
unfolding column_at
lowest-listed k = ap (λ (p : ℕ × ℕ). p.0) (get_or-map range every_column k (column "" 0 0))

pub highest-listed : (k : ℕ) → (get_or (map range every_column) k (0, 0)).1 ≡ (column_at k).highest
unfolding column_at
highest-listed k = ap (λ (p : ℕ × ℕ). p.1) (get_or-map range every_column k (column "" 0 0))

-- a value below the lowest is outside, one that is not is inside where it is at most the highest
pub below-range : (k v l : ℕ) → l ≡ (column_at k).lowest → v < l → leb l v ≡ in_range (column_at k) v
below-range k v l e h = let g = rw e at h in rw e (simp (lt-leb (column_at k).lowest v g))

pub above-lowest : (k v l h : ℕ) → l ≡ (column_at k).lowest → h ≡ (column_at k).highest → l ≤ v → leb v h ≡ in_range (column_at k) v
above-lowest k v l h e f g = let g' = rw e at g in rw f (simp (le-leb (column_at k).lowest v g'))
