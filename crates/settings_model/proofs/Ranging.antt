-- Conditions of number 3, column by column. Assumes nothing.
use Rattle.std.specs.Prelude.{Ok, Err}
use mathlib.Core.Path.{◌≡◌, refl}
use mathlib.Core.Bool.{true, false, not}
use mathlib.Core.List.{List, ◌∷◌}
use Prim.Native.Nat.{ℕ, suc, ◌+◌, ◌<◌}
use lib.ListN.{length, get_or, drop}
use lib.Seq.{drop-cons, drop-length}
use Rattle.refusals.specs.declared.Refusal.TheVariants.{OutOfRange}
use Rattle.refusals.specs.Conditions.{condition, first_broken, verdict}
use Rattle.settings_model.specs.Columns.{column, twelve, every_column, column_at, in_range}
use Rattle.settings_model.specs.Checks.{ranged}

pub table-length : length every_column ≡ 13
unfolding twelve every_column
table-length = refl

-- the columns behind the first k
pub table_step : (k : ℕ) → k < 13 → drop k every_column ≡ column_at k ∷ drop (suc k) every_column
unfolding column_at
table_step k h = drop-cons every_column k (column "" 0 0) (rw table-length h)

-- a value in its column's range, and one outside: value i of some whose first stands behind the first k columns
module _ (k i : ℕ) (vs : List ℕ) (h : i < length vs) where
  ranged-next : ranged (k + i) (drop i vs)
      ≡ condition (not (in_range (column_at (k + i)) (get_or vs i 0))) (OutOfRange (suc (k + i)) (get_or vs i 0)) ∷ ranged (suc (k + i)) (drop (suc i) vs)
  unfolding ranged
  ranged-next = rw (drop-cons vs i 0 h)

  pub ranged-out : in_range (column_at (k + i)) (get_or vs i 0) ≡ false → verdict (ranged (k + i) (drop i vs)) ≡ Err (OutOfRange (suc (k + i)) (get_or vs i 0))
  unfolding first_broken
  ranged-out e = rw (ranged-next, e)

  pub ranged-in : in_range (column_at (k + i)) (get_or vs i 0) ≡ true → verdict (ranged (k + i) (drop i vs)) ≡ verdict (ranged (suc (k + i)) (drop (suc i) vs))
  unfolding first_broken
  ranged-in e = rw (ranged-next, e)

-- behind the last value nothing is asked
pub ranged-all : (k : ℕ) (vs : List ℕ) → verdict (ranged k (drop (length vs) vs)) ≡ Ok tt
unfolding ranged first_broken
ranged-all k vs = rw (drop-length vs) refl
