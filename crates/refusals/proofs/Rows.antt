-- The rows of the table as the code has them: a number, and the place that the row says for all its refusals. Assumes nothing.
use Rattle.std.proofs.Common.{◌≡◌, ℕ, Option, Some, None, map, ◌∙◌, refl, arith, Bor, unwrap_or}
use lib.ListN.{get_or-map}
use Rattle.std.specs.Option.{option_map}
use Rattle.std.specs.Slice.{IsItemAt}
use Rattle.refusals.specs.Table.{Placing, Always, Own, Sort, sort, table, sort_at, place_said}

abbrev pub place_for_all : Placing → Option ℕ
place_for_all (Always n) = Some n
place_for_all Own = None

abbrev pub row : Sort → ℕ × Option ℕ
row s = (s.number, place_for_all s.place)

-- what is got of them, and zeros where they end
pub row-got : (k : ℕ) (r : Option (Bor (ℕ × Option ℕ))) → IsItemAt (map row table) k r → unwrap_or (option_map (λ (x : Bor (ℕ × Option ℕ)). x.now) r) (0, Some 0) ≡ row (sort_at k)
unfolding sort_at
row-got k r h = h.4 (omega arith) (0, Some 0) ∙ get_or-map row table k (sort 0 (Always 0) "")

-- the place that a row says
pub place-said : (p : Placing) → place_said p ≡ unwrap_or (place_for_all p) 0
unfolding place_said
place-said (Always n) = refl
place-said Own = refl
