-- The readings that a run is fed (document 01, 'The run'). Assumes nothing.
use Rattle.std.specs.Prelude.{cond, ◌&&◌, List, [], ◌∷◌, ℕ, ◌+◌, eqb}

-- "a list of readings, each a symbol, a sensor of the tree and a count"
pub record Reading : Type 0 where
  pub symbol : ℕ
  pub sensor : ℕ
  pub frames : ℕ

-- The frames that sensor v makes in symbol t. "The list may be empty or in any order; counts for the same symbol and sensor add
-- up."
unfoldable pub made : List Reading → ℕ → ℕ → ℕ
made [] t v = 0
made (r ∷ l) t v = cond (eqb r.symbol t && eqb r.sensor v) r.frames 0 + made l t v
