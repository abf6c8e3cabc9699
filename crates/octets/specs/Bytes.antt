-- Where a byte stands in a text. Assumes nothing: these are definitions.
use Rattle.std.specs.Prelude.{ℕ, suc, Bool, true, false, List, [], ◌∷◌, ◌==◌}

-- 0 where the first byte is the one sought, and else one more than in the rest
unfoldable pub index_after : Bool → ℕ → ℕ
index_after true i = 0
index_after false i = suc i

-- the index of a byte that is sought, or the length where it stands nowhere
unfoldable pub index_of : ℕ → List ℕ → ℕ
index_of b [] = 0
index_of b (x ∷ xs) = index_after (x == b) (index_of b xs)
