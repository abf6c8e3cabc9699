-- What the inner functions put. Assumes nothing: these are definitions.
use Rattle.std.specs.Prelude.{ℕ, List, [], ◌∷◌, ◌++◌}
use Rattle.decimal_model.specs.Decimal.{decimal}

-- numbers in decimal, each behind a space
unfoldable pub spaced : List ℕ → List ℕ
spaced [] = []
spaced (n ∷ ns) = (32 ∷ decimal n) ++ spaced ns

-- a letter, numbers and LF
unfoldable pub row : ℕ → List ℕ → List ℕ
row letter ns = (letter ∷ spaced ns) ++ 10 ∷ []
