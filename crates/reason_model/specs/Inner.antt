-- What the inner functions answer. Nobody has to believe this: the public functions' contracts do not use it. Assumes nothing: these are
-- definitions.
use Rattle.std.specs.Prelude.{ℕ, ◌+◌, List, [], ◌∷◌, map}
use Rattle.decimal_model.specs.Ascii.{ascii}
use Rattle.settings_model.specs.Columns.{Column, every_column}
use Rattle.refusals.specs.Table.{Sort, table}
use Rattle.reason_model.specs.Reasons.{Part, Byte, Name, Place, Value}

-- the sorts' phrases
unfoldable pub phrases : List (List ℕ)
phrases = map (λ (s : Sort). ascii s.phrase) table

-- the columns' names
unfoldable pub names : List (List ℕ)
names = map (λ (c : Column). ascii c.name) every_column

-- how long a phrase is at most, its gaps filled with numbers of 64 bits
unfoldable pub most : List Part → ℕ
most [] = 0
most (Byte b ∷ xs) = 1 + most xs
most (Name ∷ xs) = 20 + most xs
most (Place ∷ xs) = 20 + most xs
most (Value ∷ xs) = 20 + most xs
