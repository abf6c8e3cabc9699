-- The columns (document 01, 'Rows of settings'; document 02, E5). Assumes nothing: these are definitions.
use Rattle.std.specs.Prelude.{ℕ, Bool, ◌&&◌, List, [], ◌∷◌, ◌++◌, leb, get_or}
use Prim.Native.String.{String}

-- a column: its name, and the lowest and the highest value in its range
pub record Column : Type 0 where
  pub name : String
  pub lowest : ℕ
  pub highest : ℕ

abbrev pub column : String → ℕ → ℕ → Column
column n l h = record { name = n; lowest = l; highest = h }

-- "Ranges: BO and SO 0 to 14, H 0 to 12, NR and NE 0 to 7, OWN 0 or 1, SINK 0 to 12, BURST 1 to 255, RATE 1 to 4095, HEAD 5 to 126,
-- DATA 1 to 122, ACK 0 or 1."
unfoldable pub twelve : List Column
twelve =
    column "BO" 0 14
    ∷ column "SO" 0 14
    ∷ column "H" 0 12
    ∷ column "NR" 0 7
    ∷ column "NE" 0 7
    ∷ column "OWN" 0 1
    ∷ column "SINK" 0 12
    ∷ column "BURST" 1 255
    ∷ column "RATE" 1 4095
    ∷ column "HEAD" 5 126
    ∷ column "DATA" 1 122
    ∷ column "ACK" 0 1
    ∷ []

-- E5: "A 13th column LOSS, 0 to 7"
unfoldable pub every_column : List Column
every_column = twelve ++ column "LOSS" 0 7 ∷ []

-- the column behind the first k
unfoldable pub column_at : ℕ → Column
column_at k = get_or every_column k (column "" 0 0)

-- a value is in the column's range
abbrev pub in_range : Column → ℕ → Bool
in_range c v = leb c.lowest v && leb v c.highest
