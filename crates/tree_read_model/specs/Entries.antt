-- The lines of a node list (document 02, E3). Assumes nothing: these are definitions.
use Rattle.tree_read_model.specs.declared.Entry.{Entry}
use Rattle.std.specs.Prelude.{Bool, false, cond, ◌&&◌, ◌||◌, List, [], ◌∷◌, ℕ, eqb, leb, ltb, Option, Some, None}
use Rattle.decimal_model.specs.Ascii.{ascii}
use Rattle.decimal_model.specs.Number.{readable, spelled}
use Rattle.lines.specs.Text.{same, fields}
use Rattle.settings_model.specs.Columns.{column_at, in_range}

-- "After a line `NODE PARENT BURST RATE` come the nodes"
unfoldable pub name_line : List ℕ
name_line = ascii "NODE PARENT BURST RATE"

unfoldable pub is_name_line : List ℕ → Bool
is_name_line line = same line name_line

-- the four values of a line, one space between, each written as document 01's values are: "1 to 4 digits, no leading zero except 0 itself"
unfoldable pub entry_of : List (List ℕ) → Option Entry
entry_of [] = None
entry_of (n ∷ []) = None
entry_of (n ∷ p ∷ []) = None
entry_of (n ∷ p ∷ b ∷ []) = None
entry_of (n ∷ p ∷ b ∷ r ∷ []) =
    cond (readable n && readable p && readable b && readable r)
    (Some (record { node = spelled n; parent = spelled p; burst = spelled b; rate = spelled r }))
    None
entry_of (n ∷ p ∷ b ∷ r ∷ x ∷ xs) = None

unfoldable pub entry_in : List ℕ → Option Entry
entry_in line = entry_of (fields line)

-- "Node 1 is the root with PARENT 0; any other parent has a smaller number."
unfoldable pub parent_right : ℕ → ℕ → Bool
parent_right k p = cond (eqb k 1) (eqb p 0) (ltb 0 p && ltb p k)

-- "BURST and RATE are both in range or both 0": in the ranges of document 01's columns
unfoldable pub sensor_right : ℕ → ℕ → Bool
sensor_right b r = (eqb b 0 && eqb r 0) || (in_range (column_at 7) b && in_range (column_at 8) r)

-- the line of node k: "the nodes 1, 2, .. in order", at most 254
unfoldable pub entry_right : ℕ → Option Entry → Bool
entry_right k None = false
entry_right k (Some e) = leb k 254 && eqb e.node k && parent_right k e.parent && sensor_right e.burst e.rate

unfoldable pub line_right : ℕ → List ℕ → Bool
line_right k line = entry_right k (entry_in line)
