-- The lines of a surveyed tree's plan as numbers in a table: a row's nine for each node, and ROUTE. Assumes nothing: these are definitions.
use Rattle.std.specs.Prelude.{List, [], ◌∷◌, ◌++◌, ℕ, ◌+◌, get_or}
use Rattle.measure.specs.Measures.{symbols}
use Rattle.plan_model.specs.declared.NodeLine.{NodeLine}
use Rattle.line_table_model.specs.Rows.{numbers_of, line_in, rows_of, rows_in}

-- the numbers of a node's line: those of its nine columns, then ROUTE
unfoldable pub node_numbers : NodeLine → List ℕ
node_numbers n = numbers_of n.line ++ n.route.0 ∷ []

-- the line whose ten numbers stand at a position, whatever they are; behind a table's end they are 0
unfoldable pub node_in : List ℕ → ℕ → NodeLine
node_in ns at = record { line = line_in ns at; route = symbols (get_or ns (at + 9) 0) }

-- a tree's plan, its lines one behind another
abbrev pub tree_table : List NodeLine → List ℕ
tree_table p = rows_of node_numbers p

-- and the first n lines that stand in a table
abbrev pub nodes_in : List ℕ → ℕ → List NodeLine
nodes_in ns n = rows_in 10 node_in ns n
