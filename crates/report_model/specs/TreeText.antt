-- The printed plan of a surveyed tree (document 02, E3). Assumes nothing: these are definitions.
use Rattle.std.specs.Prelude.{ℕ, List, [], ◌∷◌, ◌++◌, map}
use Rattle.decimal_model.specs.Ascii.{ascii}
use Rattle.decimal_model.specs.Decimal.{decimal}
use Rattle.lines.specs.Text.{joined, ended}
use Rattle.plan_model.specs.Lines.{letter}
use Rattle.plan_model.specs.declared.NodeLine.{NodeLine}
use Rattle.report_model.specs.Text.{numbers}

-- "a header line of document 01's names and ROUTE"
unfoldable pub tree_header : List ℕ
tree_header = ascii "KIND DEPTH RATE BURST SLOTS FRAMES LATENCY BUFFER DELAY ROUTE"

-- "a line per node .. gives these columns"
unfoldable pub node_text : NodeLine → List ℕ
node_text n = joined ((letter n.line.kind ∷ []) ∷ map decimal (numbers n.line ++ n.route.0 ∷ []))

unfoldable pub tree_text : List NodeLine → List ℕ
tree_text p = ended (tree_header ∷ map node_text p)
