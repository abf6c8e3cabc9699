-- What holds of printed plans, for the layers above. Assumes nothing: these are statements; proofs/ proves them.
use Rattle.std.specs.Prelude.{◌≡◌, List}
use Rattle.plan_model.specs.declared.Line.{Line}
use Rattle.plan_model.specs.declared.NodeLine.{NodeLine}
use Rattle.report_model.specs.Text.{text}
use Rattle.report_model.specs.TreeText.{tree_text}

-- no two plans have the same text: whoever has the text has the lines
abbrev pub OneTextForLines : Type 0
OneTextForLines = (p q : List Line) → text p ≡ text q → p ≡ q

-- and no two plans of surveyed trees
abbrev pub OneTextForTrees : Type 0
OneTextForTrees = (p q : List NodeLine) → tree_text p ≡ tree_text q → p ≡ q
