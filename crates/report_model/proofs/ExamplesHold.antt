-- The examples of specs/Examples, computed. Assumes nothing.
use mathlib.Core.Path.{refl}
use Rattle.decimal_model.specs.Ascii.{ascii}
use Rattle.decimal_model.specs.Decimal.{digits_by, decimal}
use Rattle.lines.specs.Text.{joined, ended}
use Rattle.refusals.proofs.Computing.{tabled}
use Rattle.plan_model.specs.Lines.{letter}
use Rattle.report_model.specs.Text.{header, numbers, line_text, text, refusal_text}
use Rattle.report_model.specs.TreeText.{tree_header, node_text, tree_text}
use Rattle.report_model.specs.Examples.{counted, routed, Examples}

pub examples-hold : Examples
unfolding ascii digits_by decimal joined ended tabled letter header numbers line_text text refusal_text tree_header node_text tree_text counted routed
examples-hold = record {
  end_node = refl;
  upward = refl;
  downward = refl;
  sink = refl;
  no_lines = refl;
  plan = refl;
  names = refl;
  behind = refl;
  short = refl;
  long = refl;
  node = refl;
  no_nodes = refl;
  tree = refl;
  broken_line = refl;
  no_sink = refl;
  full_router = refl;
  busy_router = refl;
}
