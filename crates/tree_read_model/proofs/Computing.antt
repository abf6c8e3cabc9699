-- To unfold `lists` is to unfold all that the outcome of a node list's text is computed with. Assumes nothing.
use Rattle.decimal_model.specs.Ascii.{ascii}
use Rattle.decimal_model.specs.Number.{digits, zero_led, shaped, readable, spelled_after}
use Rattle.lines.specs.Text.{same, before, pieces, fields, lines}
use Rattle.settings_model.specs.Columns.{column_at}
use Rattle.tree_model.proofs.Computing.{trees}
use Rattle.tree_read_model.specs.Entries.{name_line, is_name_line, entry_of, entry_in, parent_right, sensor_right, entry_right, line_right}
use Rattle.tree_read_model.specs.Survey.{node_lines, parent_in, burst_in, rate_in, tree_from, tree_in, named, lines_from, listed, sink_right, surveyed, outcome_in}

unfoldable pub lists : Type 0
unfolding trees ascii digits zero_led shaped readable spelled_after same before pieces fields lines column_at name_line is_name_line entry_of entry_in parent_right sensor_right entry_right line_right node_lines parent_in burst_in rate_in tree_from tree_in named lines_from listed sink_right surveyed outcome_in
lists = Unit
