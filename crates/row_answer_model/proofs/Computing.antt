-- To unfold `answered` is to unfold all that the answer to a row's bytes is computed with. Assumes nothing.
use Rattle.decimal_model.specs.Ascii.{ascii}
use Rattle.decimal_model.specs.Number.{digits, zero_led, shaped, readable, spelled_after}
use Rattle.lines.specs.Text.{same, before, pieces, fields, joined}
use Rattle.row_read_model.specs.Names.{name_line, heading_of, is_other, columns_under}
use Rattle.row_read_model.specs.Rows.{headed, columns_read, values_in, settings_of}
use Rattle.row_model.proofs.Computing.{plans}
use Rattle.row_answer_model.specs.Outcomes.{spelled_settings, row_conditions, row_outcome, named_outcome}

unfoldable pub answered : Type 0
unfolding plans ascii digits zero_led shaped readable spelled_after before pieces fields joined name_line same heading_of is_other columns_under headed columns_read values_in settings_of spelled_settings row_conditions row_outcome named_outcome
answered = Unit
