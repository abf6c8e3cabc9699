-- `row_read::heading_of` meets its contract. Assumes nothing.
use Rattle.row_read_model.specs.Names.{heading_of, name_line}
use Rattle.settings_model.specs.Columns.{twelve, every_column}
use Rattle.decimal_model.specs.Ascii.{ascii}
use Rattle.lines.specs.Text.{joined}
use Rattle.lines.proofs.Sameness.{same-decided}
use mathlib.Core.Path.{sym, ◌∙◌}
use Rattle.row_read.proofs.heading_of.Goals as goal

pub returns-then-same : goal.returns-then-same
unfolding heading_of name_line joined twelve every_column ascii
returns-then-same c =
    let a = c.args in
    rw (sym (same-decided c.same.result a.names.now _ c.same.ensures.alike c.same.ensures.told) ∙ c.if-same.true)

pub returns-then-same-2 : goal.returns-then-same-2
unfolding heading_of name_line joined twelve every_column ascii
returns-then-same-2 c =
    let a = c.args in
    rw (sym (same-decided c.same.result a.names.now _ c.same.ensures.alike c.same.ensures.told) ∙ c.if-same.false, sym (same-decided c.same-2.result a.names.now _ c.same-2.ensures.alike c.same-2.ensures.told) ∙ c.if-same-2.true)

pub returns : goal.returns
unfolding heading_of name_line joined twelve every_column ascii
returns c =
    let a = c.args in
    rw (sym (same-decided c.same.result a.names.now _ c.same.ensures.alike c.same.ensures.told) ∙ c.if-same.false, sym (same-decided c.same-2.result a.names.now _ c.same-2.ensures.alike c.same-2.ensures.told) ∙ c.if-same-2.false)
