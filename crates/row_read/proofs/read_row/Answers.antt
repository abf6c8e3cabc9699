-- `row_read::read_row` meets its contract. Assumes nothing.
use Rattle.std.specs.Prelude.{Ok}
use Rattle.std.proofs.lemmas.Result.{err_from_is_err_and}
use mathlib.Core.Path.{sym, ap, ◌∙◌}
use Rattle.row_read_model.proofs.RowCases.{row-unnamed, row-unwritten, row_read}
use Rattle.row_read.proofs.read_row.Goals as goal

pub returns-then-is_other : goal.returns-then-is_other
returns-then-is_other c =
    row-unnamed c.args.heading c.args.row.now (sym c.is_other.ensures ∙ c.if-is_other.true)

pub returns-in_err-read_values : goal.returns-in_err-read_values
returns-in_err-read_values c =
    let a = c.args in
    let n = sym c.is_other.ensures ∙ c.if-is_other.false in
    let p = err_from_is_err_and c.from_residual.result c.from_residual.ensures.1 in
    rw (p.1, p.2) (row-unwritten a.heading a.row.now n _ (sym c.in_err-read_values.ensures.verdict_value))

pub returns : goal.returns
returns c =
    let a = c.args in
    let n = sym c.is_other.ensures ∙ c.if-is_other.false in
    let v = c.in_ok-read_values.ensures in
    ap Ok (c.settings_of.ensures ∙ v.numbers_value) ∙ row_read a.heading a.row.now n (sym v.verdict_value)
