-- `reason_read::names::column_in` meets its contract. Assumes nothing.
use Rattle.std.proofs.Common.{rules}
use mathlib.Core.Path.{◌≡◌, refl, ap, sym, ◌∙◌}
use native.Mathlib.Omega.{arith}
use Rattle.reason_model.specs.Reasons.{column_name}
use Rattle.reason_model.specs.Reading.{place_in, unnamed, column_in}
use Rattle.reason_model.proofs.Tables.{named-inside}
use Rattle.reason_model.proofs.ColumnNames.{column-found, column-later, column-none}
use Rattle.reason_read.proofs.names.column_in.Goals as goal

pub loop-column-init : goal.loop-column-init
unfolding column_in
loop-column-init c = refl

pub returns-then-eq : goal.returns-then-eq
returns-then-eq c =
    let w = c.args.word.now in
    let l = c.loop-column in
    let e : column_name l.column ≡ w = search rules in
    sym (column-found (unnamed (place_in w)) w l.column (omega arith) c.loop-column-test.true e) ∙ l.invariant

pub loop-column-preserved : goal.loop-column-preserved
loop-column-preserved c =
    let w = c.args.word.now in
    let l = c.loop-column in
    let d = named-inside l.column (omega arith) c.loop-column-test.true in
    let n : column_name l.column ≡ w → ⊥ = λ e. search rules in
    sym (column-later (unnamed (place_in w)) w l.column (omega arith) c.loop-column-test.true n) ∙ l.invariant

pub returns : goal.returns
returns c =
    let w = c.args.word.now in
    let l = c.loop-column in
    c.unnamed.ensures ∙ ap unnamed c.place_in.ensures ∙ sym (column-none (unnamed (place_in w)) w l.column c.loop-column-test.false) ∙ l.invariant
