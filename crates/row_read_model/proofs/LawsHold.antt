-- The laws of specs/Laws. Assumes nothing.
use Rattle.std.specs.Prelude.{Ok, Err}
use mathlib.Core.Path.{◌≡◌, ap, sym, ◌∙◌}
use mathlib.Core.List.{List}
use Prim.Native.Nat.{ℕ}
use lib.ListN.{length, take}
use Rattle.lines.specs.Text.{fields, joined}
use Rattle.lines.proofs.Joining.{joined-fields}
use Rattle.refusals.specs.Conditions.{Unbroken}
use Rattle.refusals.proofs.Unbroken.{unbroken-first, first-unbroken, unbroken-right}
use Rattle.settings_model.specs.declared.Settings.{Settings}
use Rattle.settings_model.specs.Checks.{values_of}
use Rattle.row_read_model.specs.declared.Heading.{Heading}
use Rattle.row_read_model.specs.Names.{columns_under}
use Rattle.row_read_model.specs.Rows.{headed, columns_read, values_in, settings_of, conditions, row_under}
use Rattle.row_read_model.specs.Laws.{ReadWhereUnbroken, OneRowForSettings}
use Rattle.row_read_model.proofs.RowCases.{values_length}
use Rattle.row_read_model.proofs.Elements.{values-of-settings}
use Rattle.row_read_model.proofs.OneText.{same-values}

-- a row is not both refused and read, and what is read is one thing
pub read-where-unbroken : ReadWhereUnbroken
unfolding row_under
read-where-unbroken heading row s = (
  λ e.
      (let h = first-unbroken Err (Ok (settings_of (values_in row))) (Ok s) (λ r w. cc) (conditions heading row) e in
      let one = h.1 in
      (h.0, cc)),
  λ h. unbroken-first Err (Ok (settings_of (values_in row))) (conditions heading row) h.0 ∙ ap Ok h.1,
)

-- a row of which no condition is broken is written
is-written : (heading : Heading) (row : List ℕ) → Unbroken (conditions heading row) → Unbroken (columns_read 1 (columns_under heading) (fields row))
unfolding conditions
is-written heading row u = unbroken-right (headed heading) (columns_read 1 (columns_under heading) (fields row)) u

-- a row that is written has as many values as there are columns
all-values : (heading : Heading) (row : List ℕ) → Unbroken (columns_read 1 (columns_under heading) (fields row)) → length (values_in row) ≡ length (columns_under heading)
all-values heading row u = values_length heading row (unbroken-first Err (Ok tt) (columns_read 1 (columns_under heading) (fields row)) u)

-- the same settings have the same values
same_numbers : (heading : Heading) (vs ws : List ℕ) → length vs ≡ length (columns_under heading) → length ws ≡ length (columns_under heading) → settings_of vs ≡ settings_of ws → vs ≡ ws
same_numbers heading vs ws l k e =
    sym (values-of-settings heading vs l) ∙ ap (λ (s : Settings). take (length (columns_under heading)) (values_of s)) e ∙ values-of-settings heading ws k

pub one-row-for-settings : OneRowForSettings
unfolding values_in
one-row-for-settings heading a b s p q =
    let g = (read-where-unbroken heading a s).0 p in
    let h = (read-where-unbroken heading b s).0 q in
    let u = is-written heading a g.0 in
    let w = is-written heading b h.0 in
    let v = same_numbers heading (values_in a) (values_in b) (all-values heading a u) (all-values heading b w) (g.1 ∙ sym h.1) in
    sym (joined-fields a) ∙ ap joined (same-values 1 (columns_under heading) (fields a) (fields b) u w v) ∙ joined-fields b
