-- `decimal::read_number` meets its contract. Assumes nothing.
use mathlib.Core.Path.{refl, sym, ◌∙◌}
use native.Mathlib.Omega.{arith}
use lib.ListN.{get_or, drop_of_length-le}
use Rattle.decimal_model.specs.Number.{digits, spelled_after}
use Rattle.decimal_model.proofs.Spelling.{digit-range, digits_step, spelled_step, ten-more, shaped-length, unshaped, undigit, spells}
use Rattle.decimal.proofs.read_number.Goals as goal

pub returns-then-not-is_shaped : goal.returns-then-not-is_shaped
returns-then-not-is_shaped c = sym (unshaped c.args.s.now (sym c.is_shaped.ensures ∙ c.if-not-is_shaped.true))

pub loop-byte-init : goal.loop-byte-init
loop-byte-init c =
    let e = sym c.is_shaped.ensures ∙ c.if-not-is_shaped.false in ((shaped-length c.args.s.now e).1, omega arith, refl, refl)

pub returns-then-not-is_ascii_digit : goal.returns-then-not-is_ascii_digit
returns-then-not-is_ascii_digit c =
    let l = c.loop-byte in
    let no_digit = sym c.is_ascii_digit.ensures.value ∙ c.if-not-is_ascii_digit.true in
    sym (undigit c.args.s.now l.byte-index c.loop-byte-test.true no_digit l.invariant.2)

pub loop-byte-preserved : goal.loop-byte-preserved
loop-byte-preserved c =
    let l = c.loop-byte in
    let s = c.args.s.now in
    let d = sym c.is_ascii_digit.ensures.value ∙ c.if-not-is_ascii_digit.false in
    let below = c.loop-byte-test.true in (
      l.invariant.0,
      ten-more l.byte-index l.v c.from.result l.invariant.1 (omega (arith, digit-range (get_or s l.byte-index 0) d)),
      (let q = digits_step s l.byte-index below in let q' = rw d at q in sym q' ∙ l.invariant.2),
      rw c.from.ensures (sym (spelled_step s l.byte-index l.v below) ∙ l.invariant.3),
    )

pub returns : goal.returns
unfolding digits spelled_after
returns c =
    let s = c.args.s.now in
    let l = c.loop-byte in
    let e = sym c.is_shaped.ensures ∙ c.if-not-is_shaped.false in
    let z = drop_of_length-le s c.loop-byte-test.false in
    let d = rw z at l.invariant.2 in
    let v = rw z at l.invariant.3 in
    spells s l.v e (sym d) v
