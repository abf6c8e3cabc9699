-- `reason_read::numbers::place_in` meets its contract. Assumes nothing.
use mathlib.Core.Path.{◌≡◌, sym, ◌∙◌}
use Prim.Native.Nat.{◌+◌, ◌-◌, ◌*◌}
use native.Mathlib.Omega.{arith}
use lib.ListN.{get_or}
use Rattle.decimal_model.proofs.Spelling.{spelled_step}
use Rattle.reason_model.proofs.Words.{no-numeral, place-over}
use Rattle.reason_read.proofs.numbers.place_in.Goals as goal

pub returns-then-not-is_numeral : goal.returns-then-not-is_numeral
returns-then-not-is_numeral c = no-numeral _ (sym c.is_numeral.ensures ∙ c.if-not-is_numeral.true)

pub returns-in_err-checked_mul : goal.returns-in_err-checked_mul
returns-in_err-checked_mul c =
    let l = c.loop-digit in
    c.from_residual.ensures
    ∙ place-over c.args.word.now (sym c.is_numeral.ensures ∙ c.if-not-is_numeral.false) l.digit-index l.place l.invariant.left c.loop-digit-test.true (omega (arith, c.in_err-checked_mul.ensures))

pub returns-in_err-place : goal.returns-in_err-place
returns-in_err-place c =
    let l = c.loop-digit in
    c.from_residual-in_err-place.ensures
    ∙ place-over c.args.word.now (sym c.is_numeral.ensures ∙ c.if-not-is_numeral.false) l.digit-index l.place l.invariant.left c.loop-digit-test.true
    (omega (arith, c.in_err-place.ensures, c.in_ok-checked_mul.ensures, c.from.ensures, c.saturating_sub.ensures))

pub loop-digit-preserved : goal.loop-digit-preserved
loop-digit-preserved c =
    let w = c.args.word.now in
    let l = c.loop-digit in
    let z : c.in_ok-place.place ≡ 10 * l.place + (get_or w l.digit-index 0 - 48) = omega (arith, c.in_ok-place.ensures, c.in_ok-checked_mul.ensures, c.from.ensures, c.saturating_sub.ensures) in
    record { small = omega (arith, c.in_ok-place.ensures); left = rw z (sym (spelled_step w l.digit-index l.place c.loop-digit-test.true) ∙ l.invariant.left) }
