-- The examples of specs/Examples, computed. Assumes nothing.
use mathlib.Core.Path.{◌≡◌, refl, sym, ap, ◌∙◌}
use Prim.Native.Nat.{ℕ}
use native.Mathlib.Omega.{arith}
use lib.ListN.{take}
use Rattle.decimal_model.specs.Ascii.{ascii}
use Rattle.refusals.proofs.Computing.{tabled}
use Rattle.refusals.specs.Conditions.{first_broken}
use Rattle.reason_model.specs.declared.Reason.{Reason}
use Rattle.reason_model.specs.Reading.{read_reason, reason_at}
use Rattle.reason_model.proofs.Computing.{worded, taken_in}
use Rattle.calls_model.specs.Calls.{answer_to_refusal, answer_to, buffer_after, room, outcome_within, leaves}
use Rattle.calls_model.specs.Reasons.{line_left, plain, line_among, explain_refusal, numbered}
use Rattle.calls_model.specs.Examples.{lent, planned, refused, Examples, line, Spoken, OtherPlaceBreaks}

pub examples-hold : Examples
unfolding ascii tabled first_broken answer_to_refusal answer_to buffer_after room outcome_within leaves lent planned refused
examples-hold = record { exact = refl; more = refl; one_less = refl; none = refl; one_before_eight = refl }

pub spoken-hold : Spoken
unfolding worded taken_in answer_to_refusal line_left plain line_among explain_refusal numbered lent line
spoken-hold = record {
  exact = refl;
  one_less = refl;
  one = refl;
  eight = refl;
  nine = refl;
  nine_short = refl;
  eight_elsewhere = refl;
  seven = refl;
  read = refl;
  read_none = refl;
}

line_read : read_reason (take 82 line) ≡ reason_at 7 0
unfolding taken_in line
line_read = refl

pub other-place-breaks : OtherPlaceBreaks
other-place-breaks again =
    let e = sym line_read ∙ again (omega arith) (omega arith) in
    let both : ◌≡◌ {A = Reason} (record { number = 7; place = 0 }) (record { number = 7; place = 1 }) = cc in
    let z : ◌≡◌ {A = ℕ} 0 1 = ap (λ (r : Reason). r.place) both in
    omega arith
