-- What holds of what is printed. Assumes nothing.
use mathlib.Core.Path.{◌≡◌, refl, ap, sym, ◌∙◌}
use mathlib.Core.List.{List, ◌++◌}
use Prim.Native.Nat.{ℕ, ◌<◌}
use native.Mathlib.Omega.{arith}
use borrow.Author.Tests.{le-ltb}
use lib.ListN.{length, get_or, length-append}
use Rattle.decimal_model.specs.Ascii.{ascii}
use Rattle.decimal_model.specs.Decimal.{digits_by, decimal}
use Rattle.lines.specs.Text.{joined, ended}
use Rattle.refusals.specs.declared.Refusal.{Refusal}
use Rattle.refusals.specs.declared.Refusal.TheVariants.{InputTooLong}
use Rattle.refusals.proofs.Computing.{tabled}
use Rattle.refusals.proofs.Unbroken.{unbroken-append, unbroken-left, unbroken-right}
use Rattle.plan_model.specs.declared.NodeLine.{NodeLine}
use Rattle.tree_model.specs.Lines.{lines}
use Rattle.tree_model.specs.Checks.{conditions}
use Rattle.refusals.specs.Outcome.{Planned, Refused}
use Rattle.tree_model.specs.Outcome.{TreeOutcome}
use Rattle.tree_model.specs.Promise.{Keeps}
use Rattle.refusals.proofs.Outcomes.{planned-unbroken, unbroken-planned}
use Rattle.tree_read_model.specs.Survey.{tree_in, surveyed, outcome_in}
use Rattle.tree_read_model.proofs.LawsHold.{every-text-keeps}
use Rattle.report_model.specs.Text.{refusal_text}
use Rattle.report_model.specs.TreeText.{tree_header, tree_text}
use Rattle.report_model.proofs.OneTreeText.{one-text-for-trees}
use Rattle.program_model.specs.Printed.{printed, too_long}
use Rattle.settings_model.specs.declared.Radio.{Radio}
use Rattle.tree_program_model.specs.declared.Arguments.{Arguments}
use Rattle.tree_program_model.specs.Output.{loss_in, arguments_read, radio_of, sink_of, argument_conditions, call_outcome, tree_output}
use Rattle.tree_program_model.specs.Laws.{NotGivenIsZero, LongInputs, TenBeforeTwo, ReadArguments, PrintedLinesKeep}
use Rattle.tree_program_model.proofs.Outputs.{too_long_lem, ten-broken, call_planned, output-refused}

pub long-inputs : LongInputs
unfolding refusal_text tabled digits_by decimal joined ended ascii
long-inputs a input h = sym (output-refused a input InputTooLong (sym (too_long_lem a input h)))

-- what stands behind 65,537 bytes decides nothing
pub long-front : (a : Arguments) (front rest : List ℕ) → 65536 < length front → tree_output a (front ++ rest) ≡ tree_output a front
long-front a front rest h = long-inputs a (front ++ rest) (omega (arith, length-append front rest)) ∙ sym (long-inputs a front h)

pub ten-before-two : TenBeforeTwo
ten-before-two a input r h e = sym (output-refused a input r (sym (ten-broken a input h r e)))

pub read-arguments : ReadArguments
unfolding tree_output
read-arguments a input h k = ap (printed tree_text) (call_planned a input h k)

-- no refusal is printed as a plan is
no_text : (r : Refusal) (p : List NodeLine) → refusal_text r ≡ tree_text p → ⊥
unfolding refusal_text tree_text tree_header ended joined ascii
no_text r p e = let f : ◌≡◌ {A = ℕ} 82 75 = ap (λ (l : List ℕ). get_or l 0 0) e in omega (arith, f)

pub printed-lines-keep : PrintedLinesKeep
unfolding tree_output printed call_outcome argument_conditions outcome_in
printed-lines-keep a input p e = by (call_outcome a input) refl e where
  b : Radio
  b = radio_of a

  sink : ℕ
  sink = sink_of a

  own : List NodeLine
  own = lines b (tree_in input) sink

  by : (o : TreeOutcome) → call_outcome a input ≡ o → printed tree_text o ≡ tree_text p → Keeps b (tree_in input) sink p
  by (Refused r) q w = absurd (no_text r p w)
  by (Planned l) q w =
      let checked = conditions b (tree_in input) sink in
      let u = planned-unbroken own l (argument_conditions a input ++ checked) q in
      let s = unbroken-right (too_long input) (surveyed input sink) (unbroken-left (too_long input ++ surveyed input sink) (arguments_read a) (unbroken-left (argument_conditions a input) checked u.0)) in
      let c = unbroken-right (argument_conditions a input) checked u.0 in
      let same : l ≡ p = one-text-for-trees l p w in
      every-text-keeps input b sink p
      (unbroken-planned own (surveyed input sink ++ checked) (unbroken-append (surveyed input sink) checked s c) ∙ ap Planned (u.1 ∙ same))

-- ---- LOSS that is not given

pub not-given-is-zero : NotGivenIsZero
unfolding tree_output call_outcome argument_conditions arguments_read loss_in radio_of sink_of
not-given-is-zero bo so head payload ack sink loss count input h = rw (le-ltb 6 count h, le-ltb 7 count (omega arith))
