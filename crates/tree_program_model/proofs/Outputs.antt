-- What is printed for a surveyed tree, as code finds it. Assumes nothing.
use Rattle.std.specs.Prelude.{Result, Ok, Err, ⊤}
use mathlib.Core.Path.{◌≡◌, refl, ap, sym, ◌∙◌}
use mathlib.Core.List.{List, [], ◌∷◌, ◌++◌}
use Prim.Native.Nat.{ℕ, ◌≤◌, ◌<◌}
use lib.ListN.{length}
use borrow.Author.Tests.{lt-ltb, le-ltb}
use Rattle.refusals.specs.declared.Refusal.{Refusal}
use Rattle.refusals.specs.declared.Refusal.TheVariants.{InputTooLong}
use Rattle.refusals.specs.Conditions.{Condition, first_broken, verdict}
use Rattle.refusals.proofs.Answering.{either_verdict, two_verdicts, first-part-answers, second-part-answers}
use Rattle.settings_model.specs.declared.Radio.{Radio}
use Rattle.program_model.specs.Printed.{printed, too_long}
use Rattle.report_model.specs.TreeText.{tree_text}
use Rattle.report_model.specs.Text.{refusal_text}
use Rattle.plan_model.specs.declared.NodeLine.{NodeLine}
use Rattle.tree_model.specs.Lines.{lines}
use Rattle.tree_model.specs.Checks.{conditions}
use Rattle.refusals.specs.Outcome.{Planned, Refused}
use Rattle.tree_model.specs.Outcome.{TreeOutcome}
use Rattle.tree_read_model.specs.Survey.{tree_in, surveyed, outcome_in}
use Rattle.tree_program_model.specs.declared.Arguments.{Arguments}
use Rattle.tree_program_model.specs.Output.{arguments_read, radio_of, sink_of, argument_conditions, call_outcome, tree_output}

-- ---- numbers 9, 10 and 2

long-enough : (input : List ℕ) → 65536 < length input → verdict (too_long input) ≡ Err InputTooLong
unfolding too_long first_broken
long-enough input h = rw (lt-ltb 65536 (length input) h)

not-long : (input : List ℕ) → length input ≤ 65536 → verdict (too_long input) ≡ Ok tt
unfolding too_long first_broken
not-long input h = rw (le-ltb 65536 (length input) h)

module _ (a : Arguments) (input : List ℕ) where
  abbrev list : List (Condition Refusal)
  list = surveyed input (sink_of a)

  pub too_long_lem : 65536 < length input → Err InputTooLong ≡ verdict (argument_conditions a input)
  unfolding argument_conditions
  too_long_lem h =
      first-part-answers Err (Ok tt) (too_long input ++ list) (arguments_read a) InputTooLong
      (sym (first-part-answers Err (Ok tt) (too_long input) list InputTooLong (long-enough input h)))

  module _ (h : length input ≤ 65536) where
    pub ten-broken : (r : Refusal) → verdict list ≡ Err r → Err r ≡ verdict (argument_conditions a input)
    unfolding argument_conditions
    ten-broken r e =
        first-part-answers Err (Ok tt) (too_long input ++ list) (arguments_read a) r (sym (second-part-answers Err (Ok tt) (too_long input) list (not-long input h)) ∙ e)

    pub two-next : verdict list ≡ Ok tt → verdict (arguments_read a) ≡ verdict (argument_conditions a input)
    unfolding argument_conditions
    two-next e =
        second-part-answers Err (Ok tt) (too_long input ++ list) (arguments_read a) (sym (second-part-answers Err (Ok tt) (too_long input) list (not-long input h)) ∙ e)

-- ---- number 2, condition by condition

-- the verdict on the first condition where it is a refusal, as `?` hands it out, and else the verdict on the rest
pub next_verdict : (c : Condition Refusal) (cs : List (Condition Refusal)) → verdict (c ∷ cs) ≡ either_verdict (verdict (c ∷ [])) (verdict cs)
next_verdict c cs = two_verdicts (c ∷ []) cs

-- ---- all that is printed

-- a refusal is what a call comes to, and else this is
abbrev pub call_by : Result ⊤ Refusal → TreeOutcome → TreeOutcome
call_by (Ok t) o = o
call_by (Err r) o = Refused r

module _ (a : Arguments) (input : List ℕ) where
  abbrev b : Radio
  b = radio_of a

  abbrev sink : ℕ
  sink = sink_of a

  abbrev own : List NodeLine
  own = lines b (tree_in input) sink

  abbrev checked : List (Condition Refusal)
  checked = conditions b (tree_in input) sink

  pub call-refused : (r : Refusal) → verdict (argument_conditions a input) ≡ Err r → Refused r ≡ call_outcome a input
  unfolding call_outcome
  call-refused r e = first-part-answers Refused (Planned own) (argument_conditions a input) checked r e

  -- the refusal where there is one, and else what is decided of the list
  pub call_found : call_outcome a input ≡ call_by (verdict (argument_conditions a input)) (first_broken Refused (Planned own) checked)
  unfolding call_outcome
  call_found = by (verdict (argument_conditions a input)) refl where
    by : (v : Result ⊤ Refusal) → verdict (argument_conditions a input) ≡ v → call_outcome a input ≡ call_by v (first_broken Refused (Planned own) checked)
    by (Ok t) e = sym (second-part-answers Refused (Planned own) (argument_conditions a input) checked e)
    by (Err r) e = sym (call-refused r e)

  pub output-refused : (r : Refusal) → verdict (argument_conditions a input) ≡ Err r → refusal_text r ≡ tree_output a input
  unfolding tree_output printed
  output-refused r e = ap (printed tree_text) (call-refused r e)

  module _ (h : length input ≤ 65536) (k : verdict (arguments_read a) ≡ Ok tt) where
    -- where 9 and 2 are kept, the text's outcome is the call's
    pub call_planned : call_outcome a input ≡ outcome_in input b sink
    unfolding call_outcome outcome_in
    call_planned = sym (by (verdict (surveyed input sink)) refl) where
      by : (v : Result ⊤ Refusal) → verdict (surveyed input sink) ≡ v
          → first_broken Refused (Planned own) (surveyed input sink ++ checked) ≡ first_broken Refused (Planned own) (argument_conditions a input ++ checked)
      by (Ok t) e =
          sym (second-part-answers Refused (Planned own) (surveyed input sink) checked e)
          ∙ second-part-answers Refused (Planned own) (argument_conditions a input) checked (sym (two-next a input h e) ∙ k)
      by (Err r) e =
          sym (first-part-answers Refused (Planned own) (surveyed input sink) checked r e)
          ∙ first-part-answers Refused (Planned own) (argument_conditions a input) checked r (sym (ten-broken a input h r e))
