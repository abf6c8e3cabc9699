-- Numbers 9 and 1 of an input, and the text of a row, as code finds them. Assumes nothing.
use Rattle.std.specs.Prelude.{Option, Some, None, Result, Ok, Err, ⊤}
use mathlib.Core.Path.{◌≡◌, refl, ap}
use mathlib.Core.List.{List, [], ◌∷◌, ◌++◌}
use Prim.Native.Nat.{ℕ, ◌<◌}
use lib.ListN.{length, get_or}
use borrow.Author.Tests.{lt-ltb}
use Rattle.lines.specs.declared.Line as lines
use Rattle.decimal_model.specs.Ascii.{ascii}
use Rattle.lines.specs.Text.{same, joined, ended, line_at, part_of}
use Rattle.lines.proofs.LawsHold.{found-advances, nothing-is-left}
use Rattle.refusals.specs.declared.Refusal.{Refusal}
use Rattle.refusals.specs.declared.Refusal.TheVariants.{InputTooLong}
use Rattle.refusals.specs.Conditions.{Condition, first_broken, verdict}
use Rattle.refusals.proofs.Answering.{answer-broken, answer-kept}
use Rattle.settings_model.specs.Columns.{twelve, every_column}
use Rattle.row_read_model.specs.declared.Heading.{Heading}
use Rattle.row_read_model.specs.declared.Heading.TheVariants.{Other}
use Rattle.row_read_model.specs.Names.{name_line, heading_of}
use Rattle.row_read_model.specs.Rows.{headed}
use Rattle.refusals.specs.Outcome.{Planned, Refused}
use Rattle.row_model.specs.Outcome.{RowOutcome}
use Rattle.plan_model.specs.declared.Line.{Line}
use Rattle.plan_model.specs.Plans.{answer}
use Rattle.reason_model.specs.Reasons.{verdict_line}
use Rattle.row_program_model.specs.declared.Style.{Style}
use Rattle.row_program_model.specs.declared.Style.TheVariants.{Reasons}
use Rattle.row_program_model.specs.Output.{printed, refusal_printed, heading_in, input_conditions}
use Rattle.program_model.specs.Printed.{too_long}
use Rattle.row_program_model.specs.declared.Progress.TheVariants.{Rows}
use Rattle.row_program_model.specs.Steps.{Step, behind, opening}

-- ---- the first line

module _ (input : List ℕ) where
  -- there is none
  pub no_names : line_at input 0 ≡ None → heading_in input ≡ Other
  unfolding heading_in heading_of same name_line joined twelve every_column ascii
  no_names e = ap (λ (ls : List (List ℕ)). heading_of (get_or ls 0 [])) (nothing-is-left input 0 e)

  pub first-names : (l : lines.Line) → line_at input 0 ≡ Some l → heading_in input ≡ heading_of (part_of input l.start l.end)
  unfolding heading_in
  first-names l e = ap (λ (ls : List (List ℕ)). heading_of (get_or ls 0 [])) (found-advances input 0 l.start l.end l.next e).first

-- which line of names a first line is, where there is one
abbrev pub heading_at : List ℕ → Option lines.Line → Heading
heading_at input (Some l) = heading_of (part_of input l.start l.end)
heading_at input None = Other

pub heading_found : (input : List ℕ) → heading_in input ≡ heading_at input (line_at input 0)
heading_found input = by (line_at input 0) refl
  where
    by : (l : Option lines.Line) → line_at input 0 ≡ l → heading_in input ≡ heading_at input l
    by (Some l) e = first-names input l e
    by None e = no_names input e

-- ---- numbers 9 and 1, and the first step

-- number 9, whatever the names are
pub too_long_lem : (input : List ℕ) (heading : Heading) → 65536 < length input → verdict (too_long input ++ headed heading) ≡ Err InputTooLong
unfolding first_broken too_long
too_long_lem input heading h = rw (lt-ltb 65536 (length input) h)

module _ (s : Style) (input : List ℕ) where
  abbrev conditions : List (Condition Refusal)
  conditions = too_long input ++ headed (heading_in input)

  pub opening-refused : (r : Refusal) → verdict conditions ≡ Err r
      → opening s input ≡ record { bytes = refusal_printed s r; next = Rows (heading_in input) (length input) }
  unfolding opening input_conditions
  opening-refused r v = rw (answer-broken (refusal_printed s) [] conditions r v, answer-broken (λ x. length input) (behind (line_at input 0)) conditions r v)

  pub opening-named : verdict conditions ≡ Ok tt
      → opening s input ≡ record { bytes = []; next = Rows (heading_in input) (behind (line_at input 0)) }
  unfolding opening input_conditions
  opening-named v = rw (answer-kept (refusal_printed s) [] conditions v, answer-kept (λ x. length input) (behind (line_at input 0)) conditions v)

-- the first step, by the verdict on the input
abbrev pub opened : Style → List ℕ → Result ⊤ Refusal → Step
opened s input (Ok t) = record { bytes = []; next = Rows (heading_in input) (behind (line_at input 0)) }
opened s input (Err r) = record { bytes = refusal_printed s r; next = Rows (heading_in input) (length input) }

pub opening_found : (s : Style) (input : List ℕ) → opening s input ≡ opened s input (verdict (too_long input ++ headed (heading_in input)))
opening_found s input = by (verdict (too_long input ++ headed (heading_in input))) refl
  where
    by : (v : Result ⊤ Refusal) → verdict (too_long input ++ headed (heading_in input)) ≡ v → opening s input ≡ opened s input v
    by (Ok t) e = opening-named s input e
    by (Err r) e = opening-refused s input r e

-- ---- what is printed for a row

-- its line, by what is answered, whatever its plan is put as
pub spoken_answer : (put : List Line → List ℕ) (o : RowOutcome) → ended (verdict_line (answer put o) ∷ []) ≡ printed Reasons o
unfolding printed answer verdict_line
spoken_answer put (Planned p) = refl
spoken_answer put (Refused r) = refl

-- a text and its LF
pub ended_one : (t : List ℕ) → ended (t ∷ []) ≡ t ++ 10 ∷ []
unfolding ended
ended_one t = refl
