-- The laws of specs/Laws. Assumes nothing.
use Rattle.std.specs.Prelude.{Option, Some, None, Result, Ok, Err, ⊤}
use Rattle.refusals.specs.declared.Refusal.{Refusal}
use mathlib.Core.Path.{◌≡◌, refl, ap, sym, ◌∙◌}
use mathlib.Core.List.{List, [], ◌∷◌, ◌++◌, append-nil, append_assoc}
use Prim.Native.Nat.{ℕ, zero, suc, ◌<◌}
use native.Mathlib.Omega.{arith}
use borrow.Author.Tests.{le-ltb}
use lib.ListN.{length, drop, length-append}
use Rattle.lines.specs.declared.Line.{Line}
use Rattle.lines.specs.Text.{joined, lines, ended, line_at}
use Rattle.lines.proofs.Cutting.{lines-past}
use Rattle.lines.proofs.LawsHold.{found-advances, nothing-is-left}
use Rattle.refusals.specs.declared.Refusal.TheVariants.{InputTooLong}
use Rattle.refusals.proofs.Answering.{answer-broken, answer-kept}
use Rattle.refusals.specs.Conditions.{first_broken, verdict}
use Rattle.report_model.specs.Text.{text, refusal_text}
use Rattle.plan_model.specs.Plans.{answer}
use Rattle.program_model.specs.Printed as program
use Rattle.row_read_model.specs.declared.Heading.{Heading}
use Rattle.row_read_model.specs.Rows.{headed}
use Rattle.row_answer_model.specs.Outcomes.{row_outcome}
use Rattle.reason_model.specs.Reasons.{verdict_line}
use Rattle.reason_model.proofs.Computing.{worded}
use Rattle.row_program_model.specs.declared.Style.{Style}
use Rattle.row_program_model.specs.declared.Style.TheVariants.{Plans, Reasons}
use Rattle.row_program_model.proofs.Inputs.{too_long_lem, opened, opening_found, spoken_answer}
use Rattle.row_program_model.specs.declared.Progress.{Progress}
use Rattle.row_program_model.specs.declared.Progress.TheVariants.{Start, Rows}
use Rattle.row_program_model.specs.declared.Piece.{Piece}
use Rattle.row_program_model.specs.Output.{printed, refusal_printed, rows_printed, heading_in, input_conditions, output}
use Rattle.program_model.specs.Printed.{too_long}
use Rattle.row_program_model.specs.Steps.{Step, behind, opening, row_at, step, put, piece, followed, printed_from}
use Rattle.row_program_model.specs.Laws.{LongInputs, OtherInputs, OneLineForRow, to_go, StepsEnd, StepsPrintAll}

-- ---- the length of an input

long-printed : (s : Style) (input : List ℕ) → 65536 < length input → output s input ≡ refusal_printed s InputTooLong
unfolding output input_conditions
long-printed s input h = answer-broken (refusal_printed s) _ (too_long input ++ headed (heading_in input)) InputTooLong (too_long_lem input (heading_in input) h)

pub long-inputs : LongInputs
unfolding program.printed printed worded ended joined refusal_text
long-inputs input h = (long-printed Plans input h, long-printed Reasons input h)

pub other-inputs : OtherInputs
unfolding output input_conditions too_long first_broken
other-inputs s input h = rw (le-ltb 65536 (length input) h)

-- what stands behind 65,537 bytes decides nothing
pub long-front : (s : Style) (front rest : List ℕ) → 65536 < length front → output s (front ++ rest) ≡ output s front
long-front s front rest h =
    long-printed s (front ++ rest) (omega (arith, length-append front rest)) ∙ sym (long-printed s front h)

-- ---- the steps

-- what is still to be printed
unfoldable pub remaining : Style → List ℕ → Progress → List ℕ
remaining s input Start = output s input
remaining s input (Rows h at) = rows_printed s h (lines (drop at input))

-- a step prints the front of what remains, and brings the end nearer
record Ahead (s : Style) (input : List ℕ) (p : Progress) (t : Step) : Type 0 where
  prints : remaining s input p ≡ t.bytes ++ remaining s input t.next
  nearer : to_go input t.next < to_go input p

-- and where there is none nothing remains
abbrev Taken : Style → List ℕ → Progress → Option Step → Type 0
Taken s input p (Some t) = Ahead s input p t
Taken s input p None = remaining s input p ≡ []

-- a row's step, by the line at its position
row-taken : (s : Style) (h : Heading) (input : List ℕ) (at : ℕ) (l : Option Line) → line_at input at ≡ l → Taken s input (Rows h at) (row_at s h input l)
unfolding row_at remaining to_go rows_printed
row-taken s h input at (Some l) e =
    let a = found-advances input at l.start l.end l.next e in
    record { prints = ap (rows_printed s h) a.first; nearer = omega (arith, a.forward, a.next_within) }
row-taken s h input at None e = rw (nothing-is-left input at e)

-- behind the first line stand the rows
behind-names : (input : List ℕ) (l : Option Line) → line_at input 0 ≡ l → drop 1 (lines input) ≡ lines (drop (behind l) input)
unfolding behind
behind-names input (Some l) e = ap (λ (ls : List (List ℕ)). drop 1 ls) (found-advances input 0 l.start l.end l.next e).first
behind-names input None e = rw (nothing-is-left input 0 e)

-- the first step, by the verdict on the input
opening-prints : (s : Style) (input : List ℕ) (v : Result ⊤ Refusal) → verdict (too_long input ++ headed (heading_in input)) ≡ v
    → output s input ≡ (opened s input v).bytes ++ remaining s input (opened s input v).next
unfolding remaining rows_printed output input_conditions
opening-prints s input (Err r) e = rw (
  answer-broken (refusal_printed s) (rows_printed s (heading_in input) (drop 1 (lines input))) (too_long input ++ headed (heading_in input)) r e,
  lines-past input (length input) (omega arith),
  append-nil (refusal_printed s r),
)
opening-prints s input (Ok t) e = rw (
  answer-kept (refusal_printed s) (rows_printed s (heading_in input) (drop 1 (lines input))) (too_long input ++ headed (heading_in input)) e,
  behind-names input (line_at input 0) refl,
)

opening-front : (s : Style) (input : List ℕ) → output s input ≡ (opening s input).bytes ++ remaining s input (opening s input).next
opening-front s input = rw (opening_found s input) (opening-prints s input (verdict (too_long input ++ headed (heading_in input))) refl)

opening-taken : (s : Style) (input : List ℕ) → Taken s input Start (Some (opening s input))
unfolding opening remaining to_go
opening-taken s input = record { prints = opening-front s input; nearer = omega arith }

-- every step
step-taken : (s : Style) (input : List ℕ) (p : Progress) → Taken s input p (step s input p)
unfolding step
step-taken s input Start = opening-taken s input
step-taken s input (Rows h at) = row-taken s h input at (line_at input at) refl

pub steps-end : StepsEnd
steps-end s input p t e = let f : Taken s input p (Some t) = rw e at (step-taken s input p) in f.nearer

-- as many steps as are left, and one that finds nothing, print what remains
prints-remaining : (s : Style) (input : List ℕ) (n : ℕ) (p : Progress) → to_go input p < n → printed_from s n input p ≡ remaining s input p
unfolding printed_from followed
prints-remaining s input zero p h = absurd (omega arith)
prints-remaining s input (suc n) p h = by (step s input p) (step-taken s input p) (prints-remaining s input n)
  where
    by : (t : Option Step) → Taken s input p t → ((q : Progress) → to_go input q < n → printed_from s n input q ≡ remaining s input q)
        → followed t (λ q. printed_from s n input q) ≡ remaining s input p
    by (Some t) f later = rw (later t.next (omega (arith, f.nearer)), f.prints)
    by None f later = sym f

pub steps-print-all : StepsPrintAll
unfolding remaining
steps-print-all s input n h = prints-remaining s input n Start h

-- nothing is printed yet: all of the output remains
pub remaining-start : (s : Style) (input : List ℕ) → remaining s input Start ≡ output s input
unfolding remaining
remaining-start s input = refl

-- the same of a step's answer: it tells the length of what is printed, which is the front of what remains, and brings the end nearer
pub record Answered (s : Style) (input : List ℕ) (p : Progress) (r : Piece) : Type 0 where
  pub counted : r.length ≡ length (put (step s input p))
  pub prints : remaining s input p ≡ put (step s input p) ++ remaining s input r.next
  pub nearer : to_go input r.next < to_go input p

pub piece-answered : (s : Style) (input : List ℕ) (p : Progress) (r : Piece) → Some r ≡ piece (step s input p) → Answered s input p r
unfolding put piece
piece-answered s input p r e =
    let w = by (step s input p) (step-taken s input p) e in
    record { counted = w.0; prints = w.1; nearer = w.2 }
  where
    by : (o : Option Step) → Taken s input p o → Some r ≡ piece o
        → (r.length ≡ length (put o)) × (remaining s input p ≡ put o ++ remaining s input r.next) × (to_go input r.next < to_go input p)
    by (Some t) f w =
        let q : r ≡ record { length = length t.bytes; next = t.next } = cc in
        rw q (refl, f.prints, f.nearer)
    by None f w = cc

-- where none is answered nothing remains
pub no-piece : (s : Style) (input : List ℕ) (p : Progress) → None ≡ piece (step s input p) → remaining s input p ≡ []
unfolding piece
no-piece s input p e = by (step s input p) (step-taken s input p) e
  where
    by : (o : Option Step) → Taken s input p o → None ≡ piece o → remaining s input p ≡ []
    by (Some t) f w = cc
    by None f w = f

-- ---- reasons are one line for each row

pub one-line-for-row : OneLineForRow
unfolding rows_printed ended
one-line-for-row h [] = refl
one-line-for-row h (r ∷ rs) =
    let t : List ℕ = verdict_line (answer text (row_outcome h r)) in
    rw (sym (spoken_answer text (row_outcome h r)), one-line-for-row h rs) (append_assoc t (10 ∷ []) _)
