-- The laws of specs/Laws. Assumes nothing.
use Rattle.std.proofs.lemmas.Option.{same_Some}
use mathlib.Core.Path.{◌≡◌, refl, ap, sym, ◌∙◌, subst}
use mathlib.Core.List.{List, [], ◌∷◌}
use Prim.Native.Nat.{ℕ, ◌+◌, ◌-◌, ◌≤◌, ◌<◌, min}
use native.Mathlib.Omega.{arith}
use native.Mathlib.Decide.{dec_le}
use lib.ListN.{length, take, drop, length-drop}
use borrow.Author.Tests.{le-leb}
use Rattle.octets.specs.Bytes.{index_of}
use Rattle.lines.specs.declared.Line.{Line}
use Rattle.lines.specs.Text.{lines, part_of}
use Rattle.lines.specs.Laws.{Advances, FoundAdvances, NothingIsLeft}
use Rattle.lines.proofs.Cutting.{index-le, lines-past, lines_step}
use Rattle.lines.proofs.LineLaws.{line-none, line-found}

-- the line that is found where the text has not ended
module _ (text : List ℕ) (at end : ℕ) (h : at < length text) (e : end ≡ at + index_of 10 (drop at text)) where
  end-within : end ≤ length text
  end-within = let i = index-le 10 (drop at text) in let i' = rw length-drop at i in omega (arith, e)

  rest_lines : lines (drop (end + 1) text) ≡ lines (drop (min (end + 1) (length text)) text)
  rest_lines = by (dec_le (end + 1) (length text)) where
    by : Dec (end + 1 ≤ length text) → lines (drop (end + 1) text) ≡ lines (drop (min (end + 1) (length text)) text)
    by (yes l) = let m : min (end + 1) (length text) ≡ end + 1 = omega arith in rw m
    by (no n) =
        let m : min (end + 1) (length text) ≡ length text = omega arith in
        rw (m, lines-past text (end + 1) (omega arith), lines-past text (length text) (omega arith))

  is-part : part_of text at end ≡ take (end - at) (drop at text)
  unfolding part_of
  is-part = rw (le-leb at end (omega (arith, e)), le-leb end (length text) end-within)

  advances : Advances text at at end (record { at = min (end + 1) (length text) })
  advances = record {
    here = refl;
    in_order = omega (arith, e);
    within = end-within;
    forward = omega (arith, e);
    next_within = omega arith;
    first = rw is-part (lines_step text at end h e ∙ ap (λ (ls : List (List ℕ)). take (end - at) (drop at text) ∷ ls) rest_lines);
  }

pub found-advances : FoundAdvances
found-advances text at start end next q = by (dec_le (length text) at) where
  by : Dec (length text ≤ at) → Advances text at start end next
  by (yes l) = absurd (let e = line-none text at l in cc)
  by (no n) =
      let h : at < length text = omega arith in
      let f = line-found text at (at + index_of 10 (drop at text)) h refl in
      let line = same_Some _ _ (sym f ∙ q) in
      let a = advances text at (at + index_of 10 (drop at text)) h refl in
      subst (λ (l : Line). Advances text at l.start l.end l.next) line a

pub nothing-is-left : NothingIsLeft
nothing-is-left text at q = by (dec_le (length text) at) where
  by : Dec (length text ≤ at) → lines (drop at text) ≡ []
  by (yes l) = lines-past text at l
  by (no n) = absurd (let f = line-found text at (at + index_of 10 (drop at text)) (omega arith) refl in cc)
