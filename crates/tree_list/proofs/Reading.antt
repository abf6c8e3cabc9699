-- The node lines of a text, read one after another. Assumes nothing.
use Rattle.std.specs.Prelude.{Result, Ok, Err, None}
use mathlib.Core.Path.{◌≡◌, refl, sym, ap, ◌∙◌}
use mathlib.Core.Bool.{true, false}
use mathlib.Core.List.{List, [], ◌∷◌, ◌++◌, map, map-append, append-nil}
use Prim.Native.Nat.{ℕ, suc, ◌+◌, ◌≤◌}
use native.Mathlib.Numerals.{add-one}
use native.Mathlib.Omega.{arith}
use lib.ListN.{length, take, drop, set, length-append, length-set}
use lib.Seq.{append_snoc, take-suc-set}
use Rattle.lines.specs.declared.Cursor.{Cursor}
use Rattle.decimal_model.specs.Ascii.{ascii}
use Rattle.lines.specs.Text.{same, lines, line_at, part_of, found}
use Rattle.lines.proofs.LawsHold.{found-advances, nothing-is-left}
use Rattle.refusals.specs.declared.Refusal.{Refusal}
use Rattle.refusals.specs.declared.Refusal.TheVariants.{InTree}
use Rattle.refusals.specs.declared.TreeRefusal.TheVariants.{NodeNames, NodeLine}
use Rattle.refusals.specs.Conditions.{first_broken, verdict}
use Rattle.tree_read_model.specs.Entries.{entry_in, line_right, is_name_line, name_line}
use Rattle.tree_read_model.specs.Survey.{node_lines, parent_in, burst_in, rate_in, named, lines_from, listed}
use Rattle.tree_read_model.proofs.Listed.{says}
use Rattle.tree_plan_model.specs.Lists.{Space, TakenNode, Holding, ReadFrom, ReadText, lines_behind}

-- ---- the values that were taken

-- one entry more
one_more : (f : List ℕ → ℕ) (ls : List (List ℕ)) (line : List ℕ) (k : ℕ) (ps ps' : List ℕ) → length ls ≡ k → k ≤ 253 → length ps ≡ 255
    → take (suc (length ls)) ps ≡ 0 ∷ map f ls → ps' ≡ set ps (k + 1) (f line) → take (suc (length (ls ++ line ∷ []))) ps' ≡ 0 ∷ map f (ls ++ line ∷ [])
one_more f ls line k ps ps' c low l h e =
    let n : length (ls ++ line ∷ []) ≡ k + 1 = length-append ls (line ∷ []) ∙ omega arith in
    let s : suc (length ls) ≡ k + 1 = omega arith in
    rw (n, e) (take-suc-set ps (k + 1) (f line) (omega arith) ∙ rw (← s, h, map-append f ls (line ∷ [])) refl)

-- the number of a node whose line keeps the rules
right-few : (k : ℕ) (line : List ℕ) → line_right k line ≡ true → k ≤ 254
unfolding line_right
right-few k line e = (says k (entry_in line) e).few

-- ---- turns

-- after k node lines, at a position of the text
pub record Turn (input : List ℕ) (from k at : ℕ) (ps bs rs : List ℕ) : Type 0 where
  pub done : List (List ℕ)
  pub split : lines_behind input from ≡ done ++ lines_behind input at
  pub count : length done ≡ k
  pub low : k ≤ 254
  pub holding : Holding done ps bs rs
  pub kept : verdict (lines_from 1 (lines_behind input from)) ≡ verdict (lines_from (suc k) (lines_behind input at))
  pub space : Space ps bs rs

-- some lines are listed line by line
listed-some : (ls : List (List ℕ)) → 1 ≤ length ls → listed ls ≡ lines_from 1 ls
unfolding listed
listed-some [] h = absurd (omega arith)
listed-some (l ∷ ls) h = refl

module _ (input : List ℕ) (from k at : ℕ) (ps bs rs : List ℕ) (t : Turn input from k at ps bs rs) where
  module _ (e : line_at input at ≡ None) where
    ended : lines_behind input at ≡ []
    unfolding lines_behind
    ended = nothing-is-left input at e

    all : lines_behind input from ≡ t.done
    all = t.split ∙ rw ended (append-nil t.done)

    -- no line is left, and there was none
    pub turn-none-left : k ≡ 0 → ReadFrom (lines_behind input from) (Err (InTree (NodeLine 1))) ps bs rs
    unfolding listed first_broken
    turn-none-left z = record { verdict = rw (all ∙ none t.done (t.count ∙ z)) refl; whole = tt }
      where
        none : (ls : List (List ℕ)) → length ls ≡ 0 → ls ≡ []
        none [] z = refl
        none (l ∷ ls) z = absurd (omega arith)

    -- or some
    pub turn-end : (k ≡ 0 → ⊥) → ReadFrom (lines_behind input from) (Ok k) ps bs rs
    unfolding lines_from first_broken
    turn-end n = record {
      verdict =
          let l : listed (lines_behind input from) ≡ lines_from 1 (lines_behind input from) = listed-some (lines_behind input from) (rw all (omega (arith, t.count, n))) in
          sym (ap verdict l ∙ t.kept ∙ ap (λ (ls : List (List ℕ)). verdict (lines_from (suc k) ls)) ended);
      whole = record { count = rw all (sym t.count); holding = rw all t.holding };
    }

  module _ (start end : ℕ) (next : Cursor) (e : line_at input at ≡ found start end next) where
    rest : lines_behind input at ≡ part_of input start end ∷ lines_behind input next.at
    unfolding lines_behind
    rest = (found-advances input at start end next e).first

    -- a line that keeps the rules
    pub turn_more : (ps' bs' rs' : List ℕ) → TakenNode (k + 1) (part_of input start end) true ps bs rs ps' bs' rs' → Turn input from (k + 1) next.at ps' bs' rs'
    unfolding lines_from first_broken
    turn_more ps' bs' rs' n = let low : k + 1 ≤ 254 = right-few (k + 1) (part_of input start end) (sym n.right) in record {
      done = t.done ++ part_of input start end ∷ [];
      split = t.split ∙ ap (λ (ls : List (List ℕ)). t.done ++ ls) rest ∙ sym (append_snoc t.done (part_of input start end) (lines_behind input next.at));
      count = length-append t.done (part_of input start end ∷ []) ∙ omega (arith, t.count);
      low = low;
      holding = record {
        parents = one_more (λ l. parent_in (entry_in l)) t.done (part_of input start end) k ps ps' t.count (omega arith) t.space.parents t.holding.parents (n.parents refl);
        bursts = one_more (λ l. burst_in (entry_in l)) t.done (part_of input start end) k bs bs' t.count (omega arith) t.space.bursts t.holding.bursts (n.bursts refl);
        rates = one_more (λ l. rate_in (entry_in l)) t.done (part_of input start end) k rs rs' t.count (omega arith) t.space.rates t.holding.rates (n.rates refl);
      };
      kept =
          let r : line_right (suc k) (part_of input start end) ≡ true = rw (add-one k) at (sym n.right) in
          t.kept ∙ ap (λ (ls : List (List ℕ)). verdict (lines_from (suc k) ls)) rest ∙ rw (r, add-one k) refl;
      space = record {
        parents = rw (n.parents refl) (length-set ps (k + 1) _ ∙ t.space.parents);
        bursts = rw (n.bursts refl) (length-set bs (k + 1) _ ∙ t.space.bursts);
        rates = rw (n.rates refl) (length-set rs (k + 1) _ ∙ t.space.rates);
      };
    }

    -- and one that breaks one
    pub turn-broken : (ps' bs' rs' : List ℕ) → line_right (k + 1) (part_of input start end) ≡ false → ReadFrom (lines_behind input from) (Err (InTree (NodeLine (k + 1)))) ps' bs' rs'
    unfolding lines_from first_broken
    turn-broken ps' bs' rs' w =
        let x : line_right (suc k) (part_of input start end) ≡ false = rw (add-one k) at w in
        let some : 1 ≤ length (lines_behind input from) = rw (t.split, rest, length-append t.done (part_of input start end ∷ lines_behind input next.at)) (omega arith) in
        let v : verdict (lines_from (suc k) (lines_behind input at)) ≡ Err (InTree (NodeLine (k + 1))) = rw (rest, x, add-one k) refl in
        record { verdict = sym (ap verdict (listed-some (lines_behind input from) some) ∙ t.kept ∙ v); whole = tt }

-- ---- the whole text

-- a text without lines
pub text-empty : (input ps bs rs : List ℕ) → line_at input 0 ≡ None → ReadText input (Err (InTree NodeNames)) ps bs rs
unfolding named first_broken is_name_line name_line same ascii
text-empty input ps bs rs e = let z : lines input ≡ [] = nothing-is-left input 0 e in record { verdict = rw z refl; whole = tt }

module _ (input : List ℕ) (start end : ℕ) (next : Cursor) (e : line_at input 0 ≡ found start end next) where
  all-lines : lines input ≡ part_of input start end ∷ lines (drop next.at input)
  all-lines = (found-advances input 0 start end next e).first

  -- names that differ
  pub names-differ : (ps bs rs : List ℕ) → is_name_line (part_of input start end) ≡ false → ReadText input (Err (InTree NodeNames)) ps bs rs
  unfolding named first_broken
  names-differ ps bs rs w = record { verdict = rw (all-lines, w) refl; whole = tt }

  -- and the right ones
  pub names-right : (r : Result ℕ Refusal) (ps bs rs : List ℕ) → is_name_line (part_of input start end) ≡ true → ReadFrom (lines_behind input next.at) r ps bs rs → ReadText input r ps bs rs
  unfolding named first_broken lines_behind node_lines
  names-right r ps bs rs w f = record { verdict = f.verdict ∙ rw (all-lines, w) refl; whole = rw all-lines f.whole }
