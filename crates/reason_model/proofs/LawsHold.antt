-- The laws of specs/Laws. Assumes nothing.
use Rattle.std.specs.Prelude.{Option, Some, None}
use mathlib.Core.Path.{◌≡◌, refl, sym, ap, ◌∙◌}
use mathlib.Core.Bool.{true, and-eq-true_iff}
use mathlib.Core.List.{List, [], ◌∷◌, ◌++◌, map}
use Prim.Native.Nat.{ℕ, suc, ◌^◌, ◌<◌}
use native.Mathlib.Omega.{arith}
use lib.ListN.{length, get_or, take, drop}
use lib.Seq.{split_at}
use Rattle.decimal_model.specs.Ascii.{ascii}
use Rattle.refusals.specs.declared.Refusal.{Refusal}
use Rattle.refusals.specs.declared.Refusal.TheVariants.{Names, Unreadable, TextAfter, OutOfRange, AtOdds, Reservations, Superframes, SlotsUsed, LentTooShort, InputTooLong, InTree}
use Rattle.refusals.specs.declared.TreeRefusal.TheVariants.{NodeNames, NodeLine, SinkNode, RouterReservations, RouterSlots}
use Rattle.refusals.specs.declared.Conflict.TheVariants.{Orders, Routers, Sensors, SinkDepth, SinkBranches, FrameLength, Unacknowledged}
use Rattle.refusals.specs.Table.{Always, Sort, sort, table, sort_at, place_said}
use Rattle.refusals.specs.Refusals.{conflict_facts, tree_facts, facts_of, number_of, place_of}
use Rattle.refusals.proofs.Sorts.{place_for, sort-inside, place_kept, every}
use Rattle.measure.specs.Measures.{slots}
use Rattle.reason_model.specs.declared.Reason.{Reason}
use Rattle.reason_model.specs.Reasons.{phrase_at, part_of, part_text, taken, filled, reason}
use Rattle.reason_model.specs.Reading.{matched, read_as, read_from, read_reason, reason_at}
use Rattle.reason_model.specs.Laws.{ReadBack, ReasonOf, OnlyReasons, PrintableReasons}
use Rattle.reason_model.proofs.Gaps.{sound}
use Rattle.reason_model.proofs.PhrasesApart.{placed, apart, filled-matched, apart-matched}
use Rattle.reason_model.proofs.PhraseFilled.{once, agrees, place_read, matched-fills}
use Rattle.reason_model.proofs.Printing.{filled-printable}
use Rattle.reason_model.proofs.Sorts.{form, all_apart, apart-before, gaps-end, places_fit, places-fit, place-once, place-agrees, phrase-prints}

-- ---- number and place can be had again

module _ (p : ℕ) (h : p < 2 ^ 32) (s : Sort) (vs : List ℕ) (e : sound (form s) ≡ true) where
  -- sorts that are apart from a phrase read nothing from it; its own sort does
  read-among : (before after : List Sort) → all_apart before (form s) ≡ true
      → read_from (before ++ s ∷ after) (filled p (form s) vs) ≡ reason_at s.number (placed (place_said s.place) p (form s))
  unfolding all_apart read_from read_as
  read-among [] after a = rw (filled-matched p h (form s) vs (place_said s.place) e)
  read-among (b ∷ bs) after a =
      let g = (and-eq-true_iff (apart (form b) (form s)) (all_apart bs (form s))).0 a in
      rw (apart-matched p h (form b) (form s) vs (place_said b.place) g.0 e) (read-among bs after g.1)

split-row : (k : ℕ) → k < length table → table ≡ take k table ++ sort_at k ∷ drop (suc k) table
unfolding sort_at
split-row k i = split_at table k (sort 0 (Always 0) "") i

pub read_back : ReadBack
unfolding read_reason reason phrase_at number_of place_of
read_back r h =
    let k : ℕ = (facts_of r).sort in
    let i : k < length table = sort-inside r in
    let vs : List ℕ = (facts_of r).first ∷ (facts_of r).second ∷ [] in
    let split : table ≡ take k table ++ sort_at k ∷ drop (suc k) table = split-row k i in
    ap (λ (l : List Sort). read_from l (filled (facts_of r).place (form (sort_at k)) vs)) split
    ∙ read-among (facts_of r).place h (sort_at k) vs (gaps-end k i) (take k table) (drop (suc k) table) (apart-before k i)
    ∙ ap (reason_at (sort_at k).number) (place_read (sort_at k).place (facts_of r).place (form (sort_at k)) (place-agrees k i) (place-once k i) ∙ place_kept r)

-- ---- nothing else is taken for a reason

-- the first and the second of some values
abbrev first : List ℕ → ℕ
first vs = get_or vs 0 0

abbrev second : List ℕ → ℕ
second vs = get_or (drop 1 vs) 0 0

-- a refusal of each sort, in the table's order, from a place and values
makers : List (ℕ → List ℕ → Refusal)
makers =
    (λ p vs. Names)
    ∷ (λ p vs. Unreadable p)
    ∷ (λ p vs. TextAfter p)
    ∷ (λ p vs. OutOfRange p (first vs))
    ∷ (λ p vs. AtOdds (Orders (first vs) (second vs)))
    ∷ (λ p vs. AtOdds (Routers (first vs) (second vs)))
    ∷ (λ p vs. AtOdds (Sensors (first vs) (second vs)))
    ∷ (λ p vs. AtOdds (SinkDepth (first vs) (second vs)))
    ∷ (λ p vs. AtOdds (SinkBranches (first vs) (second vs)))
    ∷ (λ p vs. AtOdds (FrameLength (first vs) (second vs)))
    ∷ (λ p vs. AtOdds (Unacknowledged (first vs) (second vs)))
    ∷ (λ p vs. Reservations (first vs) (second vs))
    ∷ (λ p vs. Superframes (first vs) (second vs))
    ∷ (λ p vs. SlotsUsed p (slots (first vs)) (slots (second vs)))
    ∷ (λ p vs. LentTooShort)
    ∷ (λ p vs. InputTooLong)
    ∷ (λ p vs. InTree NodeNames)
    ∷ (λ p vs. InTree (NodeLine p))
    ∷ (λ p vs. InTree SinkNode)
    ∷ (λ p vs. InTree (RouterReservations p (first vs)))
    ∷ (λ p vs. InTree (RouterSlots p (slots (first vs)) (slots (second vs))))
    ∷ []

-- line, number and place
record Told : Type 0 where
  line : List ℕ
  number : ℕ
  place : ℕ

-- of the refusal that is made, and as its row has them
abbrev made_by : ℕ → List ℕ → (ℕ → List ℕ → Refusal) → Told
made_by p vs make = record { line = reason (make p vs); number = number_of (make p vs); place = place_of (make p vs) }

abbrev as_row : ℕ → List ℕ → Sort → Told
as_row p vs s = record { line = filled (place_for s.place p) (form s) vs; number = s.number; place = place_for s.place p }

abbrev Makes : List (ℕ → List ℕ → Refusal) → List Sort → Type 0
Makes ms ss = (p : ℕ) (vs : List ℕ) → map (made_by p vs) ms ≡ map (as_row p vs) ss

all_made : Makes makers table
unfolding ascii table sort_at place_said place_for conflict_facts tree_facts facts_of number_of place_of phrase_at part_of part_text taken filled reason makers
all_made p vs = refl

abbrev said : ℕ → ℕ → Reason
said n p = record { number = n; place = p }

module _ (t : List ℕ) (p : ℕ) where
  only-from : (ms : List (ℕ → List ℕ → Refusal)) (ss : List Sort) → Makes ms ss → every places_fit ss ≡ true → (n : ℕ) → read_from ss t ≡ reason_at n p → ReasonOf t n p
  unfolding read_from read_as every places_fit
  only-from ms [] m f n e = let z : ◌≡◌ {A = ℕ} 0 1 = cc in absurd (omega arith)
  only-from [] (s ∷ ss) m f n e = let z : ◌≡◌ {A = ℕ} 0 (length (map (as_row p []) (s ∷ ss))) = ap length (m p []) in absurd (omega arith)
  only-from (make ∷ ms) (s ∷ ss) m f n e =
      by (matched (form s) (Some (place_said s.place)) t) refl e (only-from ms ss (λ q vs. ap (drop 1) (m q vs)) fit.1 n)
    where
      fit : (places_fit s ≡ true) × (every places_fit ss ≡ true)
      fit = (and-eq-true_iff (places_fit s) (every places_fit ss)).0 f

      places : (once (form s) ≡ true) × (agrees s.place (form s) ≡ true)
      places = (and-eq-true_iff (once (form s)) (agrees s.place (form s))).0 fit.0

      made : matched (form s) (Some (place_said s.place)) t ≡ Some p → ReasonOf t s.number p
      made z =
          let i = matched-fills (form s) (place_said s.place) p t places.0 z in
          let kept : place_for s.place p ≡ p = sym (place_read s.place p (form s) places.1 places.0) ∙ i.stays in
          let row : made_by p i.values make ≡ as_row p i.values s = ap (λ (l : List Told). get_or l 0 (as_row p i.values s)) (m p i.values) in
          record {
            refusal = make p i.values;
            its_line = ap (λ (x : Told). x.line) row ∙ ap (λ (q : ℕ). filled q (form s) i.values) kept ∙ i.fills;
            its_number = ap (λ (x : Told). x.number) row;
            its_place = ap (λ (x : Told). x.place) row ∙ kept;
          }

      by : (x : Option ℕ) → matched (form s) (Some (place_said s.place)) t ≡ x → read_as s x (read_from ss t) ≡ reason_at n p
          → (read_from ss t ≡ reason_at n p → ReasonOf t n p) → ReasonOf t n p
      by (Some q) z e g =
          let both : said s.number q ≡ said n p = cc in
          let a : s.number ≡ n = ap (λ (r : Reason). r.number) both in
          let b : q ≡ p = ap (λ (r : Reason). r.place) both in
          rw a at (made (z ∙ ap Some b))
      by None z e g = g e

pub only-reasons : OnlyReasons
unfolding read_reason
only-reasons line number place e = only-from line place makers table all_made places-fit number e

-- ---- every byte can be printed

pub printable-reasons : PrintableReasons
unfolding reason phrase_at
printable-reasons r = filled-printable (place_of r) (form (sort_at (facts_of r).sort)) ((facts_of r).first ∷ (facts_of r).second ∷ []) (phrase-prints (facts_of r).sort (sort-inside r))
