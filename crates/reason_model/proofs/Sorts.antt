-- The rows of the table, one by one: their phrases are apart, and what is computed of each. Assumes nothing.
use Rattle.std.specs.Prelude.{Some, None}
use mathlib.Core.Path.{◌≡◌, refl}
use mathlib.Core.Bool.{Bool, true, ◌&&◌, and-eq-true_iff}
use mathlib.Core.List.{List, [], ◌∷◌, map}
use Prim.Native.Nat.{ℕ, suc, ◌+◌, ◌≤◌, ◌<◌}
use native.Mathlib.Numerals.{add-one}
use lib.Dec.{leb}
use lib.ListN.{length, take, drop, drop_of_length-le}
use lib.Seq.{drop-cons}
use borrow.Author.Tests.{leb-true}
use Rattle.decimal_model.specs.Ascii.{ascii}
use Rattle.refusals.specs.Table.{Always, Sort, sort, table, sort_at, place_said}
use Rattle.refusals.specs.declared.Refusal.{Refusal}
use Rattle.refusals.specs.Refusals.{facts_of}
use Rattle.refusals.proofs.Sorts.{sort-inside, every, every-at}
use Rattle.reason_model.specs.Reasons.{phrase_at, Part, part_of}
use Rattle.reason_model.specs.Reading.{word_byte, matched, read_as, read_from, reason_at}
use Rattle.reason_model.specs.Inner.{most}
use Rattle.reason_model.proofs.ColumnNames.{all_below, each_below}
use Rattle.reason_model.proofs.Printing.{prints}
use Rattle.reason_model.proofs.Gaps.{ends_gap, ended, sound}
use Rattle.reason_model.proofs.PhrasesApart.{code, is_byte, apart}
use Rattle.reason_model.proofs.PhraseFilled.{is_mark, unmarked, once, agrees}

-- the parts of a sort's phrase
abbrev pub form : Sort → List Part
form s = map part_of (ascii s.phrase)

-- none of these sorts' phrases can be mistaken for a phrase
unfoldable pub all_apart : List Sort → List Part → Bool
all_apart [] xs = true
all_apart (s ∷ ss) xs = apart (form s) xs && all_apart ss xs

-- the sorts before one are apart from it
pub apart-before : (k : ℕ) → k < length table → all_apart (take k table) (form (sort_at k)) ≡ true
unfolding all_below ascii table sort_at part_of code is_byte apart all_apart
apart-before k h = each_below (λ j. all_apart (take j table) (form (sort_at j))) (length table) refl k h

-- ---- what is computed of each row

-- the place stands in its phrase at most once, and exactly where each refusal has its own
unfoldable pub places_fit : Sort → Bool
places_fit s = once (form s) && agrees s.place (form s)

pub places-fit : every places_fit table ≡ true
unfolding ascii table part_of is_mark unmarked once agrees every places_fit
places-fit = refl

module _ (k : ℕ) (h : k < length table) where
  -- the gaps of its phrase end
  pub gaps-end : sound (form (sort_at k)) ≡ true
  unfolding ascii table sort_at part_of word_byte ends_gap ended sound every
  gaps-end = every-at (λ s. sound (form s)) table k (sort 0 (Always 0) "") refl h

  fits : (once (form (sort_at k)) ≡ true) × (agrees (sort_at k).place (form (sort_at k)) ≡ true)
  unfolding sort_at places_fit
  fits = (and-eq-true_iff (once (form (sort_at k))) (agrees (sort_at k).place (form (sort_at k)))).0 (every-at places_fit table k (sort 0 (Always 0) "") places-fit h)

  pub place-once : once (form (sort_at k)) ≡ true
  place-once = fits.0

  pub place-agrees : agrees (sort_at k).place (form (sort_at k)) ≡ true
  place-agrees = fits.1

  -- every byte of it can be printed
  pub phrase-prints : prints (form (sort_at k)) ≡ true
  unfolding ascii table sort_at part_of prints every
  phrase-prints = every-at (λ s. prints (form s)) table k (sort 0 (Always 0) "") refl h

  -- no line of it has more than 160
  line-short : most (form (sort_at k)) ≤ 160
  unfolding ascii table sort_at part_of most every
  line-short = leb-true (most (form (sort_at k))) 160 (every-at (λ s. leb (most (form s)) 160) table k (sort 0 (Always 0) "") refl h)

-- and so no line of a refusal
pub line_bound : (r : Refusal) → most (map part_of (phrase_at (facts_of r).sort)) ≤ 160
unfolding phrase_at
line_bound r = line-short (facts_of r).sort (sort-inside r)

-- ---- the sorts one by one, as code tries them

module _ (line : List ℕ) (k : ℕ) (h : k < length table) where
  sort-next : drop k table ≡ sort_at k ∷ drop (suc k) table
  unfolding sort_at
  sort-next = drop-cons table k (sort 0 (Always 0) "") h

  -- the line is of this sort, or of one behind it
  pub sort-found : (p : ℕ) → matched (map part_of (phrase_at k)) (Some (place_said (sort_at k).place)) line ≡ Some p
      → read_from (drop k table) line ≡ reason_at (sort_at k).number p
  unfolding read_from read_as phrase_at
  sort-found p e = rw (sort-next, e)

  pub sort-later : matched (map part_of (phrase_at k)) (Some (place_said (sort_at k).place)) line ≡ None
      → read_from (drop k table) line ≡ read_from (drop (k + 1) table) line
  unfolding read_from read_as phrase_at
  sort-later e = rw (sort-next, e, add-one)

-- none is left
pub sort-none : (line : List ℕ) (k : ℕ) → length table ≤ k → read_from (drop k table) line ≡ None
unfolding read_from
sort-none line k h = rw (drop_of_length-le table h)
