-- A row of twelve values and the same row with LOSS 0 have the same answer. Assumes nothing.
use Rattle.std.specs.Prelude.{Ok, Err}
use mathlib.Core.Path.{◌≡◌, refl, ap, sym, ◌∙◌, subst}
use mathlib.Core.Bool.{not, cond}
use mathlib.Core.List.{List, [], ◌∷◌, ◌++◌, map, map-append, append-nil}
use Prim.Native.Nat.{ℕ, suc, ◌≤◌}
use native.Mathlib.Omega.{arith}
use native.Mathlib.Decide.{dec_le}
use lib.ListN.{length, get_or, length-append, length-map, get_or-append, get_or-eq_default}
use lib.Seq.{get_or_at}
use Rattle.decimal_model.specs.Ascii.{ascii}
use Rattle.decimal_model.specs.Number.{digits, zero_led, shaped, readable, spelled, spelled_after}
use Rattle.lines.specs.Text.{same, fields, joined}
use Rattle.lines.specs.Laws.{lacks}
use Rattle.lines.proofs.Parting.{one-value-more}
use Rattle.refusals.specs.declared.Refusal.{Refusal}
use Rattle.refusals.specs.declared.Refusal.TheVariants.{Unreadable}
use Rattle.refusals.specs.Conditions.{Condition, first_broken}
use Rattle.refusals.proofs.Answering.{first-append}
use Rattle.settings_model.specs.declared.Settings.{Settings}
use Rattle.settings_model.specs.Columns.{Column, twelve, every_column}
use Rattle.row_read_model.specs.declared.Heading.TheVariants.{Twelve, Thirteen}
use Rattle.row_read_model.specs.Names.{name_line, heading_of, is_other, columns_under}
use Rattle.row_read_model.specs.Rows.{headed, columns_read, values_in, settings_of, conditions, row_under}
use Rattle.row_read_model.specs.Laws.{with_zero, SameWithoutLoss}
use Rattle.row_read_model.proofs.Taking.{same-settings}

-- 0 as it is written
abbrev naught : List ℕ
naught = 48 ∷ []

-- one value more
fields-with-zero : (row : List ℕ) → fields (with_zero row) ≡ fields row ++ naught ∷ []
unfolding with_zero ascii lacks
fields-with-zero row = one-value-more row naught refl

-- its column's condition is not broken
written-more : {A : Type 0} (f : Refusal → A) (a : A) (k : ℕ) (cs : List Column) (c : Column) (fs : List (List ℕ)) → length fs ≡ length cs
    → first_broken f a (columns_read k (cs ++ c ∷ []) (fs ++ naught ∷ [])) ≡ first_broken f a (columns_read k cs fs)
unfolding columns_read first_broken readable digits zero_led shaped
written-more f a k [] c [] e = refl
written-more f a k [] c (g ∷ gs) e = absurd (omega (arith, e))
written-more f a k (d ∷ ds) c [] e = absurd (omega (arith, e))
written-more f a k (d ∷ ds) c (g ∷ gs) e = ap (cond (not (readable g)) (f (Unreadable k))) (written-more f a (suc k) ds c gs (omega (arith, e)))

-- so number 2 of both rows comes to the same, whatever conditions follow
pub written-without-loss : {A : Type 0} (f : Refusal → A) (a : A) (row : List ℕ) (ys : List (Condition Refusal)) → length (fields row) ≡ 12
    → first_broken f a (columns_read 1 every_column (fields (with_zero row)) ++ ys) ≡ first_broken f a (columns_read 1 twelve (fields row) ++ ys)
unfolding every_column twelve
written-without-loss f a row ys e =
    first-append f a (columns_read 1 every_column (fields (with_zero row))) ys
    ∙ ap (λ (fs : List (List ℕ)). first_broken f (first_broken f a ys) (columns_read 1 every_column fs)) (fields-with-zero row)
    ∙ written-more f (first_broken f a ys) 1 twelve _ (fields row) e
    ∙ sym (first-append f a (columns_read 1 twelve (fields row)) ys)

-- and their settings are the same
values-with-zero : (row : List ℕ) → values_in (with_zero row) ≡ values_in row ++ 0 ∷ []
unfolding values_in spelled_after
values-with-zero row = ap (map spelled) (fields-with-zero row) ∙ map-append spelled (fields row) (naught ∷ [])

pub settings-without-loss : (row : List ℕ) → length (fields row) ≡ 12 → settings_of (values_in (with_zero row)) ≡ settings_of (values_in row)
unfolding values_in
settings-without-loss row e = same-settings (values_in (with_zero row)) (values_in row) (λ i. ap (λ (vs : List ℕ). get_or vs i 0) (values-with-zero row) ∙ by i (dec_le (suc i) 12))
  where
    few : length (values_in row) ≡ 12
    few = length-map (fields row) spelled ∙ e

    behind : (i : ℕ) → 12 ≤ i → Dec (i ≤ 12) → get_or (values_in row ++ 0 ∷ []) i 0 ≡ 0
    behind i h (yes l) = let z : length (values_in row) ≡ i = omega (arith, few) in get_or_at (values_in row) 0 [] 0 i z
    behind i h (no f) =
        let long : length (values_in row ++ 0 ∷ []) ≤ i = omega (arith, length-append (values_in row) (0 ∷ []), few) in
        get_or-eq_default (values_in row ++ 0 ∷ []) 0 long

    by : (i : ℕ) → Dec (suc i ≤ 12) → get_or (values_in row ++ 0 ∷ []) i 0 ≡ get_or (values_in row) i 0
    by i (yes l) = get_or-append (values_in row) (0 ∷ []) 0 i (omega (arith, few))
    by i (no f) =
        let long : length (values_in row) ≤ i = omega (arith, few) in
        behind i (omega arith) (dec_le i 12) ∙ sym (get_or-eq_default (values_in row) 0 long)

-- each line of names is the one that it is
pub names-of-twelve : heading_of (name_line twelve) ≡ Twelve
unfolding heading_of name_line joined twelve every_column ascii same
names-of-twelve = refl

pub names-of-thirteen : heading_of (name_line every_column) ≡ Thirteen
unfolding heading_of name_line joined twelve every_column ascii same
names-of-thirteen = refl

pub same-without-loss : SameWithoutLoss
unfolding row_under conditions headed is_other columns_under first_broken
same-without-loss row e =
    subst
    (λ (s : Settings). first_broken Err (Ok s) (conditions Thirteen (with_zero row)) ≡ row_under Twelve row)
    (sym (settings-without-loss row e))
    (rw (append-nil (columns_read 1 every_column (fields (with_zero row))), append-nil (columns_read 1 twelve (fields row))) at
    (written-without-loss Err (Ok (settings_of (values_in row))) row [] e))
