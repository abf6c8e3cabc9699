-- What `split` at each space has left of a row, value by value. Assumes nothing.
use mathlib.Core.Path.{◌≡◌, refl, ap, subst, ◌∙◌}
use mathlib.Core.Bool.{Bool, true, false, cond}
use mathlib.Core.List.{List, [], ◌∷◌, ◌++◌, tail}
use Prim.Native.Nat.{ℕ, ◌<◌}
use native.Mathlib.Omega.{arith}
use lib.Dec.{eqb}
use lib.ListN.{length, get_or}
use denote.Param.Members.{Mut}
use denote.Ref.{Bor}
use Rattle.std.specs.Prelude.{Option, Some, None, Ok, Err, MatchOption}
use Rattle.std.specs.Option.{ok_or, is_some}
use Rattle.std.specs.declared.slice.Split.{Split}
use Rattle.std.specs.Bool.{MatchBool}
use Rattle.std.specs.Fn.{CalledAt, ComputesKey}
use Rattle.std.specs.List.{All, slice_split, onto_first, IsFirstMatchOrLen}
use Rattle.std.specs.Slice.Iter.{split_rest, split_done, split_callee, split_steps}
use Rattle.std.proofs.lemmas.Fn.{always_returns_same}
use Rattle.std.proofs.lemmas.Grind.{common_steps}
use Rattle.std.proofs.lemmas.List.Splits.{slice_split_none, slice_split_at}
use Rattle.decimal_model.specs.Number.{number_in}
use Rattle.lines.specs.Text.{before, pieces, fields}
use Rattle.row_read_model.proofs.Taking.{next_number}

-- the parts that `split` gives are a row's values
part-before : (x : Bool) (b : ℕ) (ps : List (List ℕ)) → cond x ([] ∷ ps) (onto_first b ps) ≡ before x b ps
unfolding before
part-before true b ps = refl
part-before false b [] = refl
part-before false b (p ∷ ps) = refl

fields-split : (row : List ℕ) → slice_split (λ b. eqb b 32) row ≡ fields row
unfolding fields pieces
fields-split [] = refl
fields-split (b ∷ bs) = rw (fields-split bs) (part-before (eqb b 32) b (fields bs))

-- the values that are left
abbrev pub values_left : {F : Type 0} → Split ℕ F → List (List ℕ)
values_left s = cond (split_done s) [] (fields (split_rest s))

pub all_left : {F : Type 0} (s : Split ℕ F) (row : List ℕ) → split_rest s ≡ row → split_done s ≡ false → values_left s ≡ fields row
all_left s row e d = rw (d, e)

-- the part in front of the rest
first-part : (p : ℕ → Bool) (xs x rest : List ℕ) (done : Bool) → MatchBool done (xs ≡ x) ((y : ℕ) × (xs ≡ x ++ (y ∷ rest))) → IsFirstMatchOrLen p xs (length x)
    → slice_split p xs ≡ x ∷ cond done [] (slice_split p rest)
first-part p xs x rest true e h = ap (slice_split p) e ∙ slice_split_none p x (λ k d l. subst (λ (ys : List ℕ). p (get_or ys k d) ≡ false) e (h.0 k d (omega arith) l))
first-part p xs x rest false e h =
    let front : All (λ z. p z ≡ false) x = λ k d l. let a = h.0 k d (omega arith) l in let b = e.1 in grind (arith, common_steps) in
    let hit : p e.0 ≡ true = let b = e.1 in let a = h.1 (grind (arith, common_steps)) e.0 in grind (arith, common_steps) in
    ap (slice_split p) e.1 ∙ slice_split_at p x e.0 rest front hit

module _ {F : Type 0} (g : Mut F (Bor ℕ × Unit {0}) Bool) (s t : Split ℕ F) where
  -- there is none
  none-left : split_steps g s None t → values_left s ≡ []
  none-left k = rw k.0

  pub no-more : (o : Option (Bor (List ℕ))) → split_steps g s o t → is_some o ≡ false → values_left s ≡ []
  no-more None k e = none-left k
  no-more (Some x) k e = cc

  module _ (cuts : (x : ℕ) (b : Bool) (q : F) → CalledAt g (split_callee s) x b q → (q ≡ split_callee s) × (b ≡ eqb x 32)) where
    -- there is one
    some-left : (x : Bor (List ℕ)) → split_steps g s (Some x) t → values_left s ≡ x.now ∷ values_left t
    some-left x k =
        let key : ComputesKey g (λ b. eqb b 32) (split_callee s) =
        always_returns_same g (λ a r. r ≡ eqb a.0.now 32) (split_callee s) (λ a r q c. let m = cuts a.0.now r q (record { shown = a.0; shows = refl; called = c }) in (m.1, m.0)) in
        let f = first-part (λ b. eqb b 32) (split_rest s) x.now (split_rest t) (split_done t) k.1 (k.2 (λ b. eqb b 32) key).1 in
        let f' = rw (fields-split (split_rest s), fields-split (split_rest t)) at f in
        rw k.0 f'

    pub some-more : (o : Option (Bor (List ℕ))) → split_steps g s o t → is_some o ≡ true → 0 < length (values_left s)
    some-more None k e = cc
    some-more (Some x) k e = rw (some-left x k) (omega arith)

    -- the number of the next one, if there is one and it can be read
    pub number-next : (o : Option (Bor (List ℕ))) (n : Option ℕ) → split_steps g s o t → MatchOption o (n ≡ None) (λ x. n ≡ number_in x.now) → n ≡ next_number (values_left s)
    number-next None n k m = rw (none-left k) m
    number-next (Some x) n k m = rw (some-left x k) m

    -- where it can, the others are left
    pub others-left : (o : Option (Bor (List ℕ))) (n : Option ℕ) (v : ℕ) → split_steps g s o t → MatchOption o (n ≡ None) (λ x. n ≡ number_in x.now) → n ≡ Some v
        → values_left t ≡ tail (values_left s)
    others-left None n v k m e = let m' : n ≡ None = m in cc
    others-left (Some x) n v k m e = rw (some-left x k) refl

-- a value that is asked for, or else an error
pub or-error : {A E : Type 0} (o : Option A) (e x : E) → Err x ≡ ok_or o e → (o ≡ None) × (x ≡ e)
or-error None e x q = (refl, cc)
or-error (Some a) e x q = cc

pub or-value : {A E : Type 0} (o : Option A) (e : E) (a : A) → Ok a ≡ ok_or o e → o ≡ Some a
or-value None e a q = cc
or-value (Some b) e a q = cc
