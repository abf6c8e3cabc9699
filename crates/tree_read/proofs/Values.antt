-- The values of a node's line, one after another. Assumes nothing.
use mathlib.Core.Path.{◌≡◌, refl, sym, ap, subst, ◌∙◌}
use mathlib.Core.Bool.{Bool, true, false, cond, ◌&&◌}
use mathlib.Core.List.{List, [], ◌∷◌, ◌++◌, map}
use Prim.Native.Nat.{ℕ, zero, suc}
use lib.Dec.{eqb}
use denote.Param.Members.{Mut}
use denote.Ref.{Bor}
use Rattle.std.specs.Prelude.{Option, Some, None}
use Rattle.std.specs.Fn.{Called, CalledAt}
use Rattle.std.specs.Iterator.{AlwaysYields}
use Rattle.std.specs.Iterator.Adapters.{map_source, map_callee}
use Rattle.std.specs.Slice.Iter.{split_rest, split_done, split_callee, split_steps}
use Rattle.std.specs.List.{slice_split, onto_first}
use Rattle.std.proofs.lemmas.Iterator.{maps, YieldsList-from_map}
use Rattle.std.proofs.lemmas.Iterator.Splits.{YieldsList-from_slice_split}
use Rattle.decimal_model.specs.Number.{readable, spelled, number_in}
use Rattle.lines.specs.Text.{before, pieces, fields}
use Rattle.tree_read_model.specs.declared.Entry.{Entry}
use Rattle.tree_read_model.specs.Entries.{entry_of, entry_in}

-- the values of a line are the parts that `split` gives
part-before : (x : Bool) (b : ℕ) (ps : List (List ℕ)) → cond x ([] ∷ ps) (onto_first b ps) ≡ before x b ps
unfolding before
part-before true b ps = refl
part-before false b [] = refl
part-before false b (p ∷ ps) = refl

fields-split : (line : List ℕ) → slice_split (λ b. eqb b 32) line ≡ fields line
unfolding fields pieces
fields-split [] = refl
fields-split (b ∷ bs) = rw (fields-split bs) (part-before (eqb b 32) b (fields bs))

-- four values make a node
abbrev pub finish : List ℕ → Option Entry
finish (n ∷ p ∷ b ∷ r ∷ []) = Some (record { node = n; parent = p; burst = b; rate = r })
finish _ = None

-- m values are wanted, behind those that were read
abbrev pub wanted : ℕ → List ℕ → List (Option ℕ) → Option Entry
wanted zero ns [] = finish ns
wanted zero ns (v ∷ vs) = None
wanted (suc m) ns [] = None
wanted (suc m) ns (None ∷ vs) = None
wanted (suc m) ns (Some n ∷ vs) = wanted m (ns ++ n ∷ []) vs

-- the next one
wanted-next : (m : ℕ) (ns f : List ℕ) (vs : List (Option ℕ)) → wanted (suc m) ns (number_in f ∷ vs) ≡ cond (readable f) (wanted m (ns ++ spelled f ∷ []) vs) None
unfolding number_in
wanted-next m ns f vs = by (readable f)
  where
    by : (x : Bool) → wanted (suc m) ns (cond x (Some (spelled f)) None ∷ vs) ≡ cond x (wanted m (ns ++ spelled f ∷ []) vs) None
    by true = refl
    by false = refl

same-either : (x : Bool) (e : Option Entry) → cond x e e ≡ e
same-either true e = refl
same-either false e = refl

all-four : (x y z w : Bool) (e n : Option Entry) → cond x (cond y (cond z (cond w e n) n) n) n ≡ cond (x && y && z && w) e n
all-four true true true w e n = refl
all-four true true false w e n = refl
all-four true false z w e n = refl
all-four false y z w e n = refl

-- four of a line
wanted-four : (fs : List (List ℕ)) → wanted 4 [] (map number_in fs) ≡ entry_of fs
unfolding entry_of
wanted-four [] = refl
wanted-four (n ∷ []) = rw (wanted-next 3) (simp same-either)
wanted-four (n ∷ p ∷ []) = rw (wanted-next 3, wanted-next 2) (simp same-either)
wanted-four (n ∷ p ∷ b ∷ []) = rw (wanted-next 3, wanted-next 2, wanted-next 1) (simp same-either)
wanted-four (n ∷ p ∷ b ∷ r ∷ []) = rw (wanted-next 3, wanted-next 2, wanted-next 1, wanted-next 0) (all-four (readable n) (readable p) (readable b) (readable r) _ None)
wanted-four (n ∷ p ∷ b ∷ r ∷ x ∷ xs) = rw (wanted-next 3, wanted-next 2, wanted-next 1, wanted-next 0) (simp same-either)

module _ {S : Type 0} (steps : S → Option (Option ℕ) → S → Type 0) (line : List ℕ) where
  -- m values are wanted of what an iterator has left of a line, behind those that were read
  pub record Left (m : ℕ) (ns : List ℕ) (s : S) : Type 0 where
    pub values : List (Option ℕ)
    pub yields : AlwaysYields steps (λ v. v) s values
    pub entry : wanted m ns values ≡ entry_in line

  -- what an iterator gives is the first of the values that it has left
  gave : (vs : List (Option ℕ)) {s t : S} {v u : Option ℕ} → AlwaysYields steps (λ w. w) s vs → steps s (Some v) t → v ≡ u
      → (ws : List (Option ℕ)) × (vs ≡ u ∷ ws) × AlwaysYields steps (λ w. w) t ws
  gave [] {t = t} {v = v} y k e = absurd (y v t k)
  gave (w ∷ ws) {t = t} {v = v} y k e = (ws, ap (λ x. x ∷ ws) (sym (y.1 v t k).0 ∙ e), (y.1 v t k).1)

  gave-none : (vs : List (Option ℕ)) {s t : S} → AlwaysYields steps (λ v. v) s vs → steps s None t → vs ≡ []
  gave-none [] y k = refl
  gave-none (w ∷ ws) {t = t} y k = absurd (y.0 t k)

  module _ {m : ℕ} {ns : List ℕ} {s : S} (t : S) (l : Left (suc m) ns s) where
    -- the line has ended
    pub missing : steps s None t → None ≡ entry_in line
    missing k = rw (gave-none l.values l.yields k) at l.entry

    -- the next value cannot be read
    pub unreadable : {v : Option ℕ} → steps s (Some v) t → v ≡ None → None ≡ entry_in line
    unreadable k e = rw (gave l.values l.yields k e).1 at l.entry

    -- the next value is read
    pub read : {v : Option ℕ} {n : ℕ} → steps s (Some v) t → v ≡ Some n → Left m (ns ++ n ∷ []) t
    read k e = let g = gave l.values l.yields k e in record { values = g.0; yields = g.2; entry = rw g.1 at l.entry }

  module _ {ns : List ℕ} {s : S} (t : S) (l : Left 0 ns s) where
    -- a value follows the last one
    pub behind : {v : Option ℕ} → steps s (Some v) t → None ≡ entry_in line
    behind k = rw (gave l.values l.yields k refl).1 at l.entry

    -- the line ends with its last value
    pub whole : steps s None t → finish ns ≡ entry_in line
    whole k = rw (gave-none l.values l.yields k) at l.entry

-- at its beginning
pub left_all : {F G : Type 0} (g : Mut F (Bor ℕ × Unit {0}) Bool) (h : Mut G (Bor (List ℕ) × Unit {0}) (Option ℕ)) (line : List ℕ) {s : _} {z : _} {f : F} {e : G}
    → map_source s ≡ z → map_callee s ≡ e → split_rest z ≡ line → split_done z ≡ false → split_callee z ≡ f
    → ((x : ℕ) (b : Bool) (q : F) → CalledAt g f x b q → (q ≡ f) × (b ≡ eqb x 32))
    → ((x : Bor (List ℕ)) (r : Option ℕ) (q : G) → Called h e (x, tt) r q → (q ≡ e) × (r ≡ number_in x.now))
    → Left (maps (split_steps g) h) line 4 [] s
unfolding entry_in
left_all g h line {s} source reader rest done cut cuts reads = record {
  values = map number_in (fields line);
  yields =
      subst (λ fs. AlwaysYields (maps (split_steps g) h) (λ v. v) s (map number_in fs)) (fields-split line)
      (YieldsList-from_map h number_in (YieldsList-from_slice_split g (λ b. eqb b 32) line (ap split_rest source ∙ rest) (ap split_done source ∙ done) (ap split_callee source ∙ cut) cuts) reader reads).runs;
  entry = wanted-four (fields line);
}
