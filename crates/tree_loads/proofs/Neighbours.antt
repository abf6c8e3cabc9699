-- A node's neighbours along the child lists: the walk equals the gathering over all nodes. Assumes nothing.
use mathlib.Core.Path.{◌≡◌, refl, ◌∙◌}
use mathlib.Core.Logic.{inl, ⊎_elim}
use mathlib.Core.Bool.{Bool, true, false, ◌||◌}
use mathlib.Core.List.{List}
use Prim.Native.Nat.{ℕ, zero, suc, ◌+◌, ◌-◌, ◌≤◌, ◌<◌}
use native.Mathlib.Numerals.{add-one}
use native.Mathlib.Decide.{ℕ_discrete, dec_le}
use native.Mathlib.Omega.{arith}
use lib.Dec.{eqb}
use lib.ListN.{length, get_or}
use borrow.Author.Tests.{eq-eqb, ne_eqb}
use Rattle.links.specs.declared.Load.{Load}
use Rattle.links.specs.declared.Timing.{Timing}
use Rattle.tree_model.specs.Tree.{Tree, tree_of, other_neighbour, Rooted, Facing}
use Rattle.tree_model.specs.Loads.{sensed, output_of}
use Rattle.links.specs.Link.{plus}
use Rattle.tree_model.proofs.Steps as steps
use Rattle.tree_plan_model.specs.Inner.{shape, Noted}
use Rattle.tree_loads.proofs.Turns.{so_far, none_yet, more, same}
use Rattle.tree_loads.proofs.Notes.{NotedTo, noted-none, noted_more, noted-same}
use Rattle.tree_plan_model.specs.Children.{Least, Beside, Nearest}

-- ---- the nearest neighbour

module _ (ps : List ℕ) (p : Rooted (shape ps)) (v : ℕ) (one : 1 ≤ v) (h : v < length ps) where
  own : get_or ps v 0 < v
  own = p.smaller v one (omega arith)

  higher : (u : ℕ) → 1 ≤ u → u < length ps → get_or ps u 0 ≡ v → v < u
  higher u a b e = omega (arith, p.smaller u a (omega arith), e)

  -- behind the parent: the first child
  pub children-next : (k c : ℕ) → k ≤ v → (1 ≤ k → Beside ps v k) → (k ≡ 0 → get_or ps v 0 ≡ 0) → Least ps v 0 c → Nearest ps v k c
  children-next k c l b z m =
      record {
        behind = λ x. omega (arith, higher c x (m.known x) (m.child x));
        known = m.known;
        beside = λ x. inl (m.child x);
        some = λ u a q s. m.some u (omega arith) q (side u a s);
        least = λ u a q s. m.least u (omega arith) q (side u a s);
      }
    where
      not-parent : (u : ℕ) → k < u → get_or ps v 0 ≡ u → (d : Dec (k ≡ 0)) → ⊥
      not-parent u a e (yes d) = omega (arith, z d)
      not-parent u a e (no d) = ⊎_elim (λ x. omega (arith, higher k (omega arith) (omega arith) x)) (λ x. omega (arith, x)) (b (omega arith))

      side : (u : ℕ) → k < u → Beside ps v u → get_or ps u 0 ≡ v
      side u a s = ⊎_elim (λ x. x) (λ x. absurd (not-parent u a x (ℕ_discrete k 0))) s

-- ---- what lies between a neighbour and the next feeds nothing

-- up to just before w; to the end where w is 0
abbrev pub before : ℕ → ℕ → ℕ
before n zero = n
before n (suc c) = c

module _ (ps bs rs : List ℕ) (v from : ℕ) where
  abbrev T : Tree
  T = tree_of ps bs rs

  between : (k c : ℕ) → Nearest ps v k c → (u : ℕ) → k < u → u ≤ before T.nodes c → u < length ps → other_neighbour T v from u ≡ false
  between k c m u a l q = by (other_neighbour T v from u) refl
    where
      no_such : Beside ps v u → (c : ℕ) → 1 ≤ c → c ≤ u → u ≤ before T.nodes c → ⊥
      no_such s zero x y z = omega arith
      no_such s (suc c) x y z = omega arith

      by : (b : Bool) → other_neighbour T v from u ≡ b → b ≡ false
      by true e = let s = (steps.next T v from u e).side in absurd (no_such s c (m.some u a q s) (m.least u a q s) l)
      by false e = refl

  -- a neighbour other than the one at `from` feeds, that one does not
  pub feeding : (w : ℕ) → Beside ps v w → (w ≡ from → ⊥) → other_neighbour T v from w ≡ true
  feeding w s n = rw (ne_eqb w from n) (⊎_elim (λ x. rw (eq-eqb (get_or ps w 0) v x)) (λ x. or-true x) s)
    where
      or-true : get_or ps v 0 ≡ w → (eqb (get_or ps w 0) v || eqb (get_or ps v 0) w) ≡ true
      or-true x = rw (eq-eqb (get_or ps v 0) w x) (right (eqb (get_or ps w 0) v))
        where
          right : (b : Bool) → (b || true) ≡ true
          right true = refl
          right false = refl

  pub not-feeding : (w : ℕ) → w ≡ from → other_neighbour T v from w ≡ false
  not-feeding w e = rw (eq-eqb w from e)

-- the sum and the notes after the neighbours up to w
pub record Upto (a : Timing) (t : Tree) (v from : ℕ) (ns : List ℕ) (total : Load) (ns' : List ℕ) (w : ℕ) : Type 0 where
  pub sum : total ≡ so_far a t v from w
  pub noted : NotedTo a t v from ns w ns'

-- what is left of the nodes
abbrev pub left : ℕ → ℕ → ℕ
left n zero = 0
left n (suc c) = n - c

module _ (ps : List ℕ) (v k c : ℕ) (m : Nearest ps v k c) where
  pub nearest-known : 1 ≤ length ps → c < length ps
  nearest-known some = by (dec_le 1 c)
    where
      by : Dec (1 ≤ c) → c < length ps
      by (yes h) = m.known h
      by (no h) = omega arith

module _ (ps bs rs : List ℕ) (v from : ℕ) (a : Timing) (p : Rooted (tree_of ps bs rs)) (f : Facing (tree_of ps bs rs) v from) (ns : List ℕ) where
  abbrev To : Load → List ℕ → ℕ → Type 0
  To total ns' w = Upto a (tree_of ps bs rs) v from ns total ns' w

  pub upto-none : (total : Load) → total ≡ sensed a (tree_of ps bs rs) v → To total ns 0
  upto-none total e = record { sum = e ∙ none_yet a (tree_of ps bs rs) v from; noted = noted-none a (tree_of ps bs rs) p v from f ns }

  module _ (total : Load) (ns' : List ℕ) where
    step : (w : ℕ) → other_neighbour (tree_of ps bs rs) v from (w + 1) ≡ false → To total ns' w → To total ns' (w + 1)
    step w e r = record { sum = same a (tree_of ps bs rs) v from w total r.sum e; noted = noted-same a (tree_of ps bs rs) p v from f ns w ns' e r.noted }

    skip : (d k : ℕ) → ((u : ℕ) → k < u → u ≤ k + d → other_neighbour (tree_of ps bs rs) v from u ≡ false) → To total ns' k → To total ns' (k + d)
    skip zero k nay r = let e : k + 0 ≡ k = omega arith in rw e r
    skip (suc d) k nay r =
        let e : k + suc d ≡ (k + 1) + d = omega arith in
        rw e (skip d (k + 1) (λ u x y. nay u (omega arith) (omega arith)) (step k (nay (k + 1) (omega arith) (omega arith)) r))

    -- from a neighbour to just before the next
    pub to-next : (k c : ℕ) → 1 ≤ length ps → k < length ps → Nearest ps v k c → To total ns' k → To total ns' (before (length ps - 1) c)
    to-next k c some h m r =
        let low : k ≤ before (length ps - 1) c = below c m in
        let e : before (length ps - 1) c ≡ k + (before (length ps - 1) c - k) = omega arith in
        let top : before (length ps - 1) c ≤ length ps - 1 = most c m in
        rw e (skip (before (length ps - 1) c - k) k (λ u x y. between ps bs rs v from k c m u x (omega arith) (omega arith)) r)
      where
        below : (c : ℕ) → Nearest ps v k c → k ≤ before (length ps - 1) c
        below zero m = omega arith
        below (suc c) m = omega (arith, m.behind (omega arith))

        most : (c : ℕ) → Nearest ps v k c → before (length ps - 1) c ≤ length ps - 1
        most zero m = omega arith
        most (suc c) m = omega (arith, m.known (omega arith))

    -- over the neighbour at `from`
    pub not-fed : (u : ℕ) → 1 ≤ u → other_neighbour (tree_of ps bs rs) v from u ≡ false → To total ns' (before (length ps - 1) u) → To total ns' u
    not-fed zero one e r = absurd (omega arith)
    not-fed (suc c) one e r = rw (add-one c) at (step c (rw (add-one c) e) r)

    -- over another neighbour
    pub fed : (u : ℕ) (o : Load) (ns2 : List ℕ) → 1 ≤ u → u ≤ length ps - 1 → other_neighbour (tree_of ps bs rs) v from u ≡ true → To total ns' (before (length ps - 1) u)
        → o ≡ output_of a (tree_of ps bs rs) u v → Noted a (tree_of ps bs rs) u v ns' ns2 → To (plus total o) ns2 u
    fed zero o ns2 one l e r eo n = absurd (omega arith)
    fed (suc c) o ns2 one l e r eo n =
        rw (add-one c) at (on (rw (add-one c) l) (rw (add-one c) e) (rw (add-one c) eo) (rw (add-one c) n))
      where
        on : c + 1 ≤ length ps - 1 → other_neighbour (tree_of ps bs rs) v from (c + 1) ≡ true → o ≡ output_of a (tree_of ps bs rs) (c + 1) v → Noted a (tree_of ps bs rs) (c + 1) v ns' ns2 → To (plus total o) ns2 (c + 1)
        on l e eo n = record { sum = more a (tree_of ps bs rs) v from c total o r.sum e eo; noted = noted_more a (tree_of ps bs rs) p v from f ns c ns' ns2 l e r.noted n }
