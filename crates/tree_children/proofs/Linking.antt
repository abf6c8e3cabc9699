-- The children, one after another, and what a table of kin says. Assumes nothing.
use mathlib.Core.Path.{◌≡◌, refl, sym, ◌∙◌}
use mathlib.Core.Bool.{true, false}
use mathlib.Core.List.{List}
use Prim.Native.Nat.{ℕ, zero, suc, ◌+◌, ◌-◌, ◌≤◌, ◌<◌}
use native.Mathlib.Decide.{ℕ_discrete}
use native.Mathlib.Omega.{arith}
use lib.Dec.{eqb, ltb}
use lib.ListN.{length, get_or, take}
use lib.Seq.{length-take-le, get_or-take, ext_get_or}
use borrow.Author.Tests.{eq-eqb, ne_eqb, lt-ltb, le-ltb}
use Rattle.tree_model.specs.Tree.{some_to, is_router}
use Rattle.tree_model.proofs.Shapes.{some-hit, some-missed, root-is-router, has-children, no-children}
use Rattle.tree_plan_model.specs.Inner.{shape}
use Rattle.tree_plan_model.specs.Children.{first_child, next_sibling, router_in, Least, LinkedFrom, Linked}

-- ---- children, one after another

-- node k's parent, its next sibling and its parent's first child are put, and nothing else
pub record Put (ks ks' : List ℕ) (k p : ℕ) : Type 0 where
  pub parent : get_or ks' k 0 ≡ p
  pub next : next_sibling ks' k ≡ first_child ks p
  pub first : first_child ks' p ≡ k
  pub kept : (i : ℕ) → (i ≡ k → ⊥) → (i ≡ 512 + k → ⊥) → (i ≡ 256 + p → ⊥) → get_or ks' i 0 ≡ get_or ks i 0

-- one more
module _ (ps ks ks' : List ℕ) (k : ℕ) (one : 1 ≤ k) (h : k < length ps) (most : length ps ≤ 256) (few : get_or ps k 0 < 256) (P : Put ks ks' k (get_or ps k 0)) (L : LinkedFrom ps k ks) where
  first-own : Least ps (get_or ps k 0) (k - 1) k
  first-own = record { behind = λ x. omega arith; known = λ x. h; child = λ x. refl; some = λ u a b e. one; least = λ u a b e. omega arith }

  first-other : (v c : ℕ) → (get_or ps k 0 ≡ v → ⊥) → Least ps v k c → Least ps v (k - 1) c
  first-other v c n m =
      record {
        behind = λ x. omega (arith, m.behind x);
        known = m.known;
        child = m.child;
        some = λ u a b e. m.some u (past u a e) b e;
        least = λ u a b e. m.least u (past u a e) b e;
      }
    where
      past : (u : ℕ) → k - 1 < u → get_or ps u 0 ≡ v → k < u
      past u a e = by (ℕ_discrete k u)
        where
          by : Dec (k ≡ u) → k < u
          by (yes q) = absurd (n (rw q e))
          by (no q) = omega arith

  pub link-more : LinkedFrom ps (k - 1) ks'
  link-more =
      record {
        front = P.kept 0 (λ x. absurd (omega arith)) (λ x. absurd (omega arith)) (λ x. absurd (omega arith)) ∙ L.front;
        parents = λ v a b. parents v a b (ℕ_discrete k v);
        first = λ v a. firsts v a (ℕ_discrete (get_or ps k 0) v);
        next = λ w a b. nexts w a b (ℕ_discrete k w);
      }
    where
      parents : (v : ℕ) → k - 1 < v → v < length ps → Dec (k ≡ v) → get_or ks' v 0 ≡ get_or ps v 0
      parents v a b (yes e) = rw (← e) P.parent
      parents v a b (no e) = P.kept v (λ x. e (sym x)) (λ x. absurd (omega arith)) (λ x. absurd (omega arith)) ∙ L.parents v (omega arith) b

      firsts : (v : ℕ) → v < 256 → Dec (get_or ps k 0 ≡ v) → Least ps v (k - 1) (first_child ks' v)
      firsts v a (yes e) = rw (← e) (rw P.first first-own)
      firsts v a (no e) = rw (P.kept (256 + v) (λ x. absurd (omega arith)) (λ x. absurd (omega arith)) (λ x. e (omega arith))) (first-other v (first_child ks v) e (L.first v a))

      nexts : (w : ℕ) → k - 1 < w → w < length ps → Dec (k ≡ w) → Least ps (get_or ps w 0) w (next_sibling ks' w)
      nexts w a b (yes e) = rw (← e) (rw P.next (L.first (get_or ps k 0) few))
      nexts w a b (no e) = rw (P.kept (512 + w) (λ x. absurd (omega arith)) (λ x. e (omega arith)) (λ x. absurd (omega arith))) (L.next w (omega arith) b)

-- ---- routers

module _ (ks : List ℕ) (v : ℕ) where
  root_in : v ≡ 1 → true ≡ router_in ks v
  unfolding router_in
  root_in e = rw (eq-eqb v 1 e)

  child-in : (v ≡ 1 → ⊥) → v < 256 → router_in ks v ≡ ltb 0 (first_child ks v)
  unfolding router_in
  child-in n h = rw (ne_eqb v 1 n, lt-ltb v 256 h)

module _ (ps : List ℕ) (v c : ℕ) (m : Least ps v 0 c) where
  found : 1 ≤ c → some_to (λ w. eqb (get_or ps w 0) v) (length ps - 1) ≡ true
  found h = some-hit (λ w. eqb (get_or ps w 0) v) (length ps - 1) c h (omega (arith, m.known h)) (eq-eqb (get_or ps c 0) v (m.child h))

  missed : c ≡ 0 → (n : ℕ) → n ≤ length ps - 1 → some_to (λ w. eqb (get_or ps w 0) v) n ≡ false
  unfolding some_to
  missed z zero h = refl
  missed z (suc n) h =
      some-missed (λ w. eqb (get_or ps w 0) v) n (missed z n (omega arith)) (ne_eqb (get_or ps (suc n) 0) v (λ e. absurd (omega (arith, m.some (suc n) (omega arith) (omega arith) e))))

  router-by : (v ≡ 1 → ⊥) → ltb 0 c ≡ is_router (shape ps) v
  router-by n = by (ℕ_discrete c 0)
    where
      by : Dec (c ≡ 0) → ltb 0 c ≡ is_router (shape ps) v
      by (yes z) = le-ltb 0 c (omega arith) ∙ no-children (shape ps) v n (missed z (length ps - 1) (omega arith))
      by (no z) = lt-ltb 0 c (omega arith) ∙ has-children (shape ps) v (found (omega arith))

pub router-in : (ps ks : List ℕ) → Linked ps ks → (v : ℕ) → v < length ps → length ps ≤ 256 → router_in ks v ≡ is_router (shape ps) v
router-in ps ks L v h most = by (ℕ_discrete v 1)
  where
    by : Dec (v ≡ 1) → router_in ks v ≡ is_router (shape ps) v
    by (yes e) = sym (root_in ks v e) ∙ root-is-router (shape ps) v e
    by (no n) = child-in ks v n (omega arith) ∙ router-by ps v (first_child ks v) (L.first v (omega arith)) n

-- ---- parents

pub kin-parents : (ps ks : List ℕ) → get_or ps 0 0 ≡ 0 → length ps ≤ 256 → length ks ≡ 768 → Linked ps ks → take (length ps) ks ≡ ps
kin-parents ps ks z most l L = ext_get_or 0 (take (length ps) ks) ps e each
  where
    e : length (take (length ps) ks) ≡ length ps
    e = length-take-le (length ps) ks (omega arith)

    own : (i : ℕ) → i < length ps → get_or ks i 0 ≡ get_or ps i 0
    own zero h = L.front ∙ sym z
    own (suc i) h = L.parents (suc i) (omega arith) h

    each : (i : ℕ) → i < length (take (length ps) ks) → get_or (take (length ps) ks) i 0 ≡ get_or ps i 0
    each i h = get_or-take (length ps) ks i 0 (omega (arith, e)) ∙ own i (omega (arith, e))
