-- Routers and depths: what a test finds, and the depth of a node from its parent's. Assumes nothing.
use mathlib.Core.Path.{◌≡◌, refl, sym, ap}
use mathlib.Core.Bool.{Bool, true, false, cond, ◌&&◌, ◌||◌}
use Prim.Native.Nat.{ℕ, zero, suc, ◌+◌, ◌≤◌, ◌<◌}
use native.Mathlib.Nat.{le_refl}
use native.Mathlib.Numerals.{add-one}
use native.Mathlib.Decide.{dec_le, ℕ_discrete}
use native.Mathlib.Omega.{arith}
use lib.Dec.{eqb, leb}
use borrow.Author.Tests.{eq-eqb, ne_eqb, le-leb, lt-leb}
use Rattle.network.specs.Counting.{bit}
use Rattle.tree_model.specs.Tree.{Tree, Rooted, sum_to, some_to, is_number, is_router}
use Rattle.tree_model.specs.Ways.{depth_by, depth_of}

-- ---- routers

-- what passes the test is found
pub some-hit : (p : ℕ → Bool) (n w : ℕ) → 1 ≤ w → w ≤ n → p w ≡ true → some_to p n ≡ true
unfolding some_to
some-hit p zero w a b e = absurd (omega arith)
some-hit p (suc n) w a b e = by (ℕ_discrete w (suc n)) (λ l. some-hit p n w a l e)
  where
    or-true : (x : Bool) → x || true ≡ true
    or-true true = refl
    or-true false = refl

    by : Dec (w ≡ suc n) → (w ≤ n → some_to p n ≡ true) → some_to p n || p (suc n) ≡ true
    by (yes q) ih = rw (rw q at e) (or-true (some_to p n))
    by (no q) ih = rw (ih (omega (arith, q)))

-- and one number more that does not pass it finds nothing
pub some-missed : (p : ℕ → Bool) (n : ℕ) → some_to p n ≡ false → p (suc n) ≡ false → some_to p (suc n) ≡ false
unfolding some_to
some-missed p n e f = rw (e, f)

pub root-is-router : (t : Tree) (v : ℕ) → v ≡ 1 → true ≡ is_router t v
unfolding is_router
root-is-router t v e = rw (eq-eqb v 1 e)

pub has-children : (t : Tree) (v : ℕ) → some_to (λ w. eqb (t.parent w) v) t.nodes ≡ true → true ≡ is_router t v
unfolding is_router
has-children t v e = by (eqb v 1)
  where
    by : (x : Bool) → true ≡ x || some_to (λ w. eqb (t.parent w) v) t.nodes
    by true = refl
    by false = sym e

pub no-children : (t : Tree) (v : ℕ) → (v ≡ 1 → ⊥) → some_to (λ w. eqb (t.parent w) v) t.nodes ≡ false → false ≡ is_router t v
unfolding is_router
no-children t v n e = rw (ne_eqb v 1 n, e)

-- the sink is a node, and a router
pub sink-low : (t : Tree) (s : ℕ) → s < 1 → false ≡ (is_number t s && is_router t s)
unfolding is_number
sink-low t s h = rw (lt-leb 1 s h)

pub sink-known : (t : Tree) (s : ℕ) (r : Bool) → 1 ≤ s → s ≤ t.nodes → r ≡ is_router t s → r ≡ (is_number t s && is_router t s)
unfolding is_number
sink-known t s r a b e = rw (le-leb 1 s a, le-leb s t.nodes b) e

pub sink-high : (t : Tree) (s : ℕ) → 1 ≤ s → t.nodes < s → false ≡ (is_number t s && is_router t s)
unfolding is_number
sink-high t s a h = rw (le-leb 1 s a, lt-leb s t.nodes h)

-- numbers that pass a test, and one number more
pub counted : (p : ℕ → Bool) (n v : ℕ) → n ≡ sum_to (λ u. bit (p u)) v → p (v + 1) ≡ true → n + 1 ≡ sum_to (λ u. bit (p u)) (v + 1)
unfolding sum_to bit
counted p n v e r = rw (add-one v) (rw (rw (add-one v) at r) (omega arith))

pub not-counted : (p : ℕ → Bool) (n v : ℕ) → n ≡ sum_to (λ u. bit (p u)) v → p (v + 1) ≡ false → n ≡ sum_to (λ u. bit (p u)) (v + 1)
unfolding sum_to bit
not-counted p n v e r = rw (add-one v) (rw (rw (add-one v) at r) (omega arith))

-- ---- depths

module _ (t : Tree) (p : Rooted t) where
  -- any bound on the steps that is enough gives the same
  depth-enough : (k j v : ℕ) → v ≤ k → v ≤ j → v ≤ t.nodes → depth_by k t v ≡ depth_by j t v
  unfolding depth_by
  depth-enough zero zero v a b c = refl
  depth-enough zero (suc j) v a b c = rw (le-leb v 1 (omega arith))
  depth-enough (suc k) zero v a b c = rw (le-leb v 1 (omega arith))
  depth-enough (suc k) (suc j) v a b c = by (dec_le v 1) (λ x y z. depth-enough k j (t.parent v) x y z)
    where
      by : Dec (v ≤ 1) → (t.parent v ≤ k → t.parent v ≤ j → t.parent v ≤ t.nodes → depth_by k t (t.parent v) ≡ depth_by j t (t.parent v))
          → cond (leb v 1) 0 (suc (depth_by k t (t.parent v))) ≡ cond (leb v 1) 0 (suc (depth_by j t (t.parent v)))
      by (yes l) ih = rw (le-leb v 1 l)
      by (no l) ih =
          let less : t.parent v < v = p.smaller v (omega arith) c in
          rw (lt-leb v 1 (omega arith)) (ap suc (ih (omega (arith, less)) (omega (arith, less)) (omega (arith, less))))

  -- the root has depth 0, and any other node one more than its parent
  pub depth-root : (v : ℕ) → v ≤ 1 → depth_of t v ≡ 0
  unfolding depth_of depth_by
  depth-root zero h = refl
  depth-root (suc v) h = rw (le-leb (suc v) 1 h)

  pub depth-step : (v : ℕ) → 2 ≤ v → v ≤ t.nodes → depth_of t v ≡ suc (depth_of t (t.parent v))
  unfolding depth_of depth_by
  depth-step zero two most = absurd (omega arith)
  depth-step (suc v) two most =
      let less : t.parent (suc v) < suc v = p.smaller (suc v) (omega arith) most in
      rw (lt-leb (suc v) 1 (omega arith)) (ap suc (depth-enough v (t.parent (suc v)) (t.parent (suc v)) (omega (arith, less)) (le_refl (t.parent (suc v))) (omega (arith, less))))

  pub depth-most : (m v : ℕ) → v ≤ m → v ≤ t.nodes → depth_of t v ≤ v
  depth-most zero v a b = omega (arith, depth-root v (omega arith))
  depth-most (suc m) v a b = by (dec_le v 1) (λ x y. depth-most m (t.parent v) x y)
    where
      by : Dec (v ≤ 1) → (t.parent v ≤ m → t.parent v ≤ t.nodes → depth_of t (t.parent v) ≤ t.parent v) → depth_of t v ≤ v
      by (yes l) ih = omega (arith, depth-root v l)
      by (no l) ih =
          let less : t.parent v < v = p.smaller v (omega arith) b in
          omega (arith, less, depth-step v (omega arith) b, ih (omega (arith, less)) (omega (arith, less)))
