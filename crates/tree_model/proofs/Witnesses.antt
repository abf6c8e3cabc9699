-- The witness of demand 3's hypotheses (specs/Witness): a tree with its sink below the root. Assumes nothing.
use mathlib.Core.Path.{◌≡◌, refl, ap}
use mathlib.Core.Bool.{Bool, true, false, cond, ◌&&◌}
use mathlib.Core.List.{[], ◌∷◌}
use Prim.Native.Nat.{ℕ, zero, suc, ◌+◌, ◌*◌, ◌≤◌, ◌<◌}
use native.Mathlib.Nat.{mul-le-mul_right}
use native.Mathlib.Omega.{arith}
use lib.Dec.{eqb, lit<, lit≤}
use Rattle.network.specs.Counting.{total, bit, none, each}
use Rattle.network.specs.Readings.{made}
use Rattle.network.specs.Loads.{Linked}
use Rattle.network.specs.Examples.{reading}
use Rattle.network.proofs.Sums.{total-mul, total_mono}
use Rattle.network.proofs.Oracles.{every-choice-is-a-run}
use Rattle.plan_model.specs.Lines.{columns}
use Rattle.network.proofs.Stretches.{stretch, stretch-le}
use Rattle.tree_model.specs.Lines.{lines}
use Rattle.tree_model.specs.Promise.{Windows, Readings, site_of, printed_of}
use Rattle.tree_model.specs.Laws.{Surveyed}
use Rattle.tree_model.specs.Examples.{node_columns, table}
use Rattle.tree_model.specs.Witness.{short, tree, offsets, network, readings, Witnessed}
use Rattle.tree_model.proofs.PlainLists.{plain-list-surveyed}
use Rattle.tree_model.proofs.Computing.{trees, runs}
use Rattle.tree_model.proofs.LawsHold.{every-plan-keeps}
use Rattle.promise_model.specs.Promise as promise

-- to unfold `witness` is to unfold all that the witness is computed with
witness : Type 0
unfolding trees runs columns node_columns table short tree offsets network readings
witness = Unit

-- ---- the tree

six : (P : ℕ → Type 0) → P 0 → P 1 → P 2 → P 3 → P 4 → P 5 → (i : ℕ) → i < 6 → P i
six P a b c d e f zero h = a
six P a b c d e f (suc zero) h = b
six P a b c d e f (suc (suc zero)) h = c
six P a b c d e f (suc (suc (suc zero))) h = d
six P a b c d e f (suc (suc (suc (suc zero)))) h = e
six P a b c d e f (suc (suc (suc (suc (suc zero))))) h = f
six P a b c d e f (suc (suc (suc (suc (suc (suc i)))))) h = absurd (omega arith)

-- the nodes 1 to 6 of the list
node : (P : ℕ → Type 0) → P 1 → P 2 → P 3 → P 4 → P 5 → P 6 → (v : ℕ) → 1 ≤ v → v ≤ 6 → P v
node P a b c d e f zero one most = absurd (omega arith)
node P a b c d e f (suc i) one most = six (λ i. P (suc i)) a b c d e f i (omega arith)

tree-surveyed : Surveyed tree 2
unfolding tree
tree-surveyed = plain-list-surveyed (0 ∷ 0 ∷ 1 ∷ 1 ∷ 1 ∷ 2 ∷ 3 ∷ []) (0 ∷ 1 ∷ 2 ∷ 1 ∷ 1 ∷ 1 ∷ 2 ∷ []) (0 ∷ 1 ∷ 1 ∷ 1 ∷ 1 ∷ 1 ∷ 2 ∷ []) 2
    (record { few = lit≤ tt; root = refl; parents = λ v two most. node (λ v. 2 ≤ v → (1 ≤ tree.parent v) × (tree.parent v < v)) (λ h. absurd (omega arith)) (λ h. (lit≤ tt, lit< tt)) (λ h. (lit≤ tt, lit< tt)) (λ h. (lit≤ tt, lit< tt)) (λ h. (lit≤ tt, lit< tt)) (λ h. (lit≤ tt, lit< tt)) v (omega arith) most two })
    (record {
      bursts = node _ (lit≤ tt) (lit≤ tt) (lit≤ tt) (lit≤ tt) (lit≤ tt) (lit≤ tt);
      rates = node _ (lit≤ tt) (lit≤ tt) (lit≤ tt) (lit≤ tt) (lit≤ tt) (lit≤ tt);
      both = node _ senses senses senses senses senses senses;
    })
    (lit≤ tt)
    (lit≤ tt)
  where
    senses : {n : ℕ} {A : Type 0} → suc n ≡ 0 → A
    senses z = absurd (omega (arith, z))

-- every linked node of the run
linked : (P : ℕ → Type 0) → P 0 → P 1 → P 2 → P 3 → P 4 → P 5 → (i : ℕ) → Linked network i → P i
unfolding promise.network_of site_of printed_of network tree
linked P a b c d e f i L = six P a b c d e f i L.node

tree-windows : Windows short (lines short tree 2) tree 2 offsets
unfolding witness
tree-windows = linked _ (lit≤ tt) (lit≤ tt) (lit≤ tt) (lit≤ tt) (lit≤ tt) (lit≤ tt)

-- ---- the tree's readings

-- what node i makes in symbol 0, where b is true, and in others, where it is false
abbrev of-each : Bool → ℕ → ℕ
of-each b i = cond (b && eqb 5 i) 2 0 + (cond (b && eqb 2 i) 1 0 + (cond (b && eqb 0 i) 1 0 + (cond (b && eqb 1 i) 2 0 + 0)))

in-symbol-0 : (i k : ℕ) → of-each true i ≤ k → of-each false i ≤ 0 → (t : ℕ) → made readings t i ≤ bit (eqb 0 t) * k
unfolding witness
in-symbol-0 i k h n t = by (eqb 0 t)
  where
    by : (b : Bool) → of-each b i ≤ bit b * k
    by true = omega (arith, h)
    by false = omega (arith, n)

-- so it makes that many in any symbols one after another
few : (i k : ℕ) → of-each true i ≤ k → of-each false i ≤ 0 → (x n : ℕ) → total (λ j. made readings (x + j) i) n ≤ k
unfolding stretch
few i k h z x n = omega (
  arith,
  total_mono (λ j. made readings (x + j) i) (λ j. bit (eqb 0 (x + j)) * k) n (λ j l. in-symbol-0 i k h z (x + j)),
  total-mul (λ j. bit (eqb 0 (x + j))) k n,
  mul-le-mul_right k (stretch-le 0 x n),
)

-- every stretch of symbols of every node
stretches : (P : ℕ → ℕ → ℕ → Type 0) (a : (x n : ℕ) → P 0 x n) (b : (x n : ℕ) → P 1 x n) (c : (x n : ℕ) → P 2 x n) (d : (x n : ℕ) → P 3 x n) (e : (x n : ℕ) → P 4 x n) (f : (x n : ℕ) → P 5 x n)
    → (i x n : ℕ) → i < 6 → P i x n
stretches P a b c d e f i x n h = six (λ i. P i x n) (a x n) (b x n) (c x n) (d x n) (e x n) (f x n) i h

tree-readings : Readings short tree 2 readings
unfolding trees site_of short tree readings reading
tree-readings = record {
  sensors = each (lit< tt) (each (lit< tt) (each (lit< tt) (each (lit< tt) none)));
  bucket = stretches
      _
      (λ x n. omega (arith, few 0 1 (lit≤ tt) (lit≤ tt) x n))
      (λ x n. omega (arith, few 1 2 (lit≤ tt) (lit≤ tt) x n))
      (λ x n. omega (arith, few 2 1 (lit≤ tt) (lit≤ tt) x n))
      (λ x n. omega (arith, few 3 1 (lit≤ tt) (lit≤ tt) x n))
      (λ x n. omega (arith, few 4 1 (lit≤ tt) (lit≤ tt) x n))
      (λ x n. omega (arith, few 5 2 (lit≤ tt) (lit≤ tt) x n));
}

-- a frame more than BURST in symbol 0 is too many, where RATE is small
too_many : (i k ρ : ℕ) → tree.burst (suc i) ≡ k → tree.rate (suc i) ≡ ρ → ρ < 3840 → made (reading 0 i 1 ∷ readings) 0 i ≡ suc k → i < 6
    → Readings short tree 2 (reading 0 i 1 ∷ readings) → ⊥
unfolding trees site_of short tree
too_many i k ρ b r s e h R =
    let f : (0 + made (reading 0 i 1 ∷ readings) 0 i) * 3840 ≤ tree.burst (suc i) * 3840 + tree.rate (suc i) * 1 = R.bucket i 0 1 h in
    omega (arith, ap (λ (n : ℕ). n * 3840) e, ap (λ (n : ℕ). n * 3840) b)

pub witnessed : Witnessed
unfolding witness
witnessed = record {
  surveyed = tree-surveyed;
  planned = refl;
  columns = refl;
  neighbours = refl;
  exchanges = refl;
  windows_fit = tree-windows;
  last_window = refl;
  keep_buckets = tree-readings;
  at_the_limit =
      each (too_many 5 2 2 refl refl (lit< tt) refl (lit< tt))
      (each (too_many 2 1 1 refl refl (lit< tt) refl (lit< tt))
      (each (too_many 0 1 1 refl refl (lit< tt) refl (lit< tt))
      (each (too_many 1 2 1 refl refl (lit< tt) refl (lit< tt)) none)));
  arrived = refl;
  in_time = each (lit≤ tt) (each (lit≤ tt) (each (lit≤ tt) (each (lit≤ tt) (each (lit≤ tt) (each (lit≤ tt) none)))));
  largest_route = refl;
  routers_queue = refl;
  roots_queue = refl;
  buffers = refl;
  kept = λ pick u. every-plan-keeps short tree 2 (lines short tree 2) tree-surveyed refl offsets tree-windows readings tree-readings _ (every-choice-is-a-run network readings pick) u;
}
