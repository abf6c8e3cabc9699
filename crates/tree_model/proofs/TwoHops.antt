-- The frame that is longer on its way than its own link's DELAY (specs/Witness). Assumes nothing.
use mathlib.Core.Path.{◌≡◌, refl, ap, subst}
use mathlib.Core.Bool.{Bool, true, false, cond, ◌&&◌}
use mathlib.Core.List.{List, [], ◌∷◌}
use Prim.Native.Nat.{ℕ, zero, suc, ◌+◌, ◌≤◌, ◌<◌}
use native.Mathlib.Omega.{arith}
use lib.Dec.{eqb, lit<, lit≤}
use Rattle.network.specs.Counting.{total, bit, none, each}
use Rattle.network.specs.Readings.{made}
use Rattle.network.specs.Loads.{Linked}
use Rattle.network.specs.Examples.{reading, first, received}
use Rattle.network.proofs.Sums.{total-ap, total-zero}
use Rattle.plan_model.specs.declared.Kind.TheVariants.{EndNode, Upward, Sink}
use Rattle.plan_model.specs.Lines.{columns}
use Rattle.network.proofs.Stretches.{stretch, stretch-le}
use Rattle.plan_model.specs.declared.NodeLine.{NodeLine}
use Rattle.tree_model.specs.Lines.{lines}
use Rattle.tree_model.specs.Promise.{network_of, Windows, Readings, site_of, printed_of}
use Rattle.tree_model.specs.Laws.{Surveyed}
use Rattle.tree_model.specs.Examples.{node_columns, table}
use Rattle.tree_model.specs.Witness.{shorter, two_hops, hop_offsets, hop_network, late_reading, TwoLinks}
use Rattle.tree_model.proofs.PlainLists.{plain-list-surveyed}
use Rattle.tree_model.proofs.Computing.{trees, runs, printed-line}
use Rattle.promise_model.specs.Promise as promise

-- to unfold `witness` is to unfold all that it is computed with
witness : Type 0
unfolding trees runs columns node_columns table shorter two_hops hop_offsets hop_network late_reading
witness = Unit

three : (P : ℕ → Type 0) → P 0 → P 1 → P 2 → (i : ℕ) → i < 3 → P i
three P a b c zero h = a
three P a b c (suc zero) h = b
three P a b c (suc (suc zero)) h = c
three P a b c (suc (suc (suc i))) h = absurd (omega arith)

hop-surveyed : Surveyed two_hops 1
unfolding two_hops
hop-surveyed = plain-list-surveyed (0 ∷ 0 ∷ 1 ∷ 2 ∷ []) (0 ∷ 0 ∷ 0 ∷ 1 ∷ []) (0 ∷ 0 ∷ 0 ∷ 7 ∷ []) 1
    (record { few = lit≤ tt; root = refl; parents = λ v two most. node (λ v. 2 ≤ v → (1 ≤ two_hops.parent v) × (two_hops.parent v < v)) (λ h. absurd (omega arith)) (λ h. (lit≤ tt, lit< tt)) (λ h. (lit≤ tt, lit< tt)) v (omega arith) most two })
    (record {
      bursts = node _ (lit≤ tt) (lit≤ tt) (lit≤ tt);
      rates = node _ (lit≤ tt) (lit≤ tt) (lit≤ tt);
      both = node _ (λ z. refl) (λ z. refl) (λ z. absurd (omega (arith, z)));
    })
    (lit≤ tt)
    (lit≤ tt)
  where
    node : (P : ℕ → Type 0) → P 1 → P 2 → P 3 → (v : ℕ) → 1 ≤ v → v ≤ 3 → P v
    node P a b c zero one most = absurd (omega arith)
    node P a b c (suc i) one most = three (λ i. P (suc i)) a b c i (omega arith)

hop-linked : (P : ℕ → Type 0) → P 0 → P 1 → P 2 → (i : ℕ) → Linked hop_network i → P i
unfolding promise.network_of site_of printed_of hop_network two_hops
hop-linked P a b c i L = three P a b c i L.node

hop-windows : Windows shorter (lines shorter two_hops 1) two_hops 1 hop_offsets
unfolding witness
hop-windows = hop-linked _ (lit≤ tt) (lit≤ tt) (lit≤ tt)

-- a node makes the one frame, or none
hop-made : (t i : ℕ) → made late_reading t i ≡ bit (eqb 360 t && eqb 2 i)
unfolding made late_reading reading bit
hop-made t i = omega (arith, one (eqb 360 t && eqb 2 i))
  where
    one : (b : Bool) → cond {A = ℕ} b 1 0 ≡ bit b
    one true = refl
    one false = refl

-- so of it there is at most one in n symbols, and none of other nodes
hop-total : (i k : ℕ) → bit (eqb 2 i) ≤ k → (x n : ℕ) → total (λ j. made late_reading (x + j) i) n ≤ k
unfolding stretch bit
hop-total i k h x n = by (eqb 2 i) refl
  where
    both : (a b : Bool) → b ≡ true → bit (a && b) ≡ bit a
    both true b e = ap bit e
    both false b e = refl

    neither : (a b : Bool) → b ≡ false → bit (a && b) ≡ 0
    neither true b e = ap bit e
    neither false b e = refl

    by : (b : Bool) → eqb 2 i ≡ b → total (λ j. made late_reading (x + j) i) n ≤ k
    by true e = omega (
      arith,
      ap bit e,
      h,
      total-ap (λ j. made late_reading (x + j) i) (λ j. bit (eqb 360 (x + j))) n (λ j l. omega (arith, hop-made (x + j) i, both (eqb 360 (x + j)) (eqb 2 i) e)),
      stretch-le 360 x n,
    )
    by false e = omega (
      arith,
      total-ap (λ j. made late_reading (x + j) i) (λ j. 0) n (λ j l. omega (arith, hop-made (x + j) i, neither (eqb 360 (x + j)) (eqb 2 i) e)),
      total-zero n,
    )

hop-stretches : (P : ℕ → ℕ → ℕ → Type 0) → ((x n : ℕ) → P 0 x n) → ((x n : ℕ) → P 1 x n) → ((x n : ℕ) → P 2 x n) → (i x n : ℕ) → i < 3 → P i x n
hop-stretches P a b c i x n h = three (λ i. P i x n) (a x n) (b x n) (c x n) i h

hop-readings : Readings shorter two_hops 1 late_reading
unfolding trees site_of shorter two_hops late_reading reading
hop-readings = record {
  sensors = each (lit< tt) none;
  bucket = hop-stretches
      _
      (λ x n. omega (arith, hop-total 0 0 (lit≤ tt) x n))
      (λ x n. omega (arith, hop-total 1 0 (lit≤ tt) x n))
      (λ x n. omega (arith, hop-total 2 1 (lit≤ tt) x n));
}

hop-plan : List NodeLine
hop-plan =
    printed-line Sink 0 7 24600 0 0 0 13 0 0
    ∷ printed-line Upward 1 7 13260 7 7 1620 13 3515 3515
    ∷ printed-line EndNode 2 7 1920 7 7 1620 7 1895 5410
    ∷ []

hop-plan-is : hop-plan ≡ lines shorter two_hops 1
unfolding witness hop-plan printed-line
hop-plan-is = refl

hop-arrived : received (network_of shorter hop-plan two_hops 1 hop_offsets) late_reading first 2280 ≡ 2 ∷ 360 ∷ 2280 ∷ []
unfolding witness hop-plan printed-line
hop-arrived = refl

pub two-links : TwoLinks
unfolding witness
two-links = record {
  surveyed = hop-surveyed;
  planned = refl;
  columns = refl;
  windows_fit = hop-windows;
  keep_buckets = hop-readings;
  arrived = subst (λ p. received (network_of shorter p two_hops 1 hop_offsets) late_reading first 2280 ≡ 2 ∷ 360 ∷ 2280 ∷ []) hop-plan-is hop-arrived;
}
