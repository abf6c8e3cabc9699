-- The queue that is filled to BUFFER, without and with loss (specs/Witness). Assumes nothing.
use mathlib.Core.Path.{◌≡◌, refl, subst}
use mathlib.Core.List.{List, [], ◌∷◌}
use Prim.Native.Nat.{ℕ, zero, suc, ◌≤◌, ◌<◌}
use native.Mathlib.Omega.{arith}
use lib.Dec.{lit<, lit≤}
use lib.ListN.{length}
use Rattle.network.specs.Counting.{none, each}
use Rattle.network.specs.Model.{Network, queue}
use Rattle.network.specs.Loads.{Linked}
use Rattle.network.specs.Oracle.{run}
use Rattle.network.specs.Examples.{reading, first, received, soon_from}
use Rattle.plan_model.specs.declared.Kind.TheVariants.{EndNode, Sink}
use Rattle.plan_model.specs.Lines.{columns}
use Rattle.network.proofs.Stretches.{soon-makes, soon-none}
use Rattle.plan_model.specs.declared.NodeLine.{NodeLine}
use Rattle.settings_model.specs.Checks.{radio}
use Rattle.tree_model.specs.Lines.{lines}
use Rattle.tree_model.specs.Promise.{figures_in, site_of, network_of, Windows, Readings}
use Rattle.tree_model.specs.Laws.{Surveyed}
use Rattle.tree_model.specs.Examples.{node_columns, table}
use Rattle.tree_model.specs.Witness.{shortest, pair, pair_network, full_readings, Filled, lossy, lossy_network, lossy_readings, Lossy}
use Rattle.tree_model.proofs.PlainLists.{plain-list-surveyed}
use Rattle.tree_model.proofs.Computing.{trees, runs, printed-line}

-- to unfold `witness` is to unfold all that it is computed with
witness : Type 0
unfolding trees runs columns node_columns table shortest pair pair_network soon_from full_readings lossy lossy_network lossy_readings
witness = Unit

two : (P : ℕ → Type 0) → P 0 → P 1 → (i : ℕ) → i < 2 → P i
two P a b zero h = a
two P a b (suc zero) h = b
two P a b (suc (suc i)) h = absurd (omega arith)

pair-surveyed : Surveyed pair 1
unfolding pair
pair-surveyed = plain-list-surveyed (0 ∷ 0 ∷ 1 ∷ []) (0 ∷ 0 ∷ 1 ∷ []) (0 ∷ 0 ∷ 2 ∷ []) 1
    (record { few = lit≤ tt; root = refl; parents = λ v two most. node (λ v. 2 ≤ v → (1 ≤ pair.parent v) × (pair.parent v < v)) (λ h. absurd (omega arith)) (λ h. (lit≤ tt, lit< tt)) v (omega arith) most two })
    (record {
      bursts = node _ (lit≤ tt) (lit≤ tt);
      rates = node _ (lit≤ tt) (lit≤ tt);
      both = node _ (λ z. refl) (λ z. absurd (omega (arith, z)));
    })
    (lit≤ tt)
    (lit≤ tt)
  where
    node : (P : ℕ → Type 0) → P 1 → P 2 → (v : ℕ) → 1 ≤ v → v ≤ 2 → P v
    node P a b zero one most = absurd (omega arith)
    node P a b (suc i) one most = two (λ i. P (suc i)) a b i (omega arith)

pair-linked : (P : ℕ → Type 0) → P 0 → P 1 → (N : Network) → N.nodes ≡ 2 → (i : ℕ) → Linked N i → P i
pair-linked P a b N e i L = two P a b i (omega (arith, L.node))

pair-windows : Windows shortest (lines shortest pair 1) pair 1 (λ i. 0)
unfolding witness
pair-windows = pair-linked _ (lit≤ tt) (lit≤ tt) pair_network refl

pair-stretches : (P : ℕ → ℕ → ℕ → Type 0) → ((x n : ℕ) → P 0 x n) → ((x n : ℕ) → P 1 x n) → (i x n : ℕ) → i < 2 → P i x n
pair-stretches P a b i x n h = two (λ i. P i x n) (a x n) (b x n) i h

pub pair-readings : (head payload ack loss a : ℕ) → Readings (radio 0 0 head payload ack loss) pair 1 (soon_from a)
unfolding trees site_of pair soon_from reading
pair-readings head payload ack loss a = record {
  sensors = each (lit< tt) (each (lit< tt) (each (lit< tt) none));
  bucket = pair-stretches _ (λ x n. omega (arith, soon-none a x n)) (λ x n. omega (arith, soon-makes a x n));
}

pair-plan : List NodeLine
pair-plan = printed-line Sink 0 2 2880 0 0 0 3 0 0 ∷ printed-line EndNode 1 2 960 2 2 960 3 1440 1440 ∷ []

pair-plan-is : pair-plan ≡ lines shortest pair 1
unfolding witness pair-plan printed-line
pair-plan-is = refl

pair-full : length (queue (run (network_of shortest pair-plan pair 1 (λ i. 0)) full_readings first 1020) 1) ≡ (figures_in pair-plan 1).buffer.0
unfolding witness pair-plan printed-line
pair-full = refl

pair-arrived : received (network_of shortest pair-plan pair 1 (λ i. 0)) full_readings first 1020 ≡ 1 ∷ 60 ∷ 1020 ∷ []
unfolding witness pair-plan printed-line
pair-arrived = refl

pub filled : Filled
unfolding witness
filled = record {
  surveyed = pair-surveyed;
  planned = refl;
  columns = refl;
  windows_fit = pair-windows;
  keep_buckets = pair-readings 17 1 0 0 60;
  full = subst (λ p. length (queue (run (network_of shortest p pair 1 (λ i. 0)) full_readings first 1020) 1) ≡ (figures_in p 1).buffer.0) pair-plan-is pair-full;
  arrived = subst (λ p. received (network_of shortest p pair 1 (λ i. 0)) full_readings first 1020 ≡ 1 ∷ 60 ∷ 1020 ∷ []) pair-plan-is pair-arrived;
}

-- ---- with loss

lossy-windows : Windows lossy (lines lossy pair 1) pair 1 (λ i. 0)
unfolding witness
lossy-windows = pair-linked _ (lit≤ tt) (lit≤ tt) lossy_network refl

lossy-plan : List NodeLine
lossy-plan = printed-line Sink 0 2 2880 0 0 0 3 0 0 ∷ printed-line EndNode 1 2 960 6 2 960 3 1440 1440 ∷ []

lossy-plan-is : lossy-plan ≡ lines lossy pair 1
unfolding witness lossy-plan printed-line
lossy-plan-is = refl

lossy-full : length (queue (run (network_of lossy lossy-plan pair 1 (λ i. 0)) lossy_readings first 1120) 1) ≡ (figures_in lossy-plan 1).buffer.0
unfolding witness lossy-plan printed-line
lossy-full = refl

lossy-arrived : received (network_of lossy lossy-plan pair 1 (λ i. 0)) lossy_readings first 1120 ≡ 1 ∷ 160 ∷ 1120 ∷ []
unfolding witness lossy-plan printed-line
lossy-arrived = refl

pub lossy-holds : Lossy
unfolding witness
lossy-holds = record {
  planned = refl;
  columns = refl;
  windows_fit = lossy-windows;
  keep_buckets = pair-readings 5 1 1 1 160;
  full = subst (λ p. length (queue (run (network_of lossy p pair 1 (λ i. 0)) lossy_readings first 1120) 1) ≡ (figures_in p 1).buffer.0) lossy-plan-is lossy-full;
  arrived = subst (λ p. received (network_of lossy p pair 1 (λ i. 0)) lossy_readings first 1120 ≡ 1 ∷ 160 ∷ 1120 ∷ []) lossy-plan-is lossy-arrived;
}
