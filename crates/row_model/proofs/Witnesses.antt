-- The witnesses (specs/Witness). Assumes nothing.
use mathlib.Core.Path.{◌≡◌, refl, ap}
use mathlib.Core.Bool.{Bool, true, false, cond, ◌&&◌, false≢true}
use mathlib.Core.List.{◌∷◌}
use Prim.Native.Nat.{ℕ, zero, suc, ◌+◌, ◌*◌, ◌≤◌, ◌<◌}
use native.Mathlib.Omega.{arith}
use lib.Dec.{eqb, lit<, lit≤}
use Rattle.network.specs.Counting.{total, bit, some_below, keep, none, each}
use Rattle.network.specs.Model.{Network, queue}
use Rattle.network.specs.Readings.{made}
use Rattle.network.specs.Loads.{Linked}
use Rattle.network.specs.Run.{deliver, feeds, ends, arrived, end_exchanges, fresh, make_readings}
use Rattle.network.specs.Oracle.{is_start, idle, behind, take_oldest, serve, begun, serve_all, symbol, run}
use Rattle.network.specs.Examples.{reading, first, as_numbers, received, lengths_at, soon_from}
use Rattle.network.proofs.Sums.{total_mono}
use Rattle.network.proofs.Oracles.{every-choice-is-a-run}
use Rattle.row_model.specs.Lines.{lines}
use Rattle.row_model.specs.Tree.{is_child, child_routers, end_nodes, Within, ancestor, sink_below, towards, line_of}
use Rattle.row_model.specs.Promise.{Windows, Readings, sink_line, senses, site_of, printed_of}
use Rattle.row_model.specs.Witness.{lossy_settings, settings, row, tree, offsets, network, readings, Witnessed, small_settings, small_row, small_tree, small_network, full_readings, Filled, lossy_row, lossy_network, lossy_readings, Lossy, deep_row, full_slots, tight_row, OnThePath, all_slots, all_superframes, JustMet, long_beacon, own_beacons, OwnCounts}
use Rattle.plan_model.specs.Lines.{columns}
use Rattle.row_model.proofs.Computing.{plans}
use Rattle.row_model.proofs.LawsHold.{every-plan-keeps}
use Rattle.network.proofs.Stretches.{stretch, stretch-le, soon-makes, soon-none}
use Rattle.promise_model.specs.Promise as promise

-- ---- what is computed with

-- to unfold `rows` is to unfold all that a witness's plan is computed with, and to unfold `runs` all that its run is
rows : Type 0
unfolding plans lossy_settings settings columns row small_settings small_row lossy_row deep_row full_slots tight_row all_slots all_superframes long_beacon own_beacons
rows = Unit

runs : Type 0
unfolding rows bit some_below is_child ancestor sink_below towards line_of promise.network_of site_of printed_of tree offsets network readings reading received as_numbers first run symbol serve_all begun serve take_oldest behind idle is_start make_readings fresh end_exchanges Rattle.network.specs.Run.arrivals arrived ends feeds deliver made queue keep lengths_at sink_line small_tree small_network soon_from full_readings lossy_network lossy_readings
runs = Unit

-- ---- the tree

six : (P : ℕ → Type 0) → P 0 → P 1 → P 2 → P 3 → P 4 → P 5 → (v : ℕ) → v < 6 → P v
six P a b c d e f zero h = a
six P a b c d e f (suc zero) h = b
six P a b c d e f (suc (suc zero)) h = c
six P a b c d e f (suc (suc (suc zero))) h = d
six P a b c d e f (suc (suc (suc (suc zero)))) h = e
six P a b c d e f (suc (suc (suc (suc (suc zero))))) h = f
six P a b c d e f (suc (suc (suc (suc (suc (suc v)))))) h = absurd (omega arith)

tree-within : Within row tree
unfolding runs child_routers end_nodes
tree-within = record {
  root_is_node = lit< tt;
  root_is_router = refl;
  root_depth = refl;
  parent_is_node = six _ (λ n. lit< tt) (λ n. lit< tt) (λ n. lit< tt) (λ n. lit< tt) (λ n. lit< tt) (λ n. lit< tt);
  parent_is_router = six _ (λ n. refl) (λ n. refl) (λ n. refl) (λ n. refl) (λ n. refl) (λ n. refl);
  parent_depth = six _ (λ n. refl) (λ n. refl) (λ n. refl) (λ n. refl) (λ n. absurd (n refl)) (λ n. refl);
  deepest = six _ end (λ r. lit≤ tt) (λ r. lit≤ tt) end (λ r. lit≤ tt) end;
  routers = six _ (lit≤ tt) (lit≤ tt) (lit≤ tt) (lit≤ tt) (lit≤ tt) (lit≤ tt);
  ends = six _ (lit≤ tt) (lit≤ tt) (lit≤ tt) (lit≤ tt) (lit≤ tt) (lit≤ tt);
  sink_is_node = lit< tt;
  sink_is_router = refl;
  sink_depth = refl;
}
  where
    end : {A : Type 0} → false ≡ true → A
    end r = absurd (false≢true r)

tree-linked : (P : ℕ → Type 0) → P 0 → P 1 → P 2 → P 3 → P 4 → P 5 → (v : ℕ) → Linked network v → P v
unfolding promise.network_of site_of network tree
tree-linked P a b c d e f v L = six P a b c d e f v L.node

tree-windows : Windows row (lines row) tree offsets
unfolding runs
tree-windows = tree-linked _ (lit≤ tt) (lit≤ tt) (lit≤ tt) (lit≤ tt) (lit≤ tt) (lit≤ tt)

-- ---- the tree's readings

-- a sensor makes a frame in symbol 0, or none
abbrev of-each : Bool → ℕ → ℕ
of-each b v = cond (b && eqb 5 v) 1 0 + (cond (b && eqb 2 v) 1 0 + (cond (b && eqb 4 v) 1 0 + (cond (b && eqb 1 v) 1 0 + 0)))

tree-made : (t v : ℕ) → v < 6 → made readings t v ≤ bit (eqb 0 t)
unfolding runs
tree-made t v h = by (eqb 0 t)
  where
    by : (b : Bool) → of-each b v ≤ bit b
    by true = six (λ v. of-each true v ≤ 1) (lit≤ tt) (lit≤ tt) (lit≤ tt) (lit≤ tt) (lit≤ tt) (lit≤ tt) v h
    by false = lit≤ tt

tree-readings : Readings row tree readings
unfolding rows site_of senses tree readings reading stretch
tree-readings = record {
  sensors = each (lit< tt) (each (lit< tt) (each (lit< tt) (each (lit< tt) none)));
  bucket = λ v x n h. six (λ v. Bucket v x n) (few x n 0 (lit< tt)) (few x n 1 (lit< tt)) (few x n 2 (lit< tt)) (few x n 3 (lit< tt)) (few x n 4 (lit< tt)) (few x n 5 (lit< tt)) v h;
}
  where
    Bucket : ℕ → ℕ → ℕ → Type 0
    Bucket v x n = total (λ i. made readings (x + i) v) n * 3840 ≤ (site_of row tree).burst v * 3840 + (site_of row tree).rate v * n

    few : (x n v : ℕ) → v < 6 → total (λ i. made readings (x + i) v) n * 3840 ≤ 1 * 3840 + 1 * n
    few x n v h = omega (arith, total_mono (λ i. made readings (x + i) v) (λ i. bit (eqb 0 (x + i))) n (λ i k. tree-made (x + i) v h), stretch-le 0 x n)

six-nodes : (site_of row tree).nodes ≡ 6
unfolding site_of tree
six-nodes = refl

-- two frames of a sensor in symbol 0 are too many
too_many : (v : ℕ) → made (reading 0 v 1 ∷ readings) 0 v ≡ 2 → v < 6 → (site_of row tree).burst v ≡ 1 → (site_of row tree).rate v ≡ 1
    → Readings row tree (reading 0 v 1 ∷ readings) → ⊥
unfolding rows
too_many v e h b r R =
    let k : (0 + made (reading 0 v 1 ∷ readings) 0 v) * 3840 ≤ 1 * 3840 + 1 * 1 = rw (b, r) at (R.bucket v 0 1 (rw six-nodes h)) in
    omega (arith, ap (λ (n : ℕ). n * 3840) e)

pub witnessed : Witnessed
unfolding runs senses
witnessed = record {
  planned = refl;
  printed = refl;
  within_row = tree-within;
  neighbours = refl;
  exchanges = refl;
  windows_fit = tree-windows;
  last_window = refl;
  keep_buckets = tree-readings;
  at_the_limit = each (too_many 5 refl (lit< tt) refl refl) (each (too_many 2 refl (lit< tt) refl refl) (each (too_many 4 refl (lit< tt) refl refl) (each (too_many 1 refl (lit< tt) refl refl) none)));
  arrived = refl;
  in_time = each (lit≤ tt) (each (lit≤ tt) (each (lit≤ tt) (each (lit≤ tt) none)));
  routers_queue = refl;
  roots_queue = refl;
  buffers = refl;
  kept = λ pick u. every-plan-keeps row (lines row) refl tree tree-within offsets tree-windows readings tree-readings _ (every-choice-is-a-run network readings pick) u;
}

-- ---- the full queue

two : (P : ℕ → Type 0) → P 0 → P 1 → (v : ℕ) → v < 2 → P v
two P a b zero h = a
two P a b (suc zero) h = b
two P a b (suc (suc v)) h = absurd (omega arith)

pub small-within : (head payload ack loss : ℕ) → Within (small_settings head payload ack loss) small_tree
unfolding runs child_routers end_nodes
small-within head payload ack loss = record {
  root_is_node = lit< tt;
  root_is_router = refl;
  root_depth = refl;
  parent_is_node = two _ (λ n. lit< tt) (λ n. lit< tt);
  parent_is_router = two _ (λ n. refl) (λ n. refl);
  parent_depth = two _ (λ n. absurd (n refl)) (λ n. refl);
  deepest = two _ (λ r. lit≤ tt) (λ r. absurd (false≢true r));
  routers = two _ (lit≤ tt) (lit≤ tt);
  ends = two _ (lit≤ tt) (lit≤ tt);
  sink_is_node = lit< tt;
  sink_is_router = refl;
  sink_depth = refl;
}

small-linked : (P : ℕ → Type 0) → P 0 → P 1 → (N : Network) → N.nodes ≡ 2 → (v : ℕ) → Linked N v → P v
small-linked P a b N e v L = two P a b v (omega (arith, L.node))

small-windows : Windows small_row (lines small_row) small_tree (λ v. 0)
unfolding runs
small-windows = small-linked _ (lit≤ tt) (lit≤ tt) small_network refl

-- the end node senses, and the root does not
pub small-readings : (head payload ack loss a : ℕ) → Readings (small_settings head payload ack loss) small_tree (soon_from a)
unfolding rows site_of senses small_tree soon_from reading
small-readings head payload ack loss a = record {
  sensors = each (lit< tt) (each (lit< tt) (each (lit< tt) none));
  bucket = λ v x n h. two (λ v. Bucket v x n) (omega (arith, soon-none a x n)) (omega (arith, soon-makes a x n)) v h;
}
  where
    Bucket : ℕ → ℕ → ℕ → Type 0
    Bucket v x n = total (λ i. made (soon_from a) (x + i) v) n * 960
        ≤ (site_of (small_settings head payload ack loss) small_tree).burst v * 960 + (site_of (small_settings head payload ack loss) small_tree).rate v * n

pub filled : Filled
unfolding runs
filled = record {
  planned = refl;
  printed = refl;
  within_row = small-within 17 1 0 0;
  windows_fit = small-windows;
  keep_buckets = small-readings 17 1 0 0 60;
  full = refl;
  arrived = refl;
}

-- ---- tries that may fail

lossy-windows : Windows lossy_row (lines lossy_row) small_tree (λ v. 0)
unfolding runs
lossy-windows = small-linked _ (lit≤ tt) (lit≤ tt) lossy_network refl

pub lossy : Lossy
unfolding runs
lossy = record {
  planned = refl;
  printed = refl;
  lasts = refl;
  without_loss = refl;
  within_row = small-within 5 1 1 1;
  windows_fit = lossy-windows;
  keep_buckets = small-readings 5 1 1 1 160;
  full = refl;
  arrived = refl;
  buffer = refl;
  kept = λ pick u.
      every-plan-keeps lossy_row (lines lossy_row) refl small_tree (small-within 5 1 1 1) (λ v. 0) lossy-windows lossy_readings (small-readings 5 1 1 1 160) _
      (every-choice-is-a-run lossy_network lossy_readings pick) u;
}

-- ---- routers on the sink's path

pub on-the-path : OnThePath
unfolding rows
on-the-path = record { deep = refl; used = refl; planned = refl; tight = refl; refused = refl }

-- ---- conditions that are just met

pub just-met : JustMet
unfolding rows
just-met = record { used = refl; planned = refl; counted = refl; planned_too = refl }

-- ---- a beacon for each router's own reservations

pub own-counts : OwnCounts
unfolding rows
own-counts = record { used = refl; refused = refl; apart = refl; refused_too = refl }
