-- The delay of a route is that of its first link and of the route from there. Assumes nothing.
use mathlib.Core.Path.{◌≡◌, refl}
use Prim.Native.Nat.{ℕ, zero, suc, ◌+◌, ◌*◌, ◌≤◌, ◌<◌}
use native.Mathlib.Decide.{ℕ_discrete}
use native.Mathlib.Omega.{arith}
use borrow.Author.Tests.{eq-eqb, ne_eqb}
use Rattle.tree_model.specs.Tree.{Tree, Rooted, NoGap}
use Rattle.tree_model.specs.Ways.{next}
use Rattle.tree_model.specs.Loads.{steps}
use Rattle.tree_model.specs.Lines.{way_delay}
use Rattle.tree_model.proofs.WayLaws.{next-node, next-no-gap, left, left-falls, left-most}

module _ (d : ℕ → ℕ) (t : Tree) (p : Rooted t) (s : ℕ) (s-one : 1 ≤ s) (s-known : s ≤ t.nodes) (s-node : NoGap t s) where
  -- at the sink there is none, and before it the first link's is added
  way_end : (k : ℕ) → way_delay k d t s s ≡ 0
  unfolding way_delay
  way_end zero = refl
  way_end (suc k) = rw (eq-eqb s s refl)

  way_on : (k v : ℕ) → (v ≡ s → ⊥) → way_delay (suc k) d t s v ≡ d v + way_delay k d t s (next t s v)
  unfolding way_delay
  way_on k v n = rw (ne_eqb v s n)

  -- any bound on the links that is enough gives the same
  way-enough : (k j v : ℕ) → 1 ≤ v → v ≤ t.nodes → NoGap t v → left t p s s-one s-known s-node v < k → left t p s s-one s-known s-node v < j → way_delay k d t s v ≡ way_delay j d t s v
  way-enough zero j v v1 vn kv x y = absurd (omega arith)
  way-enough (suc k) zero v v1 vn kv x y = absurd (omega arith)
  way-enough (suc k) (suc j) v v1 vn kv x y = by (ℕ_discrete v s) (λ n1 n2 n3 l. way-enough k j (next t s v) n1 n2 n3 (omega arith) (omega arith))
    where
      by : Dec (v ≡ s)
          → (1 ≤ next t s v → next t s v ≤ t.nodes → NoGap t (next t s v) → left t p s s-one s-known s-node (next t s v) < left t p s s-one s-known s-node v → way_delay k d t s (next t s v) ≡ way_delay j d t s (next t s v))
          → way_delay (suc k) d t s v ≡ way_delay (suc j) d t s v
      by (yes e) ih = rw (e, way_end (suc k), way_end (suc j))
      by (no m) ih =
          let n = next-node t p s s-one s-known s-node v v1 vn kv m in
          omega (arith, way_on k v m, way_on j v m, ih n.0 n.1 (next-no-gap t p s s-one s-known s-node v v1 vn kv m) (left-falls t p s s-one s-known s-node v v1 vn kv m))

  pub way-sink : way_delay (steps t) d t s s ≡ 0
  way-sink = way_end (steps t)

  pub way_step : (v : ℕ) → 1 ≤ v → v ≤ t.nodes → NoGap t v → (v ≡ s → ⊥) → way_delay (steps t) d t s v ≡ d v + way_delay (steps t) d t s (next t s v)
  way_step v v1 vn kv m =
      let n = next-node t p s s-one s-known s-node v v1 vn kv m in
      let z : steps t ≡ suc (4 * t.nodes + 7) = omega arith in
      rw z (omega (
        arith,
        way_on (4 * t.nodes + 7) v m,
        way-enough (4 * t.nodes + 7) (suc (4 * t.nodes + 7)) (next t s v) n.0 n.1 (next-no-gap t p s s-one s-known s-node v v1 vn kv m) (omega (arith, left-most t p s s-one s-known s-node (next t s v))) (omega (arith, left-most t p s s-one s-known s-node (next t s v))),
      ))

  -- no way has more delay than its links have together, each at its most
  way-below : (m D : ℕ) → ((v : ℕ) → 1 ≤ v → v ≤ t.nodes → d v ≤ D) → (v : ℕ) → 1 ≤ v → v ≤ t.nodes → NoGap t v → left t p s s-one s-known s-node v ≤ m → way_delay (steps t) d t s v ≤ m * D
  way-below zero D h v v1 vn kv l = by (ℕ_discrete v s)
    where
      by : Dec (v ≡ s) → way_delay (steps t) d t s v ≤ 0 * D
      by (yes e) = rw (e, way-sink) (omega arith)
      by (no n) = absurd (omega (arith, l, left-falls t p s s-one s-known s-node v v1 vn kv n))
  way-below (suc m) D h v v1 vn kv l = by (ℕ_discrete v s) (λ a b i k. way-below m D h (next t s v) a b i k)
    where
      by : Dec (v ≡ s) → (1 ≤ next t s v → next t s v ≤ t.nodes → NoGap t (next t s v) → left t p s s-one s-known s-node (next t s v) ≤ m → way_delay (steps t) d t s (next t s v) ≤ m * D) → way_delay (steps t) d t s v ≤ suc m * D
      by (yes e) ih = rw (e, way-sink) (omega arith)
      by (no n) ih =
          let k = next-node t p s s-one s-known s-node v v1 vn kv n in
          omega (arith, way_step v v1 vn kv n, h v v1 vn, ih k.0 k.1 (next-no-gap t p s s-one s-known s-node v v1 vn kv n) (omega (arith, l, left-falls t p s s-one s-known s-node v v1 vn kv n)))

  pub way-most : (D : ℕ) → ((v : ℕ) → 1 ≤ v → v ≤ t.nodes → d v ≤ D) → (v : ℕ) → 1 ≤ v → v ≤ t.nodes → NoGap t v → way_delay (steps t) d t s v ≤ 2 * (t.nodes + 1) * D
  way-most D h v v1 vn kv = way-below (2 * (t.nodes + 1)) D h v v1 vn kv (left-most t p s s-one s-known s-node v)
