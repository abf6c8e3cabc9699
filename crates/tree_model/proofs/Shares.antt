-- Whatever enters nodes and is handed on without loss, once at each node, is at most what all nodes make together. Assumes nothing.
use mathlib.Core.Path.{◌≡◌, refl, sym, ap, ap₂, ◌∙◌}
use mathlib.Core.Bool.{Bool, true, false, ◌&&◌}
use Prim.Native.Nat.{ℕ, zero, suc, ◌+◌, ◌*◌, ◌≤◌, ◌<◌}
use native.Mathlib.Nat.{le_refl}
use native.Mathlib.Omega.{arith}
use native.Mathlib.Decide.{dec_le, ℕ_discrete}
use lib.Dec.{eqb, ltb, leb}
use borrow.Author.Tests.{eq-eqb, ne_eqb, lt-ltb, le-ltb, le-leb, lt-leb}
use Rattle.tree_model.specs.Tree.{Tree, sum_to, other_neighbour, Rooted, Facing}

-- x, where the test holds
abbrev pub pick : Bool → ℕ → ℕ
pick true x = x
pick false x = 0

pub sum-ap : (f g : ℕ → ℕ) (n : ℕ) → ((w : ℕ) → 1 ≤ w → w ≤ n → f w ≡ g w) → sum_to f n ≡ sum_to g n
unfolding sum_to
sum-ap f g zero h = refl
sum-ap f g (suc n) h = ap₂ ◌+◌ (sum-ap f g n (λ w a b. h w a (omega arith))) (h (suc n) (omega arith) (le_refl (suc n)))

pub sum-add : (f g : ℕ → ℕ) (n : ℕ) → sum_to (λ w. f w + g w) n ≡ sum_to f n + sum_to g n
unfolding sum_to
sum-add f g zero = refl
sum-add f g (suc n) = omega (arith, sum-add f g n)

pub sum_mono : (f g : ℕ → ℕ) (n : ℕ) → ((w : ℕ) → 1 ≤ w → w ≤ n → f w ≤ g w) → sum_to f n ≤ sum_to g n
unfolding sum_to
sum_mono f g zero h = le_refl 0
sum_mono f g (suc n) h = omega (arith, sum_mono f g n (λ w a b. h w a (omega arith)), h (suc n) (omega arith) (le_refl (suc n)))

-- n times at most b
pub sum-most : (f : ℕ → ℕ) (b n : ℕ) → ((w : ℕ) → 1 ≤ w → w ≤ n → f w ≤ b) → sum_to f n ≤ n * b
unfolding sum_to
sum-most f b zero h = omega arith
sum-most f b (suc n) h = omega (arith, sum-most f b n (λ w x y. h w x (omega arith)), h (suc n) (omega arith) (le_refl (suc n)))

pub sum-has : (f : ℕ → ℕ) (w n : ℕ) → 1 ≤ w → w ≤ n → f w ≤ sum_to f n
unfolding sum_to
sum-has f w zero a b = absurd (omega arith)
sum-has f w (suc n) a b = by (ℕ_discrete w (suc n)) (λ l. sum-has f w n a l)
  where
    by : Dec (w ≡ suc n) → (w ≤ n → f w ≤ sum_to f n) → f w ≤ sum_to f n + f (suc n)
    by (yes e) h = rw e (omega arith)
    by (no e) h = omega (arith, h (omega (arith, e)))

-- the sum has f q alone
module _ (f : ℕ → ℕ) (q : ℕ) where
  pub sum-none : (n : ℕ) → (1 ≤ q → n < q) → sum_to (λ w. pick (eqb w q) (f w)) n ≡ 0
  unfolding sum_to
  sum-none zero h = refl
  sum-none (suc n) h =
      rw (ne_eqb (suc n) q (λ e. omega (arith, h (omega arith)))) (omega (arith, sum-none n (λ l. omega (arith, h l))))

  pub sum-at : (n : ℕ) → 1 ≤ q → q ≤ n → sum_to (λ w. pick (eqb w q) (f w)) n ≡ f q
  unfolding sum_to
  sum-at zero a b = absurd (omega arith)
  sum-at (suc n) a b = by (ℕ_discrete (suc n) q) (λ l. sum-at n a l)
    where
      by : Dec (suc n ≡ q) → (q ≤ n → sum_to (λ w. pick (eqb w q) (f w)) n ≡ f q) → sum_to (λ w. pick (eqb w q) (f w)) n + pick (eqb (suc n) q) (f (suc n)) ≡ f q
      by (yes e) h = rw (eq-eqb (suc n) q e, e) (omega (arith, sum-none n (λ l. omega arith)))
      by (no e) h = rw (ne_eqb (suc n) q e) (omega (arith, h (omega (arith, e))))

-- y v from: what enters v, and is made of g v and what enters the neighbours away from `from`
module _ (t : Tree) (p : Rooted t) (g : ℕ → ℕ) (y : ℕ → ℕ → ℕ)
    (exact : (v from : ℕ) → Facing t v from → y v from ≡ g v + sum_to (λ w. pick (other_neighbour t v from w) (y w v)) t.nodes) where
  -- all from v down
  low : ℕ → ℕ
  low v = y v (t.parent v)

  -- what comes from v's children, and from its parent
  kids : ℕ → ℕ
  kids v = sum_to (λ w. pick (eqb (t.parent w) v) (low w)) t.nodes

  above : ℕ → ℕ
  above v = sum_to (λ w. pick (eqb w (t.parent v)) (y w v)) t.nodes

  -- the nodes from k on, as a forest
  forest : ℕ → ℕ
  forest k = sum_to (λ w. pick (leb k w && ltb (t.parent w) k) (low w)) t.nodes

  facing-up : (v : ℕ) → 1 ≤ v → v ≤ t.nodes → Facing t v (t.parent v)
  facing-up v one most =
      let l : t.parent v < v = p.smaller v one most in
      record { node = one; known = most; apart = λ e. omega arith; up = λ a b. refl; down = λ a. absurd (omega arith); known_from = omega arith }

  low_step : (v : ℕ) → 1 ≤ v → v ≤ t.nodes → low v ≡ g v + kids v
  unfolding low kids
  low_step v one most =
      exact v (t.parent v) (facing-up v one most) ∙ ap (λ (x : ℕ). g v + x)
      (sum-ap (λ w. pick (other_neighbour t v (t.parent v) w) (y w v)) (λ w. pick (eqb (t.parent w) v) (low w)) t.nodes
      (λ w a b. by w (ℕ_discrete (t.parent w) v) (ℕ_discrete (t.parent v) w) (p.smaller w a b) (p.smaller v one most)))
    where
      by : (w : ℕ) → Dec (t.parent w ≡ v) → Dec (t.parent v ≡ w) → t.parent w < w → t.parent v < v → pick (other_neighbour t v (t.parent v) w) (y w v) ≡ pick (eqb (t.parent w) v) (y w (t.parent w))
      by w (yes e) d h l = rw (eq-eqb (t.parent w) v e, ne_eqb w (t.parent v) (λ q. omega arith), e)
      by w (no e) (yes d) h l = rw (ne_eqb (t.parent w) v e, eq-eqb w (t.parent v) (sym d))
      by w (no e) (no d) h l = rw (ne_eqb (t.parent w) v e, ne_eqb w (t.parent v) (λ q. d (sym q)), ne_eqb (t.parent v) w d)

  forest_step : (k : ℕ) → 1 ≤ k → k ≤ t.nodes → forest k ≡ g k + forest (suc k)
  unfolding forest kids
  forest_step k one most =
      omega (
        arith,
        low_step k one most,
        sym (sum-add (λ w. pick (leb k w && ltb (t.parent w) k) (low w)) (λ w. pick (eqb (t.parent w) k) (low w)) t.nodes)
            ∙ sum-ap (λ w. pick (leb k w && ltb (t.parent w) k) (low w) + pick (eqb (t.parent w) k) (low w)) (λ w. pick (eqb w k) (low w) + pick (leb (suc k) w && ltb (t.parent w) (suc k)) (low w)) t.nodes
            (λ w a b. by w (dec_le (suc w) k) (dec_le w k) (dec_le (suc (t.parent w)) k) (ℕ_discrete (t.parent w) k) (p.smaller w a b))
            ∙ sum-add (λ w. pick (eqb w k) (low w)) (λ w. pick (leb (suc k) w && ltb (t.parent w) (suc k)) (low w)) t.nodes,
        sum-at low k t.nodes one most,
      )
    where
      by : (w : ℕ) → Dec (w < k) → Dec (w ≤ k) → Dec (t.parent w < k) → Dec (t.parent w ≡ k) → t.parent w < w → pick (leb k w && ltb (t.parent w) k) (low w) + pick (eqb (t.parent w) k) (low w) ≡ pick (eqb w k) (low w) + pick (leb (suc k) w && ltb (t.parent w) (suc k)) (low w)
      by w (yes u) s r q h = rw (lt-leb k w u, ne_eqb (t.parent w) k (λ e. omega arith), ne_eqb w k (λ e. omega arith), lt-leb (suc k) w (omega arith))
      by w (no u) (yes s) r q h =
          let e : w ≡ k = omega arith in
          rw (le-leb k w (omega arith), lt-ltb (t.parent w) k (omega arith), ne_eqb (t.parent w) k (λ e. omega arith), eq-eqb w k e, lt-leb (suc k) w (omega arith))
      by w (no u) (no s) (yes r) q h =
          rw (le-leb k w (omega arith), lt-ltb (t.parent w) k r, ne_eqb (t.parent w) k (λ e. omega arith), ne_eqb w k (λ e. omega arith), le-leb (suc k) w (omega arith), lt-ltb (t.parent w) (suc k) (omega arith)) (omega arith)
      by w (no u) (no s) (no r) (yes q) h =
          rw (le-leb k w (omega arith), le-ltb (t.parent w) k (omega arith), eq-eqb (t.parent w) k q, ne_eqb w k (λ e. omega arith), le-leb (suc k) w (omega arith), lt-ltb (t.parent w) (suc k) (omega arith))
      by w (no u) (no s) (no r) (no q) h =
          rw (le-leb k w (omega arith), le-ltb (t.parent w) k (omega arith), ne_eqb (t.parent w) k q, ne_eqb w k (λ e. omega arith), le-leb (suc k) w (omega arith), le-ltb (t.parent w) (suc k) (omega (arith, q)))

  forest-end : forest (suc t.nodes) ≡ 0
  unfolding forest sum_to
  forest-end = go t.nodes (le_refl t.nodes)
    where
      go : (m : ℕ) → m ≤ t.nodes → sum_to (λ w. pick (leb (suc t.nodes) w && ltb (t.parent w) (suc t.nodes)) (low w)) m ≡ 0
      go zero h = refl
      go (suc m) h = rw (lt-leb (suc t.nodes) (suc m) (omega arith)) (omega (arith, go m (omega arith)))

  -- the forest from k + 1 on, and what the nodes up to k make
  forest-rest : (k : ℕ) → k ≤ t.nodes → forest 1 ≡ sum_to g k + forest (suc k)
  unfolding sum_to
  forest-rest zero h = omega arith
  forest-rest (suc k) h = omega (arith, forest-rest k (omega arith), forest_step (suc k) (omega arith) h)

  all : forest 1 ≡ sum_to g t.nodes
  all = omega (arith, forest-rest t.nodes (le_refl t.nodes), forest-end)

  low-within : (k : ℕ) → 1 ≤ k → k ≤ t.nodes → low k ≤ sum_to g t.nodes
  unfolding forest
  low-within zero one most = absurd (omega arith)
  low-within (suc k) one most =
      let here : low (suc k) ≤ forest (suc k) =
      rw (le-leb (suc k) (suc k) (le_refl (suc k)), lt-ltb (t.parent (suc k)) (suc k) (p.smaller (suc k) one most)) at (sum-has (λ w. pick (leb (suc k) w && ltb (t.parent w) (suc k)) (low w)) (suc k) t.nodes one most) in
      omega (arith, here, forest-rest k (omega arith), all)

  -- v's children and its parent make what enters v from all sides but c's
  climb-step : (v c : ℕ) → Facing t v c → v < c → y v c + low c ≡ low v + above v
  unfolding kids above low
  climb-step v c f l =
      omega (
        arith,
        exact v c f,
        low_step v f.node f.known,
        sym (sum-add (λ w. pick (other_neighbour t v c w) (y w v)) (λ w. pick (eqb w c) (low w)) t.nodes)
            ∙ sum-ap (λ w. pick (other_neighbour t v c w) (y w v) + pick (eqb w c) (low w)) (λ w. pick (eqb (t.parent w) v) (low w) + pick (eqb w (t.parent v)) (y w v)) t.nodes
            (λ w a b. by w (ℕ_discrete w c) (ℕ_discrete (t.parent w) v) (ℕ_discrete (t.parent v) w) (p.smaller w a b))
            ∙ sum-add (λ w. pick (eqb (t.parent w) v) (low w)) (λ w. pick (eqb w (t.parent v)) (y w v)) t.nodes,
        sum-at low c t.nodes (omega arith) f.known_from,
      )
    where
      h : t.parent v < v
      h = p.smaller v f.node f.known

      child : t.parent c ≡ v
      child = f.down l

      by : (w : ℕ) → Dec (w ≡ c) → Dec (t.parent w ≡ v) → Dec (t.parent v ≡ w) → t.parent w < w → pick (other_neighbour t v c w) (y w v) + pick (eqb w c) (low w) ≡ pick (eqb (t.parent w) v) (low w) + pick (eqb w (t.parent v)) (y w v)
      by w (yes e) s r q = rw (eq-eqb w c e, eq-eqb (t.parent w) v (ap t.parent e ∙ child), ne_eqb w (t.parent v) (λ d. omega (arith, h))) (omega arith)
      by w (no e) (yes s) r q = rw (ne_eqb w c e, eq-eqb (t.parent w) v s, ne_eqb w (t.parent v) (λ d. omega (arith, h)), s) (omega arith)
      by w (no e) (no s) (yes r) q = rw (ne_eqb w c e, ne_eqb (t.parent w) v s, eq-eqb (t.parent v) w r, eq-eqb w (t.parent v) (sym r)) (omega arith)
      by w (no e) (no s) (no r) q = rw (ne_eqb w c e, ne_eqb (t.parent w) v s, ne_eqb (t.parent v) w r, ne_eqb w (t.parent v) (λ d. r (sym d)))

  above-none : (v : ℕ) → t.parent v ≡ 0 → above v ≡ 0
  unfolding above
  above-none v e = sum-none (λ w. y w v) (t.parent v) t.nodes (λ l. absurd (omega (arith, e)))

  above-one : (v : ℕ) → 1 ≤ t.parent v → v ≤ t.nodes → 1 ≤ v → above v ≡ y (t.parent v) v
  unfolding above
  above-one v some most one = sum-at (λ w. y w v) (t.parent v) t.nodes some (omega (arith, p.smaller v one most))

  facing-down : (v : ℕ) → 1 ≤ t.parent v → v ≤ t.nodes → 1 ≤ v → Facing t (t.parent v) v
  facing-down v some most one =
      let l : t.parent v < v = p.smaller v one most in
      record { node = some; known = omega arith; apart = λ e. omega arith; up = λ a b. absurd (omega arith); down = λ a. refl; known_from = most }

  -- above v and below it is at most all there is
  whole : (m v : ℕ) → v ≤ m → 1 ≤ v → v ≤ t.nodes → low v + above v ≤ sum_to g t.nodes
  whole zero v h one most = absurd (omega arith)
  whole (suc m) v h one most = by (dec_le 1 (t.parent v)) (λ u a b c. whole m u a b c)
    where
      by : Dec (1 ≤ t.parent v) → ((u : ℕ) → u ≤ m → 1 ≤ u → u ≤ t.nodes → low u + above u ≤ sum_to g t.nodes) → low v + above v ≤ sum_to g t.nodes
      by (no l) ih = omega (arith, low-within v one most, above-none v (omega arith))
      by (yes some) ih =
          let less : t.parent v < v = p.smaller v one most in
          omega (arith, above-one v some most one, climb-step (t.parent v) v (facing-down v some most one) less, ih (t.parent v) (omega arith) some (omega arith))

  -- no more enters the sink than is made anywhere
  at-sink : (v : ℕ) → 1 ≤ v → v ≤ t.nodes → y v 0 ≤ sum_to g t.nodes
  unfolding kids above low
  at-sink v one most = omega (
    arith,
    exact v 0 face,
    sum-ap (λ w. pick (other_neighbour t v 0 w) (y w v)) (λ w. pick (eqb (t.parent w) v) (low w) + pick (eqb w (t.parent v)) (y w v)) t.nodes
        (λ w a b. by w (ℕ_discrete (t.parent w) v) (ℕ_discrete (t.parent v) w) a (p.smaller w a b)),
    whole v v (le_refl v) one most,
    low_step v one most,
    sum-add (λ w. pick (eqb (t.parent w) v) (low w)) (λ w. pick (eqb w (t.parent v)) (y w v)) t.nodes,
  )
    where
      h : t.parent v < v
      h = p.smaller v one most

      face : Facing t v 0
      face = record { node = one; known = most; apart = λ e. omega arith; up = λ a b. absurd (omega arith); down = λ a. absurd (omega arith); known_from = omega arith }

      by : (w : ℕ) → Dec (t.parent w ≡ v) → Dec (t.parent v ≡ w) → 1 ≤ w → t.parent w < w → pick (other_neighbour t v 0 w) (y w v) ≡ pick (eqb (t.parent w) v) (low w) + pick (eqb w (t.parent v)) (y w v)
      by w (yes s) r one q = rw (ne_eqb w 0 (λ d. omega arith), eq-eqb (t.parent w) v s, ne_eqb w (t.parent v) (λ d. omega (arith, h)), s) (omega arith)
      by w (no s) (yes r) one q = rw (ne_eqb w 0 (λ d. omega arith), ne_eqb (t.parent w) v s, eq-eqb (t.parent v) w r, eq-eqb w (t.parent v) (sym r)) (omega arith)
      by w (no s) (no r) one q = rw (ne_eqb w 0 (λ d. omega arith), ne_eqb (t.parent w) v s, ne_eqb (t.parent v) w r, ne_eqb w (t.parent v) (λ d. r (sym d)))

  -- what enters a node is at most what all make
  pub within : (v from : ℕ) → Facing t v from → y v from ≤ sum_to g t.nodes
  unfolding low
  within v from f = by (dec_le (suc v) from) (dec_le from 0)
    where
      by : Dec (v < from) → Dec (from ≤ 0) → y v from ≤ sum_to g t.nodes
      by (yes u) z = omega (arith, climb-step v from f u, whole v v (le_refl v) f.node f.known)
      by (no u) (yes z) = let e : from ≡ 0 = omega arith in rw e (omega (arith, at-sink v f.node f.known))
      by (no u) (no z) =
          let e : t.parent v ≡ from = f.up (omega arith) (omega (arith, f.apart)) in
          rw e at (low-within v f.node f.known)
