-- No frame is lost or doubled, and none changes its sensor or the symbol in which it was made. Assumes nothing.
use mathlib.Core.Path.{◌≡◌, refl, sym, ap, ap₂, ◌∙◌, subst}
use mathlib.Core.Logic.{◌≢◌}
use mathlib.Core.Bool.{Bool, true, false, cond, not, ◌&&◌, and-true, and-false}
use mathlib.Core.List.{List, [], ◌∷◌, map}
use Prim.Native.Nat.{ℕ, zero, suc, ◌+◌, ◌*◌, ◌≤◌, ◌<◌}
use native.Mathlib.Decide.{ℕ_discrete, dec_le}
use native.Mathlib.Omega.{arith}
use lib.Dec.{eqb, ltb, leb}
use borrow.Author.Tests.{lt-ltb, le-ltb, eqb-true, eqb-false, eq-eqb, ne_eqb, le-leb, lt-leb}
use Rattle.network.specs.Counting.{total, bit, count, keep, All, none, each}
use Rattle.network.specs.Model.{Network, Frame, Exchange, queue}
use Rattle.network.specs.Readings.{Reading, made}
use Rattle.network.specs.Run.{feeds, arrived, fresh}
use Rattle.network.specs.Oracle.{run}
use Rattle.network.specs.Claim.{tagged, present}
use Rattle.network.proofs.Sums.{total-ap, total-add, total-swap, total-zero, total-pick}
use Rattle.network.proofs.Answers.{eqb-sym}
use Rattle.network.proofs.Lists.{count-append, count_map}
use Rattle.network.proofs.Steps.{sink-waiting, sink-air}
use Rattle.network.proofs.Accounting.{waits, on_air, come, leave, waits-step, air-step, come-from, received-all}

-- readings of the network's nodes make nothing elsewhere
made-elsewhere : (n t v : ℕ) (l : List Reading) → All (λ r. r.sensor < n) l → n ≤ v → made l t v ≡ 0
unfolding made
made-elsewhere n t v [] none h = refl
made-elsewhere n t v (r ∷ l) (each k a) h = rw (ne_eqb r.sensor v (λ e. omega arith), and-false (eqb r.symbol t)) (omega (arith, made-elsewhere n t v l a h))

module _ (N : Network) (l : List Reading) (pick : ℕ → ℕ → ℕ) (in-net : N.sink < N.nodes) (to : (w : ℕ) → w < N.nodes → w ≢ N.sink → N.next w < N.nodes) where
  module _ (p : Frame → Bool) (same : (t : ℕ) (e : Exchange) → p (arrived t e) ≡ p e.frame) where
    -- in the queue of node v, and all together
    at : ℕ → ℕ → ℕ
    at v u = waits N l pick p v u + on_air N l pick p v u

    all : ℕ → ℕ
    all u = total (λ v. at v u) N.nodes + count p (run N l pick u).received

    -- nothing is in the sink's queue, and nothing leaves it
    none-there : (u : ℕ) → at N.sink u ≡ 0
    unfolding at waits on_air count
    none-there u = rw (sink-waiting N l pick u, sink-air N l pick u)

    none-leaves : (u : ℕ) → leave N l pick p N.sink u ≡ 0
    unfolding leave keep count
    none-leaves u = rw (sink-air N l pick u)

    -- the frames that leave a node come to one node
    goes_on : (w u : ℕ) → w < N.nodes → total (λ v. bit (feeds N w v) * leave N l pick p w u) N.nodes ≡ leave N l pick p w u
    unfolding feeds bit
    goes_on w u hw = by (eqb w N.sink) refl
      where
        k : ℕ
        k = leave N l pick p w u

        by : (b : Bool) → eqb w N.sink ≡ b → total (λ v. bit (not b && eqb (N.next w) v) * k) N.nodes ≡ k
        by true e =
            let nothing : k ≡ 0 = subst (λ (i : ℕ). leave N l pick p i u ≡ 0) (sym (eqb-true w N.sink e)) (none-leaves u) in
            total-ap (λ v. 0 * k) (λ v. 0) N.nodes (λ v h. omega arith) ∙ total-zero N.nodes ∙ sym nothing
        by false e =
            total-ap (λ v. bit (eqb (N.next w) v) * k) (λ v. bit (eqb v (N.next w)) * k) N.nodes (λ v h. ap (λ (b : Bool). bit b * k) (eqb-sym (N.next w) v))
            ∙ total-pick (λ v. k) (N.next w) N.nodes ∙ ap (λ (b : Bool). bit b * k) (lt-ltb (N.next w) N.nodes (to w hw (eqb-false w N.sink e))) ∙ omega arith

    -- one node in one symbol; what comes to the sink stays in no queue
    node-step : (v u : ℕ) → at v (suc u) + leave N l pick p v u + bit (eqb v N.sink) * come N l pick p v u ≡ at v u + come N l pick p v u
    unfolding bit at
    node-step v u = by (ℕ_discrete v N.sink)
      where
        by : Dec (v ≡ N.sink) → at v (suc u) + leave N l pick p v u + bit (eqb v N.sink) * come N l pick p v u ≡ at v u + come N l pick p v u
        by (no ns) = rw (ne_eqb v N.sink ns) (omega (arith, waits-step N l pick p v u ns, air-step N l pick p v u ns))
        by (yes e) = rw (e, eq-eqb N.sink N.sink refl) (omega (arith, none-there (suc u), none-there u, none-leaves u))

    -- all nodes in one symbol: the frames made are added, and nothing else
    step : (u : ℕ) → all (suc u) ≡ all u + total (λ v. bit (p (fresh u v)) * made l u v) N.nodes
    unfolding all total bit
    step u =
        let n : ℕ = N.nodes in
        let L : ℕ → ℕ = λ v. leave N l pick p v u in
        let C : ℕ → ℕ = λ v. come N l pick p v u in
        let K : ℕ → ℕ = λ v. bit (eqb v N.sink) * C v in
        let nodes : total (λ v. at v (suc u) + L v + K v) n ≡ total (λ v. at v u + C v) n
        = total-ap (λ v. at v (suc u) + L v + K v) (λ v. at v u + C v) n (λ v h. node-step v u) in
        let come : total C n ≡ total (λ v. total (λ w. bit (feeds N w v) * leave N l pick p w u) n) n + total (λ v. bit (p (fresh u v)) * made l u v) n
        = total-ap C (λ v. total (λ w. bit (feeds N w v) * leave N l pick p w u) n + bit (p (fresh u v)) * made l u v) n (λ v h. come-from N l pick p same v u)
        ∙ total-add (λ v. total (λ w. bit (feeds N w v) * leave N l pick p w u) n) (λ v. bit (p (fresh u v)) * made l u v) n in
        let on : total (λ v. total (λ w. bit (feeds N w v) * leave N l pick p w u) n) n ≡ total L n
        = total-swap (λ v w. bit (feeds N w v) * leave N l pick p w u) n n ∙ total-ap (λ w. total (λ v. bit (feeds N w v) * leave N l pick p w u) n) L n (λ w h. goes_on w u h) in
        let sink : total K n ≡ 1 * C N.sink = total-pick C N.sink n ∙ ap (λ (b : Bool). bit b * C N.sink) (lt-ltb N.sink n in-net) in
        omega (
          arith,
          total-add (λ v. at v (suc u) + L v) K n,
          total-add (λ v. at v (suc u)) L n,
          total-add (λ v. at v u) C n,
          received-all N l pick p u,
          received-all N l pick p (suc u),
        )

    all_none : all 0 ≡ 0
    unfolding all at waits on_air run count
    all_none = ap (λ (n : ℕ). n + 0) (total-zero N.nodes) ∙ omega arith

    all-present : (u : ℕ) → total (λ v. count p (queue (run N l pick u) v)) N.nodes + count p (run N l pick u).received ≡ all u
    unfolding all at waits on_air queue
    all-present u = ap (λ (n : ℕ). n + count p (run N l pick u).received)
        (total-ap (λ v. count p (queue (run N l pick u) v)) (λ v. at v u) N.nodes (λ v h.
        count-append p ((run N l pick u).waiting v) (map (λ e. e.frame) ((run N l pick u).air v))
        ∙ ap (λ (n : ℕ). waits N l pick p v u + n) (count_map p (λ (e : Exchange). e.frame) ((run N l pick u).air v))))

  -- in each symbol, of the frames of one sensor and one symbol, those that are made
  made-now : (o c u : ℕ) → All (λ r. r.sensor < N.nodes) l → total (λ v. bit (tagged o c (fresh u v)) * made l u v) N.nodes ≡ bit (eqb u c) * made l c o
  unfolding tagged fresh bit
  made-now o c u a = by (eqb u c) refl
    where
      there : bit (ltb o N.nodes) * made l u o ≡ made l u o
      there = side (dec_le (suc o) N.nodes)
        where
          side : Dec (o < N.nodes) → bit (ltb o N.nodes) * made l u o ≡ made l u o
          side (yes h) = rw (lt-ltb o N.nodes h) (omega arith)
          side (no h) = rw (le-ltb o N.nodes (omega arith), made-elsewhere N.nodes u o l a (omega arith)) (omega arith)

      by : (b : Bool) → eqb u c ≡ b → total (λ v. bit (eqb v o && b) * made l u v) N.nodes ≡ bit b * made l c o
      by true e = total-ap (λ v. bit (eqb v o && true) * made l u v) (λ v. bit (eqb v o) * made l u v) N.nodes (λ v i. ap (λ (b : Bool). bit b * made l u v) (and-true (eqb v o)))
          ∙ total-pick (made l u) o N.nodes ∙ there ∙ ap (λ (k : ℕ). made l k o) (eqb-true u c e) ∙ omega arith
      by false e = total-ap (λ v. bit (eqb v o && false) * made l u v) (λ v. 0) N.nodes (λ v i. ap (λ (b : Bool). bit b * made l u v) (and-false (eqb v o)) ∙ omega arith)
          ∙ total-zero N.nodes ∙ omega arith

  module _ (o c : ℕ) (a : All (λ r. r.sensor < N.nodes) l) where
    kept : (t : ℕ) (e : Exchange) → tagged o c (arrived t e) ≡ tagged o c e.frame
    unfolding tagged arrived
    kept t e = refl

    -- before symbol u there are exactly the frames that were made before it
    so_far : (u : ℕ) → all (tagged o c) kept u ≡ bit (ltb c u) * made l c o
    unfolding bit
    so_far zero = all_none (tagged o c) kept ∙ rw (le-ltb c 0 (omega arith)) (omega arith)
    so_far (suc u) = step (tagged o c) kept u ∙ ap₂ ◌+◌ (so_far u) (made-now o c u a) ∙ by (ℕ_discrete u c)
      where
        by : Dec (u ≡ c) → bit (ltb c u) * made l c o + bit (eqb u c) * made l c o ≡ bit (ltb c (suc u)) * made l c o
        by (yes e) = rw (le-ltb c u (omega arith), eq-eqb u c e, lt-ltb c (suc u) (omega arith)) (omega arith)
        by (no e) = rw (ne_eqb u c e) (other (dec_le u c))
          where
            other : Dec (u ≤ c) → bit (ltb c u) * made l c o + 0 * made l c o ≡ bit (ltb c (suc u)) * made l c o
            other (yes k) = rw (le-ltb c u k, le-ltb c (suc u) (omega (arith, e))) (omega arith)
            other (no k) = rw (lt-ltb c u (omega arith), lt-ltb c (suc u) (omega arith)) (omega arith)

    pub none-lost : (u : ℕ) → present N (run N l pick (suc u)) o c ≡ cond (leb c u) (made l c o) 0
    unfolding present bit
    none-lost u = all-present (tagged o c) kept (suc u) ∙ so_far (suc u) ∙ by (dec_le c u)
      where
        by : Dec (c ≤ u) → bit (ltb c (suc u)) * made l c o ≡ cond (leb c u) (made l c o) 0
        by (yes h) = rw (lt-ltb c (suc u) (omega arith), le-leb c u h) (omega arith)
        by (no h) = rw (le-ltb c (suc u) (omega arith), lt-leb c u (omega arith)) (omega arith)
