-- The frames at one node, counted: what came is what waits, what is on the air and what left; and what comes is what left its neighbours
-- and what it makes. Assumes nothing.
use mathlib.Core.Path.{◌≡◌, refl, sym, ap, ◌∙◌}
use mathlib.Core.Logic.{◌≢◌}
use mathlib.Core.Bool.{Bool, true, false, cond, not, ◌&&◌, and-false}
use mathlib.Core.List.{List, [], ◌++◌, map}
use Prim.Native.Nat.{ℕ, zero, suc, ◌+◌, ◌*◌, ◌-◌, ◌≤◌, ◌<◌, min}
use native.Mathlib.Nat.{le_refl, zero-sub}
use native.Mathlib.Decide.{le_ind, dec_le}
use native.Mathlib.Omega.{arith}
use lib.Dec.{eqb, ltb}
use lib.ListN.{replicate}
use borrow.Author.Tests.{eqb-true, eq-eqb, ne_eqb}
use Rattle.network.specs.Counting.{total, bit, count, keep, join}
use Rattle.network.specs.Model.{Network, Frame, Exchange, State}
use Rattle.network.specs.Readings.{Reading, made}
use Rattle.network.specs.Run.{feeds, ends, arrived, arrivals, fresh}
use Rattle.network.specs.Oracle.{is_start, begun, run}
use Rattle.network.proofs.Sums.{total-ap, total-add, total-zero, total-cut}
use Rattle.network.proofs.Answers.{eqb-add}
use Rattle.network.proofs.Lists.{count-append, count_none, count_map, count-keep-split, count-keep, count-join, count_same, count-replicate, count-ap, count-all, All-imp, All-keep, All-true}
use Rattle.network.proofs.Serving.{came_before, serve-count, serve-follows}
use Rattle.network.proofs.Pace.{starts}
use Rattle.network.proofs.Steps.{comes, comes-now, turn, next-waiting, next-air, next-received, Orderly, orderly}

-- every frame
unfoldable pub any : Frame → Bool
any f = true

module _ (N : Network) (l : List Reading) (pick : ℕ → ℕ → ℕ) where
  -- Of the frames that pass a test, at node v: those that wait and those on the air before symbol u; in symbol u, those that come,
  -- those that are sent, and those whose exchange ends.
  unfoldable pub waits : (Frame → Bool) → ℕ → ℕ → ℕ
  waits p v u = count p ((run N l pick u).waiting v)

  unfoldable pub on_air : (Frame → Bool) → ℕ → ℕ → ℕ
  on_air p v u = count (λ e. p e.frame) ((run N l pick u).air v)

  unfoldable pub come : (Frame → Bool) → ℕ → ℕ → ℕ
  come p v u = count p (comes N l u v (run N l pick u))

  unfoldable pub go : (Frame → Bool) → ℕ → ℕ → ℕ
  go p v u = count p (turn N l pick v u).sent

  unfoldable pub leave : (Frame → Bool) → ℕ → ℕ → ℕ
  leave p v u = count (λ e. p e.frame) (keep (ends N u) ((run N l pick u).air v))

  -- all that came to node v, and all that left it, before symbol u
  unfoldable pub came : ℕ → ℕ → ℕ
  came v u = total (come any v) u

  unfoldable pub gone : ℕ → ℕ → ℕ
  gone v u = total (leave any v) u

  -- ---- one symbol

  pub waits-step : (p : Frame → Bool) (v u : ℕ) → v ≢ N.sink → waits p v (suc u) + go p v u ≡ waits p v u + come p v u
  unfolding waits come go turn
  waits-step p v u ns = omega (
    arith,
    ap (count p) (next-waiting N l pick v u ns),
    serve-count p (is_start N v u) (pick u v) u ((run N l pick u).waiting v ++ comes N l u v (run N l pick u)),
    count-append p ((run N l pick u).waiting v) (comes N l u v (run N l pick u)),
  )

  pub air-step : (p : Frame → Bool) (v u : ℕ) → v ≢ N.sink → on_air p v (suc u) + leave p v u ≡ on_air p v u + go p v u
  unfolding on_air leave go begun
  air-step p v u ns = omega (
    arith,
    ap (count (λ e. p e.frame)) (next-air N l pick v u ns),
    count-append (λ e. p e.frame) (keep (λ e. not (ends N u e)) ((run N l pick u).air v)) (map (begun u) (turn N l pick v u).sent),
    count_map (λ e. p e.frame) (begun u) (turn N l pick v u).sent,
    count-keep-split (λ e. p e.frame) (ends N u) ((run N l pick u).air v),
  )

  -- of the waiting frames that came before symbol c each start takes one, where there is one
  pub waits-follow : (c v u : ℕ) → v ≢ N.sink → waits (came_before c) v (suc u) ≡ (waits (came_before c) v u - starts N v u) + come (came_before c) v u
  unfolding waits come turn starts
  waits-follow c v u ns =
      let o : Orderly N l pick v u = orderly N l pick v u ns in
      ap (count (came_before c)) (next-waiting N l pick v u ns)
      ∙ serve-follows c (is_start N v u) (pick u v) u ((run N l pick u).waiting v) (comes N l u v (run N l pick u)) o.ordered o.earlier (comes-now N l u v (run N l pick u))

  -- ---- what is sent in symbol i leaves in symbol i + X, and nothing else leaves then

  -- of the exchanges on the air before symbol u, those that started in symbol i
  unfoldable pub since : (Frame → Bool) → ℕ → ℕ → ℕ → ℕ
  since p v i u = count (λ e. eqb e.started i && p e.frame) ((run N l pick u).air v)

  since-new : (p : Frame → Bool) (v i : ℕ) → v ≢ N.sink → since p v i (suc i) ≡ go p v i
  unfolding since go begun
  since-new p v i ns =
      let s : State = run N l pick i in
      let sent : List Frame = (turn N l pick v i).sent in
      omega (
        arith,
        ap (count (λ e. eqb e.started i && p e.frame)) (next-air N l pick v i ns),
        count-append (λ e. eqb e.started i && p e.frame) (keep (λ e. not (ends N i e)) (s.air v)) (map (begun i) sent),
        count_none (λ e. eqb e.started i && p e.frame) (keep (λ e. not (ends N i e)) (s.air v))
            (All-imp (λ e h. rw (ne_eqb e.started i (λ d. omega (arith, h.0)))) (All-keep (λ e. not (ends N i e)) (orderly N l pick v i ns).started)),
        count_map (λ e. eqb e.started i && p e.frame) (begun i) sent,
        count-ap (λ f. eqb i i && p f) p sent (All-true (λ f. rw (eq-eqb i i refl)) sent),
      )

  since-on : (p : Frame → Bool) (v i u : ℕ) → v ≢ N.sink → i < u → u < i + N.exchange → since p v i (suc u) ≡ since p v i u
  unfolding since begun ends
  since-on p v i u ns h k =
      let s : State = run N l pick u in
      let sent : List Frame = (turn N l pick v u).sent in
      omega (
        arith,
        ap (count (λ e. eqb e.started i && p e.frame)) (next-air N l pick v u ns),
        count-append (λ e. eqb e.started i && p e.frame) (keep (λ e. not (ends N u e)) (s.air v)) (map (begun u) sent),
        count-keep (λ e. eqb e.started i && p e.frame) (λ e. not (ends N u e)) (s.air v),
        count-ap (λ e. not (ends N u e) && (eqb e.started i && p e.frame)) (λ e. eqb e.started i && p e.frame) (s.air v) (All-true (λ e. by e (eqb e.started i) refl) (s.air v)),
        count_map (λ e. eqb e.started i && p e.frame) (begun u) sent,
        count_none (λ f. eqb u i && p f) sent (All-true (λ f. rw (ne_eqb u i (λ e. omega arith))) sent),
      )
    where
      by : (e : Exchange) (b : Bool) → eqb e.started i ≡ b → not (ends N u e) && (b && p e.frame) ≡ b && p e.frame
      by e true q = rw (ne_eqb (e.started + N.exchange) u (λ d. omega (arith, eqb-true e.started i q)))
      by e false q = and-false (not (ends N u e))

  since-till : (p : Frame → Bool) (v i u : ℕ) → v ≢ N.sink → suc i ≤ u → u ≤ i + N.exchange → since p v i u ≡ go p v i
  since-till p v i u ns h = le_ind (λ (m : ℕ). m ≤ i + N.exchange → since p v i m ≡ go p v i) (λ k. since-new p v i ns) (λ m k e d. since-on p v i m ns k d ∙ e (omega arith)) u h

  leave-late : (p : Frame → Bool) (v i : ℕ) → v ≢ N.sink → 0 < N.exchange → leave p v (i + N.exchange) ≡ go p v i
  unfolding leave since ends
  leave-late p v i ns x =
      let q : List Exchange = (run N l pick (i + N.exchange)).air v in
      count-keep (λ e. p e.frame) (λ e. eqb (e.started + N.exchange) (i + N.exchange)) q
      ∙ count-ap (λ e. eqb (e.started + N.exchange) (i + N.exchange) && p e.frame) (λ e. eqb e.started i && p e.frame) q (All-true (λ e. rw (eqb-add e.started i N.exchange)) q)
      ∙ since-till p v i (i + N.exchange) ns (omega arith) (le_refl (i + N.exchange))

  leave_none : (p : Frame → Bool) (v u : ℕ) → u < N.exchange → leave p v u ≡ 0
  unfolding leave ends
  leave_none p v u h =
      let q : List Exchange = (run N l pick u).air v in
      count-keep (λ e. p e.frame) (λ e. eqb (e.started + N.exchange) u) q
      ∙ count_none (λ e. eqb (e.started + N.exchange) u && p e.frame) q (All-true (λ e. rw (ne_eqb (e.started + N.exchange) u (λ d. omega arith))) q)

  -- those that left node v before symbol u were sent before symbol u − X
  pub left : (p : Frame → Bool) (v u : ℕ) → v ≢ N.sink → 0 < N.exchange → total (leave p v) u ≡ total (go p v) (u - N.exchange)
  unfolding total
  left p v zero ns x = rw (zero-sub N.exchange)
  left p v (suc u) ns x = by (dec_le N.exchange u) (left p v u ns x)
    where
      by : Dec (N.exchange ≤ u) → total (leave p v) u ≡ total (go p v) (u - N.exchange) → total (leave p v) u + leave p v u ≡ total (go p v) (suc u - N.exchange)
      by (yes h) e =
          let i : ℕ = u - N.exchange in
          let at : i + N.exchange ≡ u = omega arith in
          let now : leave p v u ≡ go p v i = rw at at (leave-late p v i ns x) in
          let next : suc u - N.exchange ≡ suc i = omega arith in
          rw next (omega arith)
      by (no h) e =
          let here : u - N.exchange ≡ 0 = omega arith in
          let next : suc u - N.exchange ≡ 0 = omega arith in
          let e' : total (leave p v) u ≡ 0 = rw here at e in
          rw next (omega (arith, leave_none p v u (omega arith)))

  -- ---- sums over the symbols before u

  pub waits-total : (p : Frame → Bool) (v u : ℕ) → v ≢ N.sink → waits p v u + total (go p v) u ≡ total (come p v) u
  unfolding total waits run count
  waits-total p v zero ns = refl
  waits-total p v (suc u) ns = omega (arith, waits-step p v u ns, waits-total p v u ns)

  pub air-total : (p : Frame → Bool) (v u : ℕ) → v ≢ N.sink → on_air p v u + total (leave p v) u ≡ total (go p v) u
  unfolding total on_air run count
  air-total p v zero ns = refl
  air-total p v (suc u) ns = omega (arith, air-step p v u ns, air-total p v u ns)

  -- those that came before symbol c are all that came as far as c
  pub come-total : (c v u : ℕ) → total (come (came_before c) v) u ≡ came v (min u c)
  unfolding come came_before came any
  come-total c v u = total-ap (come (came_before c) v) (λ i. bit (ltb i c) * come any v i) u (λ i h. cut i) ∙ total-cut (come any v) c u
    where
      cut : (i : ℕ) → count (came_before c) (comes N l i v (run N l pick i)) ≡ bit (ltb i c) * count any (comes N l i v (run N l pick i))
      cut i = let q : List Frame = comes N l i v (run N l pick i) in
          count_same (came_before c) (ltb i c) q (All-imp (λ f e. ap (λ (k : ℕ). ltb k c) e) (comes-now N l i v (run N l pick i)))
          ∙ ap (λ (k : ℕ). bit (ltb i c) * k) (sym (count-all any q (All-true (λ f. refl) q)))

  -- ---- what comes to a node: its own sensor's frames, and what left its neighbours

  pub come-from : (p : Frame → Bool) → ((t : ℕ) (e : Exchange) → p (arrived t e) ≡ p e.frame)
      → (v u : ℕ) → come p v u ≡ total (λ w. bit (feeds N w v) * leave p w u) N.nodes + bit (p (fresh u v)) * made l u v
  unfolding come comes arrivals leave bit count
  come-from p same v u =
      let s : State = run N l pick u in
      omega (
        arith,
        count-append p (join N.nodes (λ w. cond (feeds N w v) (map (arrived u) (keep (ends N u) (s.air w))) [])) (replicate (made l u v) (fresh u v)),
        count-join p N.nodes (λ w. cond (feeds N w v) (map (arrived u) (keep (ends N u) (s.air w))) []),
        total-ap (λ w. count p (cond (feeds N w v) (map (arrived u) (keep (ends N u) (s.air w))) []))
            (λ w. bit (feeds N w v) * count (λ e. p e.frame) (keep (ends N u) (s.air w))) N.nodes (λ w h. by (feeds N w v) (keep (ends N u) (s.air w))),
        count-replicate p (made l u v) (fresh u v),
      )
    where
      by : (b : Bool) (q : List Exchange) → count p (cond b (map (arrived u) q) []) ≡ bit b * count (λ e. p e.frame) q
      by true q = omega (arith, count_map p (arrived u) q, count-ap (λ e. p (arrived u e)) (λ e. p e.frame) q (All-true (same u) q))
      by false q = omega arith

  -- all that came to node v before symbol u
  pub came_from : (v u : ℕ) → came v u ≡ total (λ w. bit (feeds N w v) * gone w u) N.nodes + total (λ i. made l i v) u
  unfolding came gone total any bit
  came_from v zero = omega (arith, total-ap (λ w. bit (feeds N w v) * 0) (λ w. 0) N.nodes (λ w h. omega arith), total-zero N.nodes)
  came_from v (suc u) = omega (
    arith,
    came_from v u,
    come-from any (λ t e. refl) v u,
    total-add (λ w. bit (feeds N w v) * total (leave any w) u) (λ w. bit (feeds N w v) * leave any w u) N.nodes,
    total-ap (λ w. bit (feeds N w v) * (total (leave any w) u + leave any w u)) (λ w. bit (feeds N w v) * total (leave any w) u + bit (feeds N w v) * leave any w u) N.nodes (λ w h. omega arith),
  )

  -- what the sink received is what came to it
  pub received-all : (p : Frame → Bool) (u : ℕ) → count p (run N l pick u).received ≡ total (come p N.sink) u
  unfolding come total run count
  received-all p zero = refl
  received-all p (suc u) = omega (arith, ap (count p) (next-received N l pick u), count-append p (run N l pick u).received (comes N l u N.sink (run N l pick u)), received-all p u)
