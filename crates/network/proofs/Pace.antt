-- How many starts a link has in any stretch of symbols: what document 01's latency is for. Assumes nothing.
use mathlib.Core.Path.{◌≡◌, refl, sym, ap, subst}
use mathlib.Core.Logic.{◌≢◌}
use mathlib.Core.Bool.{Bool, true, false, ◌||◌}
use Prim.Native.Nat.{ℕ, zero, suc, ◌+◌, ◌*◌, ◌-◌, ◌/◌, ◌%◌, ◌≤◌, ◌<◌}
use native.Mathlib.Nat.{le_refl, mul-le-mul_left, mul-le-mul_right, div-add-mod', mod-lt, suc-mul, zero-mul}
use native.Mathlib.Decide.{dec_le}
use native.Mathlib.Omega.{arith}
use lib.Dec.{eqb, ltb}
use lib.Arith.{digits_mod}
use borrow.Author.Tests.{ltb-true, ltb-false, eqb-true, eqb-false, lt-ltb, le-ltb, ne_eqb}
use Rattle.network.specs.Counting.{total, bit, some_below}
use Rattle.network.specs.Model.{Network}
use Rattle.network.specs.Oracle.{is_start}
use Rattle.network.specs.Loads.{Flows, Linked, Provisioned}
use Rattle.network.proofs.Sums.{total-ap, total-shift, total-zero}
use Rattle.network.proofs.StartTest.{below-ap, later-mod}

-- A window at offset a of every interval, m exchanges of X symbols. Does one of them start in symbol i of the interval?
hit : ℕ → ℕ → ℕ → ℕ → Bool
hit a X m i = some_below m (λ j. eqb i (a + j * X))

-- how many start among the first p symbols of the interval
early : ℕ → ℕ → ℕ → ℕ → ℕ
early a X m p = total (λ i. bit (hit a X m i)) p

-- how many start in symbol t of the run, with intervals of BI symbols
each : ℕ → ℕ → ℕ → ℕ → ℕ → ℕ
each a X m BI t = bit (hit a X m (t % BI))

module _ (a X : ℕ) (pos : 0 < X) where
  -- Among the first p symbols of an interval k of the first m starts lie.
  record Spot (m p k : ℕ) : Type 0 where
    few : k ≤ m
    next : k < m → p ≤ a + k * X
    last : 0 < k → a + k * X < p + X

  -- no two start in one symbol
  miss : (m c : ℕ) → m ≤ c → hit a X m (a + c * X) ≡ false
  unfolding hit some_below
  miss zero c h = refl
  miss (suc m) c h = rw (ne_eqb (a + c * X) (a + m * X) (λ e. omega (arith, mul-le-mul_right X h, e))) (miss m c (omega arith))

  -- one more exchange, and the number of starts among the first p symbols
  more : (m p : ℕ) → total (λ i. bit (hit a X (suc m) i)) p ≡ total (λ i. bit (hit a X m i)) p + bit (ltb (a + m * X) p)
  unfolding total bit hit some_below
  more m zero = rw (le-ltb (a + m * X) 0 (omega arith))
  more m (suc p) = by (eqb p (a + m * X)) refl (more m p)
    where
      by : (b : Bool) → eqb p (a + m * X) ≡ b → total (λ i. bit (hit a X (suc m) i)) p ≡ total (λ i. bit (hit a X m i)) p + bit (ltb (a + m * X) p)
          → total (λ i. bit (hit a X (suc m) i)) p + bit (b || hit a X m p) ≡ total (λ i. bit (hit a X m i)) p + bit (hit a X m p) + bit (ltb (a + m * X) (suc p))
      by true e h =
          let q : p ≡ a + m * X = eqb-true p (a + m * X) e in
          let h' = rw (le-ltb (a + m * X) p (omega arith)) at h in
          rw (lt-ltb (a + m * X) (suc p) (omega arith), subst (λ (n : ℕ). hit a X m n ≡ false) (sym q) (miss m m (le_refl m))) (omega arith)
      by false e h = side (dec_le (suc (a + m * X)) p)
        where
          ne : p ≢ a + m * X
          ne = eqb-false p (a + m * X) e

          side : Dec (a + m * X < p) → total (λ i. bit (hit a X (suc m) i)) p + bit (hit a X m p) ≡ total (λ i. bit (hit a X m i)) p + bit (hit a X m p) + bit (ltb (a + m * X) (suc p))
          side (yes k) =
              let h' = rw (lt-ltb (a + m * X) p k) at h in
              rw (lt-ltb (a + m * X) (suc p) (omega arith)) (omega arith)
          side (no k) =
              let h' = rw (le-ltb (a + m * X) p (omega arith)) at h in
              rw (le-ltb (a + m * X) (suc p) (omega (arith, ne))) (omega arith)

  spot : (m p : ℕ) → Spot m p (total (λ i. bit (hit a X m i)) p)
  unfolding hit some_below bit
  spot zero p = rw (total-zero p) (record { few = le_refl 0; next = λ h. absurd (omega arith); last = λ h. absurd (omega arith) })
  spot (suc m) p = rw (more m p) (by (ltb (a + m * X) p) refl (spot m p))
    where
      k : ℕ
      k = total (λ i. bit (hit a X m i)) p

      by : (b : Bool) → ltb (a + m * X) p ≡ b → Spot m p k → Spot (suc m) p (k + bit b)
      by true e S = side (dec_le m k)
        where
          lt : a + m * X < p
          lt = ltb-true (a + m * X) p e

          side : Dec (m ≤ k) → Spot (suc m) p (k + 1)
          side (yes h) =
              let q : k + 1 ≡ suc m = omega (arith, S.few) in
              rw q (record { few = le_refl (suc m); next = λ h. absurd (omega arith); last = λ h. omega (arith, lt) })
          side (no h) = absurd (omega (arith, lt, S.next (omega arith), mul-le-mul_right X le))
            where
              le : k ≤ m
              le = S.few
      by false e S =
          let q : k + 0 ≡ k = omega arith in
          let le : p ≤ a + m * X = ltb-false (a + m * X) p e in
          rw q (record { few = omega (arith, S.few); next = λ h. side (dec_le m k) le; last = S.last })
        where
          side : Dec (m ≤ k) → p ≤ a + m * X → p ≤ a + k * X
          side (yes h) le = omega (arith, mul-le-mul_right X h)
          side (no h) le = S.next (omega arith)

  -- ---- one interval of BI symbols, with m starts in it

  module _ (m BI : ℕ) (fits : a + m * X ≤ BI) where
    whole : early a X m BI ≡ m
    unfolding early
    whole = by (dec_le m (early a X m BI)) (spot m BI)
      where
        by : Dec (m ≤ early a X m BI) → Spot m BI (early a X m BI) → early a X m BI ≡ m
        by (yes h) S = omega (arith, S.few)
        by (no h) S =
            let lt : suc (early a X m BI) ≤ m = omega arith in
            absurd (omega (arith, S.next lt, mul-le-mul_right X lt))

    lower : (p : ℕ) → p ≤ BI → m * p ≤ early a X m p * BI + m * a
    unfolding early
    lower p h = by (dec_le m (early a X m p)) (spot m p)
      where
        by : Dec (m ≤ early a X m p) → Spot m p (early a X m p) → m * p ≤ early a X m p * BI + m * a
        by (yes k) S = omega (arith, mul-le-mul_right BI k, mul-le-mul_left m h)
        by (no k) S =
            let room : m * X ≤ BI = omega arith in
            omega (arith, mul-le-mul_left m (S.next (omega arith)), mul-le-mul_left (early a X m p) room)

    upper : (p : ℕ) → early a X m p * BI + m * a + m * m * X + m ≤ m * BI + m * p + m * X
    unfolding early
    upper p = by (early a X m p) (spot m p)
      where
        by : (k : ℕ) → Spot m p k → k * BI + m * a + m * m * X + m ≤ m * BI + m * p + m * X
        by zero S = omega (arith, mul-le-mul_left m fits, mul-le-mul_left m pos)
        by (suc k) S =
            let e : ℕ = m - suc k in
            let room : m * X ≤ BI = omega arith in
            let q : m ≡ suc k + e = omega (arith, S.few) in
            omega (arith, mul-le-mul_left m (S.last (omega arith)), mul-le-mul_left e room, ap (λ (n : ℕ). n * BI) q, ap (λ (n : ℕ). n * (m * X)) q)

    -- ---- all intervals
    module _ (some : 0 < BI) where
      inside : (c p : ℕ) → p ≤ BI → total (λ i. each a X m BI (c * BI + i)) p ≡ early a X m p
      unfolding each early
      inside c p h = total-ap (λ i. bit (hit a X m ((c * BI + i) % BI))) (λ i. bit (hit a X m i)) p (λ i k. ap (λ (n : ℕ). bit (hit a X m n)) (digits_mod c {m = BI} {r = i} (omega arith)))

      blocks : (c : ℕ) → total (each a X m BI) (c * BI) ≡ c * m
      unfolding total
      blocks zero = rw (zero-mul BI, zero-mul m)
      blocks (suc c) = rw (suc-mul c BI) (omega (arith, total-shift (each a X m BI) (c * BI) BI, inside c BI (le_refl BI), whole, blocks c))

      all : (t : ℕ) → total (each a X m BI) t ≡ t / BI * m + early a X m (t % BI)
      all t = rw (div-add-mod' t BI) at (by (t / BI) (t % BI) (omega (arith, mod-lt t some)))
        where
          by : (c p : ℕ) → p ≤ BI → total (each a X m BI) (c * BI + p) ≡ c * m + early a X m p
          by c p h = omega (arith, total-shift (each a X m BI) (c * BI) p, inside c p h, blocks c)

      even : (T s z : ℕ) → T + m * X ≡ BI + 2 * X → m * (z + 1 + X) + total (each a X m BI) s * BI ≤ m * s + m * T + total (each a X m BI) z * BI
      even T s z e = rw (all s, all z) (omega (
        arith,
        lower (z % BI) (omega (arith, mod-lt z some)),
        upper (s % BI),
        ap (λ (n : ℕ). m * n) e,
        ap (λ (n : ℕ). m * n) (div-add-mod' s BI),
        ap (λ (n : ℕ). m * n) (div-add-mod' z BI),
      ))

-- 1 in a symbol in which the link of node v has a start, else 0
unfoldable pub starts : Network → ℕ → ℕ → ℕ
starts N v t = bit (is_start N v t)

-- From symbol s to symbol z the link has at least m × (z + 1 + X − s − T) / BI starts.
pub pace : (N : Network) (F : Flows) → Provisioned N F → (v s z : ℕ) → Linked N v
    → N.holds v * (z + 1 + N.exchange) + total (starts N v) s * N.interval ≤ N.holds v * s + N.holds v * F.latency v + total (starts N v) z * N.interval
unfolding starts is_start each hit
pace N F P v s z L = rw (same s, same z) (even a X P.exchange_positive m B fits P.interval_positive (F.latency v) s z (omega (arith, P.latency_is v L)))
  where
    a : ℕ
    a = N.offset v

    X : ℕ
    X = N.exchange

    m : ℕ
    m = N.holds v

    B : ℕ
    B = N.interval

    fits : a + m * X ≤ B
    fits = omega (arith, P.window_fits v L)

    inside : (j : ℕ) → j < m → a + j * X < B
    inside j h = omega (arith, fits, mul-le-mul_right X h, P.exchange_positive)

    same : (u : ℕ) → total (starts N v) u ≡ total (each a X m B) u
    same u = total-ap (starts N v) (each a X m B) u (λ i h. rw (ne_eqb v N.sink L.not_sink) (ap bit (below-ap m _ _ (λ j k. later-mod B (a + j * X) i (inside j k)))))
