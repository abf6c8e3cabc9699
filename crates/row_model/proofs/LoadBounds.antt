-- The bound on every load of a sound row: a rate below 2^30 and a burst below 2^58. Assumes nothing.
use mathlib.Core.Path.{◌≡◌, ap, ◌∙◌, subst}
use Prim.Native.Nat.{ℕ, suc, ◌+◌, ◌-◌, ◌*◌, ◌^◌, ◌≤◌, ◌<◌}
use lib.Pow.{pow-add}
use native.Mathlib.Nat.{pow-zero, pow-suc, mul-le-mul, mul-le-mul_left, mul-le-mul_right}
use native.Mathlib.Omega.{arith}
use Rattle.network.specs.Counting.{total}
use Rattle.network.proofs.Sums.{total-le, total-mul, total-shift, total-ap}
use Rattle.links.specs.declared.Load.{Load}
use Rattle.links.specs.Link.{plus}
use Rattle.settings_model.specs.declared.Settings.{Settings}
use Rattle.row_model.specs.Loads.{sensor, left, near, above, upward, downward}
use Rattle.row_model.specs.Checks.{routers}
use Rattle.row_model.specs.Bounds.{Sound, Bounded}
use Rattle.plan_model.proofs.TimeLaws.{interval-low, exchange-low}
use Rattle.row_model.proofs.LoadLaws.{sensor-rate, sensor-burst, left-rate, left-bound, longest, upward-last}
use Rattle.row_model.proofs.Growth.{upward-rate, upward-burst, downward-load, Passing}
use Rattle.settings_model.specs.Checks.{radio_of}

-- the routers of a tree with n depths below its root, each with k child routers
abbrev pub full : ℕ → ℕ → ℕ
full k n = total (λ j. k ^ j) (suc n)

pub full-one : (k : ℕ) → full k 0 ≡ 1
unfolding total
full-one k = omega (arith, pow-zero k)

pub full-more : (k n : ℕ) → full k (suc n) ≡ 1 + k * full k n
full-more k n =
    let e : 1 + suc n ≡ suc (suc n) = omega arith in
    omega (arith, full-one k, ap (total (λ j. k ^ j)) e, total-shift (λ j. k ^ j) 1 (suc n), total-ap (λ i. k ^ (1 + i)) (λ i. k ^ i * k) (suc n) (λ i h. one_more i), total-mul (λ j. k ^ j) k (suc n))
  where
    one_more : (i : ℕ) → k ^ (1 + i) ≡ k ^ i * k
    one_more i = omega (arith, pow-add k 1 i, ap (λ (x : ℕ). x * k ^ i) (pow-suc k 0), ap (λ (x : ℕ). x * k * k ^ i) (pow-zero k))

module _ (s : Settings) where
  -- what one router adds: to the rate, and to the burst at each link
  abbrev adds : ℕ
  adds = (s.own + s.ne) * s.rate

  abbrev grows : ℕ
  grows = (s.own + s.ne) * ((sensor s).burst.0 + s.rate * longest s)

  near-rate : (near s).rate.0 ≤ adds
  unfolding near
  near-rate = omega (arith, ap (λ (n : ℕ). s.own * n) (sensor-rate s), ap (λ (n : ℕ). s.ne * n) (left-rate s (sensor s) ∙ sensor-rate s))

  near-burst : (near s).burst.0 ≤ grows
  unfolding near
  near-burst =
      let l : (left s (sensor s)).burst.0 ≤ (sensor s).burst.0 + s.rate * longest s = omega (arith, left-bound s (sensor s), ap (λ (n : ℕ). n * longest s) (sensor-rate s)) in
      omega (arith, mul-le-mul_left s.ne l)

  waits : adds * longest s ≤ grows
  waits = omega arith

  abbrev R : ℕ → ℕ
  R n = full s.nr n

  abbrev r : ℕ → ℕ
  r n = (above s n).rate.0

  abbrev b : ℕ → ℕ
  b n = (above s n).burst.0

  r-first : r 0 ≤ adds
  unfolding above
  r-first = near-rate

  r-next : (n : ℕ) → r (suc n) ≤ adds + s.nr * r n
  unfolding above
  r-next n = omega (arith, near-rate, ap (λ (x : ℕ). s.nr * x) (left-rate s (above s n)))

  b-first : b 0 ≤ grows
  unfolding above
  b-first = near-burst

  b-next : (n : ℕ) → b (suc n) ≤ grows + s.nr * (b n + r n * longest s)
  unfolding above
  b-next n = omega (arith, near-burst, mul-le-mul_left s.nr (left-bound s (above s n)))

  rate-above : (n : ℕ) → r n ≤ adds * R n
  rate-above = upward-rate s.nr R r b adds grows (longest s) (full-one s.nr) (full-more s.nr) r-first r-next b-first b-next waits

  burst-above : (n : ℕ) → b n ≤ (n + 1) * (grows * R n)
  burst-above = upward-burst s.nr R r b adds grows (longest s) (full-one s.nr) (full-more s.nr) r-first r-next b-first b-next waits

  -- a smaller tree has no more routers
  full-grows : (m n : ℕ) → m ≤ n → R m ≤ R n
  full-grows m n h = total-le (λ j. s.nr ^ j) (suc m) (suc n) (omega arith)

  -- what left a depth with n depths below it
  left-rate-above : (i n : ℕ) → s.h - i ≡ n → (left s (upward s i)).rate.0 ≡ r n
  unfolding upward
  left-rate-above i n e = rw e (left-rate s (above s n))

  left-burst-above : (i n : ℕ) → s.h - i ≡ n → (left s (upward s i)).burst.0 ≤ b n + r n * longest s
  unfolding upward
  left-burst-above i n e = rw e (left-bound s (above s n))

  module _ (j : ℕ) (path : s.nr ≡ suc j) where
    abbrev d : ℕ → ℕ
    d i = (downward s i).rate.0

    abbrev e : ℕ → ℕ
    e i = (downward s i).burst.0

    others : s.nr - 1 ≡ j
    others = omega arith

    d-first : (n : ℕ) → s.h ≡ suc n → d 0 ≤ adds + j * r n
    unfolding downward
    d-first n h = rw others (omega (arith, near-rate, ap (λ (x : ℕ). j * x) (left-rate-above 1 n (omega arith))))

    d-next : (i n : ℕ) → s.h ≡ suc (suc i + n) → d (suc i) ≤ adds + j * r n + d i
    unfolding downward
    d-next i n h = rw others (omega (arith, near-rate, left-rate s (downward s i), ap (λ (x : ℕ). j * x) (left-rate-above (suc (suc i)) n (omega arith))))

    e-first : (n : ℕ) → s.h ≡ suc n → e 0 ≤ grows + j * (b n + r n * longest s)
    unfolding downward
    e-first n h = rw others (omega (arith, near-burst, mul-le-mul_left j (left-burst-above 1 n (omega arith))))

    e-next : (i n : ℕ) → s.h ≡ suc (suc i + n) → e (suc i) ≤ grows + j * (b n + r n * longest s) + (e i + d i * longest s)
    unfolding downward
    e-next i n h = rw others (omega (arith, near-burst, left-bound s (downward s i), mul-le-mul_left j (left-burst-above (suc (suc i)) n (omega arith))))

    passes : (i n : ℕ) → s.h ≡ suc (i + n) → Passing s.nr R r b adds grows (longest s) (full-one s.nr) (full-more s.nr) r-first r-next b-first b-next waits j s.h path d e d-first d-next e-first e-next i n
    passes = downward-load s.nr R r b adds grows (longest s) (full-one s.nr) (full-more s.nr) r-first r-next b-first b-next waits j s.h path d e d-first d-next e-first e-next

-- two bursts over P links, of m and of n routers
together : (P g m n t x y : ℕ) → m + n ≡ t → x ≤ P * (g * n) → y ≤ P * (g * m) → x + y ≤ P * (g * t)
together P g m n t x y e h k = omega (arith, ap (λ (z : ℕ). P * (g * z)) e)

module _ (s : Settings) (S : Sound s) where
  sensors-few : s.own + s.ne ≤ 8
  sensors-few = omega (arith, S.checked.own, S.checked.ne)

  adds-most : adds s ≤ 8 * 4095
  adds-most = mul-le-mul sensors-few S.checked.rate.1

  grows-most : grows s ≤ 8 * (255 * 15728640 + 4095 * 15734360)
  grows-most =
      let w : longest s ≤ 15734360 = omega (arith, interval-low (radio_of s) S.checked.radio, exchange-low (radio_of s) S.checked.radio) in
      let β : (sensor s).burst.0 ≤ 255 * 15728640 = omega (arith, sensor-burst s, mul-le-mul S.checked.burst.1 (interval-low (radio_of s) S.checked.radio)) in
      let x : (sensor s).burst.0 + s.rate * longest s ≤ 255 * 15728640 + 4095 * 15734360 = omega (arith, mul-le-mul S.checked.rate.1 w) in
      mul-le-mul sensors-few x

  few : R s s.h ≤ 16384
  unfolding routers
  few = S.few

  -- a rate of n routers' sensors, and a burst of n routers' that went over P links
  rate-fits : (ρ n : ℕ) → ρ ≤ adds s * n → n ≤ R s s.h → ρ < 2 ^ 30
  rate-fits ρ n h k =
      let q : n ≤ 16384 = omega (arith, few) in
      omega (arith, mul-le-mul adds-most q)

  burst-fits : (β P n : ℕ) → β ≤ P * (grows s * n) → P ≤ 26 → n ≤ R s s.h → β < 2 ^ 58
  burst-fits β P n h p k =
      let q : n ≤ 16384 = omega (arith, few) in
      omega (arith, mul-le-mul p (mul-le-mul grows-most q))

  -- every upward load
  pub upward-bounded : (i : ℕ) → Bounded (upward s i)
  unfolding upward
  upward-bounded i =
      let n : ℕ = s.h - i in
      let k : R s n ≤ R s s.h = full-grows s n s.h (omega arith) in
      record {
        rate = rate-fits _ (R s n) (rate-above s n) k;
        burst = burst-fits _ (n + 1) (R s n) (burst-above s n) (omega (arith, S.checked.h)) k;
      }

  -- what one more link leaves of a load of n routers that went over P links
  left-fits : (a : Load) (P n : ℕ) → a.rate.0 ≤ adds s * n → a.burst.0 ≤ P * (grows s * n) → (left s a).burst.0 ≤ (P + 1) * (grows s * n)
  left-fits a P n h k = omega (arith, left-bound s a, mul-le-mul_right (longest s) h, mul-le-mul_right n (waits s))

  -- what an upward load leaves behind its link
  pub upward-left-bounded : (i : ℕ) → Bounded (left s (upward s i))
  unfolding upward
  upward-left-bounded i =
      let n : ℕ = s.h - i in
      let k : R s n ≤ R s s.h = full-grows s n s.h (omega arith) in
      record {
        rate = omega (arith, left-rate s (above s n), rate-fits _ (R s n) (rate-above s n) k);
        burst = burst-fits _ (n + 1 + 1) (R s n) (left-fits (above s n) (n + 1) (R s n) (rate-above s n) (burst-above s n)) (omega (arith, S.checked.h)) k;
      }

  -- a sensor's load, and what it leaves behind an end node's link
  pub sensor-bounded : Bounded (sensor s)
  sensor-bounded = record {
    rate = omega (arith, sensor-rate s, S.checked.rate.1);
    burst = omega (arith, sensor-burst s, mul-le-mul S.checked.burst.1 (interval-low (radio_of s) S.checked.radio));
  }

  pub sensor-left-bounded : Bounded (left s (sensor s))
  sensor-left-bounded =
      let w : longest s ≤ 15734360 = omega (arith, interval-low (radio_of s) S.checked.radio, exchange-low (radio_of s) S.checked.radio) in
      let ρ : (sensor s).rate.0 ≤ 4095 = omega (arith, sensor-rate s, S.checked.rate.1) in
      record {
        rate = omega (arith, left-rate s (sensor s));
        burst = omega (arith, left-bound s (sensor s), sensor-burst s, mul-le-mul S.checked.burst.1 (interval-low (radio_of s) S.checked.radio), mul-le-mul ρ w);
      }

  -- what enters every router
  pub near-bounded : Bounded (near s)
  near-bounded = subst Bounded (upward-last s s.h (omega arith)) (upward-bounded s.h)

  module _ (i : ℕ) (on_path : i < s.sink) where
    -- a router on the sink's path has a child router towards the sink
    record Shape : Type 0 where
      j : ℕ
      n : ℕ
      path : s.nr ≡ suc j
      deep : s.h ≡ suc (i + n)

    shape : Shape
    shape =
        let two : 2 ≤ s.nr = S.checked.sink_branches (omega arith) in
        record { j = s.nr - 1; n = s.h - suc i; path = omega arith; deep = omega (arith, S.checked.sink_depth) }

    -- every downward load
    pub downward-bounded : Bounded (downward s i)
    downward-bounded =
        let p = passes s shape.j shape.path i shape.n shape.deep in
        let k : p.count ≤ R s s.h = omega (arith, p.rest) in
        record {
          rate = rate-fits _ p.count p.rate k;
          burst = burst-fits _ (s.h + 1 + i) p.count p.burst (omega (arith, S.checked.h, S.checked.sink_depth)) k;
        }

    -- and what it leaves behind its link
    pub downward-left-bounded : Bounded (left s (downward s i))
    downward-left-bounded =
        let p = passes s shape.j shape.path i shape.n shape.deep in
        let k : p.count ≤ R s s.h = omega (arith, p.rest) in
        record {
          rate = omega (arith, left-rate s (downward s i), rate-fits _ p.count p.rate k);
          burst = burst-fits _ (s.h + 1 + i + 1) p.count (left-fits (downward s i) (s.h + 1 + i) p.count p.rate p.burst) (omega (arith, S.checked.h, S.checked.sink_depth)) k;
        }

    -- the load of a sink below the root
    pub sink-below-bounded : Bounded (plus (upward s (suc i)) (left s (downward s i)))
    unfolding upward
    sink-below-bounded =
        let p = passes s shape.j shape.path i shape.n shape.deep in
        let e : s.h - suc i ≡ shape.n = omega (arith, shape.deep) in
        let P : ℕ = s.h + 1 + i + 1 in
        let q : shape.n + 1 ≤ P = omega (arith, shape.deep) in
        let u : (above s (s.h - suc i)).burst.0 ≤ P * (grows s * R s shape.n) = rw e (omega (arith, burst-above s shape.n, mul-le-mul_right (grows s * R s shape.n) q)) in
        record {
          rate = rate-fits _ (R s s.h) (rw e (omega (arith, rate-above s shape.n, left-rate s (downward s i), p.rate, ap (λ (x : ℕ). adds s * x) p.rest))) (omega arith);
          burst = burst-fits _ P (R s s.h) (together P (grows s) p.count (R s shape.n) (R s s.h) _ _ p.rest u (left-fits (downward s i) (s.h + 1 + i) p.count p.rate p.burst)) (omega (arith, S.checked.h, S.checked.sink_depth)) (omega arith);
        }
