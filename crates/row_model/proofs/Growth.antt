-- How rates and bursts grow from the deepest routers to the sink, as a fact about numbers: each router adds at most a to the rate, and at
-- most c to the burst at each link on the way. Assumes nothing.
use mathlib.Core.Path.{◌≡◌, ap}
use Prim.Native.Nat.{ℕ, zero, suc, ◌+◌, ◌*◌, ◌≤◌}
use native.Mathlib.Nat.{mul-le-mul_left, mul-le-mul_right}
use native.Mathlib.Omega.{arith}

-- k: child routers of each; R n: the routers of a tree with n depths below its root; r n and b n: rate and burst that enter its root; a
-- and c: what one router adds; w: the latency of a link, at most.
module _ (k : ℕ) (R r b : ℕ → ℕ) (a c w : ℕ)
    (one : R 0 ≡ 1) (more : (n : ℕ) → R (suc n) ≡ 1 + k * R n)
    (r-first : r 0 ≤ a) (r-next : (n : ℕ) → r (suc n) ≤ a + k * r n)
    (b-first : b 0 ≤ c) (b-next : (n : ℕ) → b (suc n) ≤ c + k * (b n + r n * w))
    (waits : a * w ≤ c) where
  -- the rate is at most a for each router below
  pub upward-rate : (n : ℕ) → r n ≤ a * R n
  upward-rate zero = omega (arith, r-first, ap (λ (x : ℕ). a * x) one)
  upward-rate (suc n) = omega (arith, r-next n, mul-le-mul_left k (upward-rate n), ap (λ (x : ℕ). a * x) (more n))

  -- what the rate adds to the burst at one link
  pub upward-link : (n : ℕ) → r n * w ≤ c * R n
  upward-link n = omega (arith, mul-le-mul_right w (upward-rate n), mul-le-mul_right (R n) waits)

  -- the burst is at most c for each router below, at each link on the way
  pub upward-burst : (n : ℕ) → b n ≤ (n + 1) * (c * R n)
  upward-burst zero = omega (arith, b-first, ap (λ (x : ℕ). c * x) one)
  upward-burst (suc n) =
      let step : b n + r n * w ≤ (n + 2) * (c * R n) = omega (arith, upward-burst n, upward-link n) in
      omega (arith, b-next n, mul-le-mul_left k step, ap (λ (x : ℕ). (n + 2) * (c * x)) (more n))

  -- the way down: j = k − 1 child routers send upward, and the router above sends downward. H: the depths below the root; d i and e i:
  -- rate and burst that enter the router at depth i.
  module _ (j H : ℕ) (path : k ≡ suc j) (d e : ℕ → ℕ)
      (d-first : (n : ℕ) → H ≡ suc n → d 0 ≤ a + j * r n)
      (d-next : (i n : ℕ) → H ≡ suc (suc i + n) → d (suc i) ≤ a + j * r n + d i)
      (e-first : (n : ℕ) → H ≡ suc n → e 0 ≤ c + j * (b n + r n * w))
      (e-next : (i n : ℕ) → H ≡ suc (suc i + n) → e (suc i) ≤ c + j * (b n + r n * w) + (e i + d i * w)) where
    -- depth i with n depths below it but one: the routers whose frames pass there are all but those of the subtree below
    pub record Passing (i n : ℕ) : Type 0 where
      pub count : ℕ
      pub rest : count + R n ≡ R H
      pub rate : d i ≤ a * count
      pub burst : e i ≤ (H + 1 + i) * (c * count)

    pub downward-load : (i n : ℕ) → H ≡ suc (i + n) → Passing i n
    downward-load zero n h =
        let s : b n + r n * w ≤ (n + 2) * (c * R n) = omega (arith, upward-burst n, upward-link n) in
        let l : (n + 2) * (c * R n) ≤ (H + 1) * (c * R n) = mul-le-mul_right (c * R n) (omega arith) in
        let some : 1 ≤ H + 1 = omega arith in
        let low : H ≡ suc n = omega arith in
        record {
          count = 1 + j * R n;
          rest = omega (arith, ap R low, more n, ap (λ (x : ℕ). x * R n) path);
          rate = omega (arith, d-first n low, mul-le-mul_left j (upward-rate n));
          burst = omega (arith, e-first n low, mul-le-mul_left j s, mul-le-mul_left j l, mul-le-mul_right c some);
        }
    downward-load (suc i) n h =
        let before : Passing i (suc n) = downward-load i (suc n) (omega arith) in
        let C : ℕ = before.count in
        let s : b n + r n * w ≤ (n + 2) * (c * R n) = omega (arith, upward-burst n, upward-link n) in
        let P : ℕ = H + 1 + suc i in
        let l : (n + 2) * (c * R n) ≤ P * (c * R n) = mul-le-mul_right (c * R n) (omega arith) in
        let q : d i * w ≤ c * C = omega (arith, mul-le-mul_right w before.rate, mul-le-mul_right C waits) in
        record {
          count = C + (1 + j * R n);
          rest = omega (arith, before.rest, more n, ap (λ (x : ℕ). x * R n) path);
          rate = omega (arith, d-next i n h, before.rate, mul-le-mul_left j (upward-rate n));
          burst = omega (arith, e-next i n h, before.burst, q, mul-le-mul_left j s, mul-le-mul_left j l);
        }
