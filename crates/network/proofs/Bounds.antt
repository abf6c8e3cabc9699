-- What comes to each node keeps its load, and so each queue and each frame's stay keep their bounds. Assumes nothing.
use mathlib.Core.Path.{◌≡◌, refl, ap}
use mathlib.Core.Logic.{◌≢◌}
use mathlib.Core.Bool.{Bool, true, false, not, ◌&&◌, false≢true}
use mathlib.Core.List.{List}
use Prim.Native.Nat.{ℕ, zero, suc, ◌+◌, ◌*◌, ◌-◌, ◌≤◌, ◌<◌, min}
use native.Mathlib.Nat.{le_refl, mul-le-mul_left, mul-le-mul_right, lt_of_mul-lt-mul_left}
use native.Mathlib.Decide.{dec_le}
use native.Mathlib.Omega.{arith}
use lib.Dec.{eqb}
use borrow.Author.Tests.{eqb-true, eqb-false}
use Rattle.network.specs.Counting.{total, bit}
use Rattle.network.specs.Model.{Network}
use Rattle.network.specs.Readings.{Reading, made}
use Rattle.network.specs.Run.{feeds}
use Rattle.network.specs.Loads.{Flows, burst_after, Linked, Provisioned, Buckets}
use Rattle.network.proofs.Sums.{total-add, total-mul, total_mono, total-le, total-shift}
use Rattle.network.proofs.Serving.{came_before}
use Rattle.network.proofs.Pace.{starts, pace}
use Rattle.network.proofs.Accounting.{waits, on_air, came, gone, came_from}
use Rattle.network.proofs.Backlogs.{Backlog, backlog, Output, output}

-- ---- numbers

-- a bound by m, slack where p is small, holds for a smaller factor
scale-add : (r m q d a b : ℕ) → r ≤ m → m * (q + d) + a ≤ m * q + b → r * (q + d) + a ≤ r * q + b
scale-add r m q d a b h k = omega (arith, mul-le-mul_right d h)

scale : (r m p q a b : ℕ) → r ≤ m → a ≤ b → m * p + a ≤ m * q + b → r * p + a ≤ r * q + b
scale r m p q a b h le k = by (dec_le p q)
  where
    by : Dec (p ≤ q) → r * p + a ≤ r * q + b
    by (yes i) = omega (arith, mul-le-mul_left r i)
    by (no i) =
        let e : p ≡ q + (p - q) = omega arith in
        rw e (scale-add r m q (p - q) a b h (omega (arith, ap (λ (n : ℕ). m * n) e)))

out-long : (X s x y : ℕ) → s ≤ x - X → x ≤ y → (y - X) - (s - 1) ≤ ((x - X) + 1 - s) + (y - x)
out-long X s x y h k = omega arith

queue_long : (X s u : ℕ) → s ≤ u - X → u - (s - 1) ≤ (u - X) + 1 + X - s
queue_long X s u h = omega arith

-- ---- links

pub feeds-true : (N : Network) (w v : ℕ) → feeds N w v ≡ true → (w ≢ N.sink) × (N.next w ≡ v)
unfolding feeds
feeds-true N w v = by (eqb w N.sink) refl
  where
    by : (b : Bool) → eqb w N.sink ≡ b → not b && eqb (N.next w) v ≡ true → (w ≢ N.sink) × (N.next w ≡ v)
    by true e h = absurd (false≢true h)
    by false e h = (eqb-false w N.sink e, eqb-true (N.next w) v h)

module _ (N : Network) (F : Flows) (P : Provisioned N F) (l : List Reading) (Q : Buckets N F l) (pick : ℕ → ℕ → ℕ) where
  -- the starts of node v's link before symbol u
  abbrev S : ℕ → ℕ → ℕ
  S v u = total (starts N v) u

  -- what comes to node v keeps its load in the symbols from x on, before symbol y
  abbrev Held : ℕ → ℕ → Type 0
  Held v y = (x : ℕ) → x ≤ y → came N l pick v y * N.interval ≤ came N l pick v x * N.interval + (F.burst v + F.rate v * (y - x))

  -- the starts from symbol s to symbol z, for the rate that enters
  paced : (v s z : ℕ) → Linked N v → s ≤ z → F.rate v * (z + 1 + N.exchange) + S v s * N.interval ≤ F.rate v * (s + F.latency v) + S v z * N.interval
  paced v s z L h = scale (F.rate v) (N.holds v) (z + 1 + N.exchange) (s + F.latency v) (S v s * N.interval) (S v z * N.interval) (omega (arith, P.serves v L))
      (mul-le-mul_right N.interval (total-le (starts N v) s z h)) (omega (arith, pace N F P v s z L))

  -- the load that leaves a link: rate ρ, burst β + ρ × T
  out : (w x y : ℕ) → Linked N w → x ≤ y → Held w (y - N.exchange)
      → gone N l pick w y * N.interval ≤ gone N l pick w x * N.interval + (burst_after F w + F.rate w * (y - x))
  unfolding burst_after
  out w x y L le held =
      let X : ℕ = N.exchange in
      let r : ℕ = F.rate w in
      let o : Output N l pick w x = output N l pick w x L.not_sink P.exchange_positive in
      let s : ℕ = o.from in
      let z : ℕ = x - X in
      let d : ℕ = z + 1 - s in
      let before : s ≤ z = o.before in
      let split : z + 1 ≡ s + d = omega arith in
      omega (
        arith,
        paced w s z L before,
        ap (λ (n : ℕ). r * n) split,
        ap (λ (n : ℕ). n * N.interval) o.used,
        mul-le-mul_right N.interval (output N l pick w y L.not_sink P.exchange_positive).most,
        held (s - 1) (omega arith),
        mul-le-mul_left r (out-long X s x y before le),
      )

  -- what comes from node w to node v, or nothing
  fed : (w x y v : ℕ) → w < N.nodes → x ≤ y → Held w (y - N.exchange)
      → bit (feeds N w v) * gone N l pick w y * N.interval
      ≤ bit (feeds N w v) * gone N l pick w x * N.interval + (bit (feeds N w v) * burst_after F w + bit (feeds N w v) * F.rate w * (y - x))
  unfolding bit
  fed w x y v hw le held = by (feeds N w v) refl
    where
      by : (b : Bool) → feeds N w v ≡ b
          → bit b * gone N l pick w y * N.interval ≤ bit b * gone N l pick w x * N.interval + (bit b * burst_after F w + bit b * F.rate w * (y - x))
      by true e = omega (arith, out w x y (record { node = hw; not_sink = (feeds-true N w v e).0 }) le held)
      by false e = omega arith

  held-step : (v y : ℕ) → v < N.nodes → ((w : ℕ) → w < N.nodes → Held w (y - N.exchange)) → Held v y
  held-step v y hv all x le =
      let n : ℕ = N.nodes in
      let B : ℕ = N.interval in
      let b : ℕ → ℕ = λ w. bit (feeds N w v) in
      let g : ℕ → ℕ → ℕ = gone N l pick in
      let t : ℕ = y - x in
      let at : x + t ≡ y = omega arith in
      let own : total (λ i. made l i v) x + total (λ i. made l (x + i) v) t ≡ total (λ i. made l i v) y = rw at at (total-shift (λ i. made l i v) x t) in
      let sum : total (λ w. b w * g w y * B) n ≤ total (λ w. b w * g w x * B + (b w * burst_after F w + b w * F.rate w * t)) n
      = total_mono (λ w. b w * g w y * B) (λ w. b w * g w x * B + (b w * burst_after F w + b w * F.rate w * t)) n (λ w h. fed w x y v h le (all w h)) in
      omega (
        arith,
        sum,
        ap (λ (k : ℕ). k * B) own,
        Q.bucket v x t hv,
        ap (λ (k : ℕ). k * B) (came_from N l pick v x),
        ap (λ (k : ℕ). k * B) (came_from N l pick v y),
        total-mul (λ w. b w * g w y) B n,
        total-mul (λ w. b w * g w x) B n,
        total-mul (λ w. b w * F.rate w) t n,
        total-add (λ w. b w * g w x * B) (λ w. b w * burst_after F w + b w * F.rate w * t) n,
        total-add (λ w. b w * burst_after F w) (λ w. b w * F.rate w * t) n,
        P.burst_enters v hv,
        mul-le-mul_right t (P.rate_enters v hv),
      )

  -- by the symbols, for all nodes at once: what left a node before symbol y came before symbol y − X
  held-till : (m y : ℕ) → y ≤ m → (v : ℕ) → v < N.nodes → Held v y
  held-till zero y h v hv x le =
      let y0 : y ≡ 0 = omega arith in
      let x0 : x ≡ 0 = omega arith in
      rw (y0, x0) (omega arith)
  held-till (suc m) y h v hv x le = held-step v y hv (held-till m (y - N.exchange) (omega (arith, P.exchange_positive))) x le

  pub held : (v y : ℕ) → v < N.nodes → Held v y
  held v y hv = held-till y y (le_refl y) v hv

  -- all frames in the queue before symbol u
  pub queued : (v u : ℕ) → Linked N v → (waits N l pick (came_before u) v u + on_air N l pick (came_before u) v u) * N.interval ≤ burst_after F v
  unfolding burst_after
  queued v u L =
      let X : ℕ = N.exchange in
      let r : ℕ = F.rate v in
      let b : Backlog N l pick u v u = backlog N l pick u v u L.not_sink P.exchange_positive in
      let s : ℕ = b.from in
      let z : ℕ = u - X in
      let before : s ≤ z = b.before in
      let d : ℕ = z + 1 + X - s in
      let split : z + 1 + X ≡ s + d = omega arith in
      let now : min u u ≡ u = omega arith in
      let then : min (s - 1) u ≡ s - 1 = omega arith in
      omega (
        arith,
        paced v s z L before,
        ap (λ (n : ℕ). r * n) split,
        ap (λ (n : ℕ). n * N.interval) (rw (now, then) at b.used),
        held v u L.node (s - 1) (omega arith),
        mul-le-mul_left r (queue_long X s u before),
      )

  -- a frame that came before symbol c and is in node v's queue before symbol u
  pub soon : (v c u : ℕ) → Linked N v → c ≤ u → 0 < waits N l pick (came_before c) v u + on_air N l pick (came_before c) v u → u < c + F.delay v
  soon v c u L le some = by (dec_le c (s - 1))
    where
      z : ℕ
      z = u - N.exchange

      b : Backlog N l pick c v u
      b = backlog N l pick c v u L.not_sink P.exchange_positive

      s : ℕ
      s = b.from

      before : s ≤ z
      before = b.before

      all : min u c ≡ c
      all = omega arith

      by : Dec (c ≤ s - 1) → u < c + F.delay v
      by (yes h) =
          let m : min (s - 1) c ≡ c = omega arith in
          let e = rw (all, m) at b.used in
          absurd (omega (arith, total-le (starts N v) s z before))
      by (no h) =
          let k : ℕ = N.holds v in
          let m : min (s - 1) c ≡ s - 1 = omega arith in
          let e = rw (all, m) at b.used in
          let one : 1 + S v z + came N l pick v (s - 1) ≤ came N l pick v c + S v s = omega arith in
          let sum : c - (s - 1) + s ≤ c + 1 = omega arith in
          let most : k * (z + 1 + N.exchange) < k * (F.delay v + c + 1) = omega (
            arith,
            mul-le-mul_right N.interval one,
            held v c L.node (s - 1) (omega arith),
            mul-le-mul_right (c - (s - 1)) (P.serves v L),
            mul-le-mul_left k sum,
            pace N F P v s z L,
            P.delay_covers v L,
            P.interval_positive,
          ) in
          omega (arith, lt_of_mul-lt-mul_left k most)
