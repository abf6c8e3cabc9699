-- Every frame of a run was made by a sensor whose token bucket is not empty. Assumes nothing.
use mathlib.Core.Path.{◌≡◌, refl}
use mathlib.Core.Bool.{Bool, true, false, cond, ◌&&◌}
use mathlib.Core.List.{List, [], ◌∷◌}
use Prim.Native.Nat.{ℕ, zero, suc, ◌+◌, ◌≤◌, ◌<◌}
use native.Mathlib.Decide.{ℕ_discrete}
use native.Mathlib.Omega.{arith}
use lib.Dec.{eqb, leb}
use borrow.Author.Tests.{eq-eqb, ne_eqb}
use Rattle.network.specs.Counting.{total, bit, count, All, none, each}
use Rattle.network.specs.Model.{Network, Frame, State, queue}
use Rattle.network.specs.Readings.{Reading, made}
use Rattle.network.specs.Claim.{tagged, present}

-- what holds of every sensor and symbol of which there is a frame holds of each frame
pub of-each : (Q : ℕ → ℕ → Type 0) (q : List Frame) → ((o c : ℕ) → 1 ≤ count (tagged o c) q → Q o c) → All (λ f. Q f.sensor f.made) q
unfolding count tagged bit
of-each Q [] h = none
of-each Q (f ∷ q) h =
    each (h f.sensor f.made (rw (eq-eqb f.sensor f.sensor refl, eq-eqb f.made f.made refl) (omega arith)))
    (of-each Q q (λ o c k. h o c (omega arith)))

-- a sum has each of its members
pub total-has : (f : ℕ → ℕ) (i n : ℕ) → i < n → f i ≤ total f n
unfolding total
total-has f i zero h = absurd (omega arith)
total-has f i (suc n) h = by (ℕ_discrete i n) (total-has f i n)
  where
    by : Dec (i ≡ n) → (i < n → f i ≤ total f n) → f i ≤ total f n + f n
    by (yes e) g = rw e (omega arith)
    by (no m) g = omega (arith, g (omega (arith, m)))

-- a sensor that has no reading makes nothing
pub made-elsewhere : (l : List Reading) (n c o : ℕ) → All (λ r. r.sensor < n) l → n ≤ o → made l c o ≡ 0
unfolding made
made-elsewhere [] n c o none h = refl
made-elsewhere (r ∷ l) n c o (each k A) h = rw (ne_eqb r.sensor o (λ e. omega arith)) (by (eqb r.symbol c) (made-elsewhere l n c o A h))
  where
    by : (x : Bool) → made l c o ≡ 0 → cond (x && false) r.frames 0 + made l c o ≡ 0
    by true e = omega (arith, e)
    by false e = omega (arith, e)

-- frames that are there were made
some-made : (l : List Reading) (u c o n : ℕ) → n ≡ cond (leb c u) (made l c o) 0 → 1 ≤ n → 1 ≤ made l c o
some-made l u c o n e h = by (leb c u) e
  where
    by : (x : Bool) → n ≡ cond x (made l c o) 0 → 1 ≤ made l c o
    by true e = omega (arith, e)
    by false e = absurd (omega (arith, e))

module _ (N : Network) (s : State) (l : List Reading) (u : ℕ) (kept : (o c : ℕ) → present N s o c ≡ cond (leb c u) (made l c o) 0) where
  -- so each frame in a queue, and each that the sink received, has a reading that made it
  pub queue-made : (v : ℕ) → v < N.nodes → All (λ f. 1 ≤ made l f.made f.sensor) (queue s v)
  unfolding present
  queue-made v h = of-each (λ o c. 1 ≤ made l c o) (queue s v)
      (λ o c k. some-made l u c o (present N s o c) (kept o c) (omega (arith, k, total-has (λ w. count (tagged o c) (queue s w)) v N.nodes h)))

  pub received-made : All (λ f. 1 ≤ made l f.made f.sensor) s.received
  unfolding present
  received-made = of-each (λ o c. 1 ≤ made l c o) s.received
      (λ o c k. some-made l u c o (present N s o c) (kept o c) (omega (arith, k)))
