-- Laws of the loads of the balanced tree: what they add up to, as sums of rates or of bursts, and that every rate is at least 1.
-- Assumes nothing.
use mathlib.Core.Path.{◌≡◌, refl, ap, ◌∙◌}
use mathlib.Core.Bool.{Bool, true, false, cond}
use Prim.Native.Nat.{ℕ, zero, suc, ◌+◌, ◌-◌, ◌*◌, ◌≤◌}
use native.Mathlib.Nat.{one-le-mul}
use native.Mathlib.Omega.{arith}
use lib.Dec.{ltb}
use borrow.Author.Tests.{ltb-true, ltb-false}
use Rattle.links.specs.declared.Load.{Load}
use Rattle.links.specs.Link.{plus, times}
use Rattle.settings_model.specs.declared.Settings.{Settings}
use Rattle.settings_model.specs.Laws.{Checked}
use Rattle.row_model.proofs.LoadLaws.{left-rate, upward-step, upward-last}
use Rattle.row_model.specs.Loads.{sensor, left, near, upward, downward, sink_at}

-- how many routers below one at depth i send up to it where the sink is not below: NR, and none at depth H
unfoldable pub routers_below : Settings → ℕ → ℕ
routers_below s i = cond (ltb i s.h) s.nr 0

-- what comes down to a router at depth i of the sink's path, in a measure of loads: nothing to the root
unfoldable pub comes_down : Settings → (Load → ℕ) → ℕ → ℕ
comes_down s g zero = 0
comes_down s g (suc i) = g (left s (downward s i))

-- a measure of loads that adds up: their rate, or their burst
pub record Adds (g : Load → ℕ) : Type 0 where
  pub sum : (a b : Load) → g (plus a b) ≡ g a + g b
  pub product : (n : ℕ) (a : Load) → g (times n a) ≡ n * g a

pub rates-add : Adds (λ a. a.rate.0)
rates-add = record { sum = λ a b. refl; product = λ n a. refl }

pub bursts-add : Adds (λ a. a.burst.0)
bursts-add = record { sum = λ a b. refl; product = λ n a. refl }

-- document 01's recurrences in such a measure
module _ (s : Settings) (g : Load → ℕ) (G : Adds g) where
  pub near-sum : g (near s) ≡ s.own * g (sensor s) + s.ne * g (left s (sensor s))
  unfolding near
  near-sum = G.sum _ _ ∙ rw (G.product s.own (sensor s), G.product s.ne (left s (sensor s)))

  -- with the loads of n child routers
  with-children : (n : ℕ) (a : Load) → g (plus (near s) (times n a)) ≡ g (near s) + n * g a
  with-children n a = G.sum (near s) (times n a) ∙ rw (G.product n a)

  pub upward-sum : (i : ℕ) → g (upward s i) ≡ g (near s) + routers_below s i * g (left s (upward s (suc i)))
  unfolding routers_below
  upward-sum i = by (ltb i s.h) refl
    where
      by : (b : Bool) → ltb i s.h ≡ b → g (upward s i) ≡ g (near s) + cond b s.nr 0 * g (left s (upward s (suc i)))
      by true e = ap g (upward-step s i (ltb-true i s.h e)) ∙ with-children s.nr _
      by false e = omega (arith, ap g (upward-last s i (ltb-false i s.h e)))

  pub downward-sum : (i : ℕ) → g (downward s i) ≡ g (near s) + (s.nr - 1) * g (left s (upward s (suc i))) + comes_down s g i
  unfolding downward comes_down
  downward-sum zero = omega (arith, with-children (s.nr - 1) (left s (upward s 1)))
  downward-sum (suc i) = G.sum _ _ ∙ rw (with-children (s.nr - 1) (left s (upward s (suc (suc i)))))

  pub sink-sum : (i : ℕ) → g (sink_at s i) ≡ g (upward s i) + comes_down s g i
  unfolding sink_at comes_down
  sink-sum zero = omega arith
  sink-sum (suc i) = G.sum _ _

-- every link has a frame to send in each interval
module _ (s : Settings) (C : Checked s) where
  pub sensor-some : 1 ≤ (sensor s).rate.0
  unfolding sensor
  sensor-some = C.rate.0

  pub near-some : 1 ≤ (near s).rate.0
  near-some =
      let ρ : ℕ = (sensor s).rate.0 in
      let some : 1 ≤ s.ne * ρ + s.own * ρ = omega (arith, one-le-mul C.sensors sensor-some) in
      omega (arith, near-sum s _ rates-add, ap (λ (r : ℕ). s.ne * r) (left-rate s (sensor s)))

  pub upward-some : (i : ℕ) → 1 ≤ (upward s i).rate.0
  upward-some i = omega (arith, near-some, upward-sum s _ rates-add i)

  pub downward-some : (i : ℕ) → 1 ≤ (downward s i).rate.0
  downward-some i = omega (arith, near-some, downward-sum s _ rates-add i)
