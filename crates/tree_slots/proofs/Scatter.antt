-- The scatter-add law: where a pass adds g v to entry f v of 256 for each v, entry r holds in the end the sum of the g v with f v = r. Assumes
-- nothing.
use mathlib.Core.Path.{◌≡◌, sym, ap, ◌∙◌}
use mathlib.Core.Bool.{Bool, true, false}
use mathlib.Core.List.{List}
use Prim.Native.Nat.{ℕ, suc, ◌+◌, ◌-◌, ◌*◌, ◌≤◌, ◌<◌}
use native.Mathlib.Decide.{ℕ_discrete}
use native.Mathlib.Omega.{arith}
use lib.Dec.{eqb}
use lib.ListN.{length, get_or, set, replicate, length-set, length-replicate, get_or-replicate}
use lib.Seq.{get_or-set_same, get_or-set_other}
use borrow.Author.Tests.{eq-eqb, ne_eqb}
use Rattle.network.specs.Counting.{bit}
use Rattle.tree_model.specs.Tree.{sum_to}
use Rattle.tree_model.proofs.Shares.{sum-most}

-- what has come to r of 1 to n
abbrev pub share : (ℕ → ℕ) → (ℕ → ℕ) → ℕ → ℕ → ℕ
share f g r v = bit (eqb (f v) r) * g v

pub record Tallied (f g : ℕ → ℕ) (n : ℕ) (acc : List ℕ) : Type 0 where
  pub room : length acc ≡ 256
  pub each : (r : ℕ) → r < 256 → get_or acc r 0 ≡ sum_to (share f g r) n

-- of one step: node v, where those before it have come
module _ (f g : ℕ → ℕ) (v r : ℕ) (one : 1 ≤ v) where
  on : v + 1 - 1 ≡ suc (v - 1)
  on = omega arith

  here : suc (v - 1) ≡ v
  here = omega arith

  share-here : f v ≡ r → sum_to (share f g r) (v + 1 - 1) ≡ sum_to (share f g r) (v - 1) + g v
  unfolding sum_to bit
  share-here e = rw (on, here) (rw (eq-eqb (f v) r e) (omega arith))

  share-elsewhere : (f v ≡ r → ⊥) → sum_to (share f g r) (v + 1 - 1) ≡ sum_to (share f g r) (v - 1)
  unfolding sum_to bit
  share-elsewhere e = rw (on, here) (rw (ne_eqb (f v) r e) (omega arith))

  share-nothing : g v ≡ 0 → sum_to (share f g r) (v + 1 - 1) ≡ sum_to (share f g r) (v - 1)
  share-nothing z = by (ℕ_discrete (f v) r)
    where
      by : Dec (f v ≡ r) → sum_to (share f g r) (v + 1 - 1) ≡ sum_to (share f g r) (v - 1)
      by (yes e) = omega (arith, share-here e, z)
      by (no e) = share-elsewhere e

module _ (f g : ℕ → ℕ) where
  pub tally-none : (acc : List ℕ) → acc ≡ replicate 256 0 → Tallied f g 0 acc
  unfolding sum_to
  tally-none acc z = record { room = ap length z ∙ length-replicate {A = ℕ} 256 0; each = λ r h. ap (λ (l : List ℕ). get_or l r 0) z ∙ get_or-replicate {A = ℕ} 256 r 0 0 h }

  module _ (v : ℕ) (one : 1 ≤ v) (acc : List ℕ) where
    -- entry k gets m more
    pub tally-more : (k m : ℕ) → k ≡ f v → m ≡ g v → k < 256 → Tallied f g (v - 1) acc → Tallied f g (v + 1 - 1) (set acc k (get_or acc k 0 + m))
    tally-more k m ek em h t = record { room = length-set acc k (get_or acc k 0 + m) ∙ t.room; each = λ r l. by r l (ℕ_discrete k r) }
      where
        by : (r : ℕ) → r < 256 → Dec (k ≡ r) → get_or (set acc k (get_or acc k 0 + m)) r 0 ≡ sum_to (share f g r) (v + 1 - 1)
        by r l (yes e) = rw (← e) (get_or-set_same acc k (get_or acc k 0 + m) 0 (omega (arith, t.room)) ∙ omega (arith, em, t.each k h, share-here f g v k one (sym ek)))
        by r l (no e) = get_or-set_other acc k r (get_or acc k 0 + m) 0 (λ x. e (sym x)) ∙ t.each r l ∙ sym (share-elsewhere f g v r one (λ x. e (ek ∙ x)))

    pub tally-same : g v ≡ 0 → Tallied f g (v - 1) acc → Tallied f g (v + 1 - 1) acc
    tally-same z t = record { room = t.room; each = λ r l. t.each r l ∙ sym (share-nothing f g v r one z) }

  -- no entry holds more than the sum of bounds
  pub tally-most : (n m r : ℕ) (acc : List ℕ) → r < 256 → Tallied f g n acc → ((v : ℕ) → 1 ≤ v → v ≤ n → g v ≤ m) → get_or acc r 0 ≤ n * m
  unfolding bit
  tally-most n m r acc h t low = rw (t.each r h) (sum-most (share f g r) m n (λ v one most. by v (low v one most) (eqb (f v) r)))
    where
      by : (v : ℕ) → g v ≤ m → (b : Bool) → bit b * g v ≤ m
      by v l true = omega (arith, l)
      by v l false = omega arith
