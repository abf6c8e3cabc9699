-- Numbers 5 to 7, one condition after another, as the functions answer them. Assumes nothing.
use Rattle.std.specs.Prelude.{Ok, Err}
use mathlib.Core.Path.{◌≡◌}
use Prim.Native.Nat.{ℕ, zero, suc, ◌+◌, ◌-◌, ◌^◌, ◌≤◌, ◌<◌}
use native.Mathlib.Nat.{mul-le-mul_right, pow-zero, pow-suc, pow-le-pow_right}
use native.Mathlib.Numerals.{add-one}
use native.Mathlib.Omega.{arith}
use Rattle.refusals.specs.declared.Refusal.{Refusal}
use Rattle.refusals.specs.Conditions.{first_broken, verdict}
use Rattle.refusals.proofs.Answering.{first-part-answers, second-part-answers}
use Rattle.settings_model.specs.declared.Settings.{Settings}
use Rattle.row_model.specs.Checks.{used_at, used_from}
use Rattle.row_model.proofs.LoadBounds.{full, full-one, full-more}

-- ---- number 6

-- a full tree of 12 depths, each router with up to 7 child routers, has at most 8^12 routers
full-small : (k n : ℕ) → k ≤ 7 → (full k n ≤ 8 ^ n) × (1 ≤ full k n)
full-small k zero h = (omega (arith, full-one k, pow-zero 8), omega (arith, full-one k))
full-small k (suc n) h =
    let p = full-small k n h in
    (omega (arith, full-more k n, pow-suc 8 n, mul-le-mul_right (full k n) h, p.0, p.1), omega (arith, full-more k n))

pub full-fits : (k n : ℕ) → k ≤ 7 → n ≤ 12 → full k n ≤ 8 ^ 12
full-fits k n h l = let p : 8 ^ n ≤ 8 ^ 12 = pow-le-pow_right (omega arith) l in omega (arith, (full-small k n h).0)

-- ---- number 7

-- the depths from i to H
module _ (s : Settings) (i : ℕ) where
  pub depths-broken : (r : Refusal) → i ≤ s.h → verdict (used_at s i) ≡ Err r → Err r ≡ verdict (used_from s (suc s.h - i) i)
  unfolding used_from
  depths-broken r h e =
      let n : suc s.h - i ≡ suc (s.h - i) = omega arith in
      rw n (first-part-answers Err (Ok tt) (used_at s i) (used_from s (s.h - i) (suc i)) r e)

  pub depths-next : i ≤ s.h → verdict (used_at s i) ≡ Ok tt → verdict (used_from s (suc s.h - (i + 1)) (i + 1)) ≡ verdict (used_from s (suc s.h - i) i)
  unfolding used_from
  depths-next h e =
      let n : suc s.h - i ≡ suc (s.h - i) = omega arith in
      let m : suc s.h - (i + 1) ≡ s.h - i = omega arith in
      rw (n, m, add-one i) (second-part-answers Err (Ok tt) (used_at s i) (used_from s (s.h - i) (suc i)) e)

  pub depths-end : s.h < i → (Ok tt) ≡ verdict (used_from s (suc s.h - i) i)
  unfolding used_from first_broken
  depths-end h =
      let n : suc s.h - i ≡ 0 = omega arith in
      rw n
