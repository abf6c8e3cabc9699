-- The slots used at a depth, as the functions add them up: nothing passes 64 bits. Assumes nothing.
use mathlib.Core.Path.{◌≡◌, refl, ap, ◌∙◌}
use Prim.Native.Nat.{ℕ, suc, ◌+◌, ◌-◌, ◌*◌, ◌^◌, ◌≤◌, ◌<◌}
use native.Mathlib.Nat.{mul-le-mul, mul-le-mul_left, le_of_lt}
use native.Mathlib.Numerals.{add-one}
use native.Mathlib.Omega.{arith}
use borrow.Author.Tests.{lt-ltb, le-ltb}
use Rattle.measure.specs.declared.Slots.{Slots}
use Rattle.measure.specs.declared.Rate.{Rate}
use Rattle.measure.specs.Measures.{slots, up_to_64}
use Rattle.links.specs.declared.Load.{Load}
use Rattle.links.specs.Link.{slots_of, reservation_of}
use Rattle.links.proofs.LinkLaws.{slots-long}
use Rattle.settings_model.specs.declared.Settings.{Settings}
use Rattle.row_model.specs.Times.{row_timing, routers_below}
use Rattle.row_model.specs.Loads.{sensor, upward, downward}
use Rattle.row_model.specs.Checks.{slots_needed, used_below, used_off_path, used_on_path}
use Rattle.row_model.specs.Bounds.{Sound}
use Rattle.plan_model.proofs.TimeLaws.{timed}
use Rattle.row_model.proofs.LoadBounds.{sensor-bounded, upward-bounded, downward-bounded}
use Rattle.row_plan_model.specs.declared.Link.{Link}
use Rattle.row_plan_model.specs.Inner.{link_of, link_up, link_down}
use Rattle.settings_model.specs.Checks.{radio_of}

-- the slots of a link are those that its rate needs
pub link-slots : (s : Settings) (a : Load) → (link_of (row_timing s) a).reservation.slots.0 ≡ slots_needed s a.rate
unfolding link_of reservation_of slots_needed
link-slots s a = refl

module _ (s : Settings) (S : Sound s) where
  -- a rate below 2^30 needs fewer than 2^52 slots
  slots-low : (ρ : Rate) → ρ.0 < 2 ^ 30 → slots_needed s ρ < 2 ^ 52
  unfolding slots_needed
  slots-low ρ h =
      let t = timed (radio_of s) S.checked.radio in
      let k : ℕ = (slots_of (row_timing s) ρ).0 in
      omega (arith, slots-long (row_timing s) ρ t, mul-le-mul (le_of_lt h) (le_of_lt t.exchange), t.slot, mul-le-mul_left k t.slot_some)

  end_low : slots_needed s (sensor s).rate < 2 ^ 52
  end_low = slots-low (sensor s).rate (sensor-bounded s S).rate

  up-low : (i : ℕ) → slots_needed s (upward s i).rate < 2 ^ 52
  up-low i = slots-low (upward s i).rate (upward-bounded s S i).rate

  -- NE end nodes alone
  pub ends-made : (i : ℕ) (e p : Slots) → s.h ≤ i → e ≡ (link_of (row_timing s) (sensor s)).reservation.slots → p.0 ≡ up_to_64 (e.0 * s.ne) → p ≡ used_off_path s i
  unfolding used_off_path used_below routers_below
  ends-made i e p h ee ep =
      let e' : e.0 ≡ slots_needed s (sensor s).rate = ap (λ (x : Slots). x.0) ee ∙ link-slots s (sensor s) in
      let k : e.0 ≤ 2 ^ 52 = omega (arith, e', end_low) in
      let n : s.ne ≤ 7 = S.checked.ne in
      ap slots (rw (le-ltb i s.h h) (omega (arith, ep, ap (λ (x : ℕ). x * s.ne) e', mul-le-mul k n)))

  -- with NR child routers
  pub off-path-made : (i : ℕ) (e p q r : Slots) (v : Link) → i < s.h → e ≡ (link_of (row_timing s) (sensor s)).reservation.slots → v ≡ link_up s (i + 1)
      → p.0 ≡ up_to_64 (e.0 * s.ne) → q.0 ≡ up_to_64 (v.reservation.slots.0 * s.nr) → r.0 ≡ up_to_64 (p.0 + q.0) → r ≡ used_off_path s i
  unfolding used_off_path used_below routers_below link_up
  off-path-made i e p q r v h ee ev ep eq er =
      let e' : e.0 ≡ slots_needed s (sensor s).rate = ap (λ (x : Slots). x.0) ee ∙ link-slots s (sensor s) in
      let v' : v.reservation.slots.0 ≡ slots_needed s (upward s (suc i)).rate = ap (λ (x : Link). x.reservation.slots.0) ev ∙ link-slots s (upward s (i + 1)) ∙ rw (add-one i) in
      let k : e.0 ≤ 2 ^ 52 = omega (arith, e', end_low) in
      let l : v.reservation.slots.0 ≤ 2 ^ 52 = omega (arith, v', up-low (suc i)) in
      ap slots (rw (lt-ltb i s.h h) (omega (arith, ep, eq, er, ap (λ (x : ℕ). x * s.ne) e', ap (λ (x : ℕ). x * s.nr) v', mul-le-mul k S.checked.ne, mul-le-mul l S.checked.nr)))

  -- with one of them replaced by the downward one
  pub on-path-made : (i : ℕ) (e p q r t : Slots) (v w : Link) → i < s.sink → e ≡ (link_of (row_timing s) (sensor s)).reservation.slots → v ≡ link_up s (i + 1) → w ≡ link_down s i
      → p.0 ≡ up_to_64 (e.0 * s.ne) → q.0 ≡ up_to_64 (v.reservation.slots.0 * (s.nr - 1)) → r.0 ≡ up_to_64 (p.0 + q.0) → t.0 ≡ up_to_64 (r.0 + w.reservation.slots.0) → t ≡ used_on_path s i
  unfolding used_on_path used_below link_up link_down
  on-path-made i e p q r t v w h ee ev ew ep eq er et =
      let e' : e.0 ≡ slots_needed s (sensor s).rate = ap (λ (x : Slots). x.0) ee ∙ link-slots s (sensor s) in
      let v' : v.reservation.slots.0 ≡ slots_needed s (upward s (suc i)).rate = ap (λ (x : Link). x.reservation.slots.0) ev ∙ link-slots s (upward s (i + 1)) ∙ rw (add-one i) in
      let w' : w.reservation.slots.0 ≡ slots_needed s (downward s i).rate = ap (λ (x : Link). x.reservation.slots.0) ew ∙ link-slots s (downward s i) in
      let low : slots_needed s (downward s i).rate < 2 ^ 52 = slots-low (downward s i).rate (downward-bounded s S i h).rate in
      let k : e.0 ≤ 2 ^ 52 = omega (arith, e', end_low) in
      let l : v.reservation.slots.0 ≤ 2 ^ 52 = omega (arith, v', up-low (suc i)) in
      let j : ℕ = s.nr - 1 in
      let few : j ≤ 7 = omega (arith, S.checked.nr) in
      ap slots (omega (arith, ep, eq, er, et, w', ap (λ (x : ℕ). x * s.ne) e', ap (λ (x : ℕ). x * j) v', mul-le-mul k S.checked.ne, mul-le-mul l few))
