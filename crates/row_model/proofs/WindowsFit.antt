-- Every reservation of a row that can be planned fits the beacon interval (number 7 of the conditions), so that there are offsets for the
-- windows of every tree within the row. Assumes nothing.
use mathlib.Core.Path.{◌≡◌}
use Prim.Native.Nat.{ℕ, suc, ◌+◌, ◌-◌, ◌*◌, ◌≤◌, ◌<◌}
use native.Mathlib.Nat.{mul-le-mul_right}
use native.Mathlib.Decide.{dec_le}
use native.Mathlib.Omega.{arith}
use borrow.Author.Tests.{lt-ltb}
use Rattle.measure.specs.declared.Rate.{Rate}
use Rattle.superframe_model.proofs.OrderLaws.{window-fits}
use Rattle.links.specs.Link.{slots_of}
use Rattle.settings_model.specs.declared.Settings.{Settings}
use Rattle.row_model.specs.Times.{row_timing, routers_below, reservations_at, reservable_at}
use Rattle.row_model.specs.Loads.{sensor, upward, downward}
use Rattle.row_model.specs.Checks.{slots_needed, used_below, used_off_path, used_on_path}
use Rattle.row_model.specs.Lines.{lines}
use Rattle.row_model.specs.Tree.{Tree, Within}
use Rattle.row_model.specs.Promise.{site_of, printed_of, Windows}
use Rattle.promise_model.specs.Promise as promise
use Rattle.row_model.specs.Laws.{Plannable}
use Rattle.row_model.proofs.NodeLoads.{link_load, Sort, end_node, up_router, down_router, sort, line-slots}
use Rattle.plan_model.specs.Times.{timing_of}

-- one of n alike is no more than all of them
one_of : (n k m : ℕ) → 0 < n → n * k ≤ m → k ≤ m
one_of n k m h l = omega (arith, mul-le-mul_right k h)

module _ (s : Settings) (P : Plannable s) where
  -- what a router off the sink's path uses of its superframe, and what one on it uses
  below-used : (i : ℕ) → i ≤ s.h → (i ≡ 0 → s.sink ≡ 0) → s.ne * slots_needed s (sensor s).rate ≤ (reservable_at s i).0
  unfolding used_off_path used_below routers_below
  below-used i h z = omega (arith, P.off_path i h z)

  routers-used : (i : ℕ) → i < s.h → s.sink ≤ i → s.nr * slots_needed s (upward s (suc i)).rate ≤ (reservable_at s i).0
  unfolding used_off_path used_below routers_below
  routers-used i h l = omega (arith, rw (lt-ltb i s.h h) at (P.off_path i (omega arith) (λ e. omega arith)))

  path-used : (i : ℕ) → i < s.sink
      → s.ne * slots_needed s (sensor s).rate + (s.nr - 1) * slots_needed s (upward s (suc i)).rate + slots_needed s (downward s i).rate ≤ (reservable_at s i).0
  unfolding used_on_path used_below
  path-used i h = P.on_path i h

  -- so none of the reservations takes more slots than may be reserved
  end-slots : 0 < s.ne → slots_needed s (sensor s).rate ≤ (reservable_at s 0).0
  end-slots n = by (dec_le 1 s.sink)
    where
      by : Dec (0 < s.sink) → slots_needed s (sensor s).rate ≤ (reservable_at s 0).0
      by (yes h) = one_of s.ne _ _ n (omega (arith, path-used 0 h))
      by (no h) = one_of s.ne _ _ n (below-used 0 (omega arith) (λ e. omega arith))

  up-slots : (i : ℕ) → i < s.h → slots_needed s (upward s (suc i)).rate ≤ (reservable_at s i).0
  up-slots i h = by (dec_le (suc i) s.sink)
    where
      by : Dec (i < s.sink) → slots_needed s (upward s (suc i)).rate ≤ (reservable_at s i).0
      by (yes l) = one_of (s.nr - 1) _ _ (omega (arith, P.checked.sink_branches (omega arith))) (omega (arith, path-used i l))
      by (no l) = one_of s.nr _ _ (P.checked.children (omega arith)) (routers-used i h (omega arith))

  down-slots : (i : ℕ) → i < s.sink → slots_needed s (downward s i).rate ≤ (reservable_at s i).0
  down-slots i h = omega (arith, path-used i h)

  -- and every window that starts with the interval fits it
  abbrev Fits : Rate → Type 0
  Fits ρ = 0 + (slots_of (row_timing s) ρ).0 * (row_timing s).slot.0 ≤ (row_timing s).interval.0

  fits : (ρ : Rate) (i : ℕ) → slots_needed s ρ ≤ (reservable_at s i).0 → Fits ρ
  unfolding slots_needed timing_of reservable_at
  fits ρ i h = omega (arith, window-fits s.so s.bo (reservations_at s i) (slots_of (row_timing s) ρ) P.checked.radio.orders h)

  pub windows-fit : (T : Tree) → Within s T → Windows s (lines s) T (λ v. 0)
  unfolding promise.network_of site_of printed_of link_load
  windows-fit T W v L = rw (line-slots s T W v L.node L.not_sink) (by (sort s T W v L.node L.not_sink))
    where
      by : Sort s T v → Fits (link_load s T v).rate
      by (end_node x n) = rw x (fits (sensor s).rate 0 (end-slots n))
      by (up_router x e i d h) = rw (x, e, d) (fits (upward s (suc i)).rate i (up-slots i h))
      by (down_router x e h) = rw (x, e) (fits (downward s (T.depth v)).rate (T.depth v) (down-slots (T.depth v) h))
