-- `tree_slots::routers::router_fits` meets its contract. Assumes nothing.
use mathlib.Core.Path.{◌≡◌, ap, ◌∙◌}
use Prim.Native.Nat.{ℕ, min, ◌≤◌}
use Rattle.measure.specs.declared.Slots.{Slots}
use native.Mathlib.Omega.{arith}
use Rattle.superframe_model.specs.Orders.{reservable}
use Rattle.tree_slots.proofs.Fitting.{router-crowded, router-full, router-fits}
use Rattle.tree_slots.proofs.routers.router_fits.Goals as goal

-- the slots that may be reserved
reservable-at : (so k : ℕ) (r : Slots) → so ≤ 14 → r ≡ reservable (min so 14) k → r ≡ reservable so k
reservable-at so k r h e = let z : min so 14 ≡ so = omega (arith, h) in e ∙ ap (λ (n : ℕ). reservable n k) z

pub returns-then-reservations-gt-MOST_RESERVATIONS : goal.returns-then-reservations-gt-MOST_RESERVATIONS
returns-then-reservations-gt-MOST_RESERVATIONS c =
    let x = c.args in
    router-crowded x.so x.counts.now x.used.now x.router _ c.from-reservations.ensures (omega (arith, c.if-reservations-gt-MOST_RESERVATIONS.true))

pub returns-then-reservable-used : goal.returns-then-reservable-used
returns-then-reservable-used c =
    let x = c.args in
    router-full x.so x.counts.now x.used.now x.router _ c.from-reservations.ensures _ (reservable-at x.so _ _ c.requires.so_bound c.reservable_slots-reservable.ensures) (omega (arith, c.if-reservations-gt-MOST_RESERVATIONS.false)) (omega (arith, c.if-reservable-used.true))

pub returns : goal.returns
returns c =
    let x = c.args in
    router-fits x.so x.counts.now x.used.now x.router _ c.from-reservations.ensures _ (reservable-at x.so _ _ c.requires.so_bound c.reservable_slots-reservable.ensures) (omega (arith, c.if-reservations-gt-MOST_RESERVATIONS.false)) (omega (arith, c.if-reservable-used.false))
