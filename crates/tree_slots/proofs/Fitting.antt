-- Numbers 5 and 7 by tables, router after router. Assumes nothing.
use Rattle.std.specs.Prelude.{Result, Ok, Err, ⊤}
use mathlib.Core.Path.{◌≡◌, refl, ap, ◌∙◌}
use mathlib.Core.List.{List}
use Prim.Native.Nat.{ℕ, zero, suc, ◌+◌, ◌-◌, ◌≤◌, ◌<◌}
use native.Mathlib.Numerals.{add-one}
use native.Mathlib.Omega.{arith}
use lib.ListN.{length, get_or}
use borrow.Author.Tests.{lt-ltb, le-ltb}
use Rattle.measure.specs.declared.Slots.{Slots}
use Rattle.measure.specs.Measures.{slots}
use Rattle.superframe_model.specs.Orders.{reservable}
use Rattle.links.specs.declared.Timing.{Timing}
use Rattle.refusals.specs.declared.Refusal.{Refusal}
use Rattle.refusals.specs.declared.Refusal.TheVariants.{InTree}
use Rattle.refusals.specs.declared.TreeRefusal.TheVariants.{RouterReservations, RouterSlots}
use Rattle.refusals.specs.Conditions.{first_broken, verdict}
use Rattle.refusals.proofs.Answering.{first-part-answers, second-part-answers}
use Rattle.tree_plan_model.specs.Tables.{router_by, routers_by, router_of, routers_in_from, Counted}

module _ (so : ℕ) (cs us : List ℕ) where
  -- one router: number 5, then 7
  module _ (r g : ℕ) (eg : g ≡ get_or cs r 0) where
    pub router-crowded : 7 < g → Err (InTree (RouterReservations r g)) ≡ verdict (router_by so cs us r)
    unfolding router_by first_broken
    router-crowded h = rw (← eg, lt-ltb 7 g h)

    module _ (l : Slots) (el : l ≡ reservable so g) where
      pub router-full : g ≤ 7 → l.0 < get_or us r 0 → Err (InTree (RouterSlots r (slots (get_or us r 0)) l)) ≡ verdict (router_by so cs us r)
      unfolding router_by first_broken
      router-full h k = rw (← eg, le-ltb 7 g h, ← el, lt-ltb l.0 (get_or us r 0) k)

      pub router-fits : g ≤ 7 → get_or us r 0 ≤ l.0 → (Ok tt) ≡ verdict (router_by so cs us r)
      unfolding router_by first_broken
      router-fits h k = rw (← eg, le-ltb 7 g h, ← el, le-ltb l.0 (get_or us r 0) k)

  -- routers one after another: those from r on, of n in all
  abbrev pub from : ℕ → ℕ → Result ⊤ Refusal
  from n r = verdict (routers_by so cs us (suc n - r) r)

  pub routers-broken : (n r : ℕ) (x : Refusal) → r ≤ n → verdict (router_by so cs us r) ≡ Err x → Err x ≡ from n r
  unfolding routers_by
  routers-broken n r x h e =
      let m : suc n - r ≡ suc (n - r) = omega arith in
      rw m (first-part-answers Err (Ok tt) (router_by so cs us r) (routers_by so cs us (n - r) (suc r)) x e)

  pub routers-next : (n r : ℕ) → r ≤ n → verdict (router_by so cs us r) ≡ Ok tt → from n (r + 1) ≡ from n r
  unfolding routers_by
  routers-next n r h e =
      let m : suc n - r ≡ suc (n - r) = omega arith in
      let k : suc n - (r + 1) ≡ n - r = omega arith in
      rw (m, k, add-one r) (second-part-answers Err (Ok tt) (router_by so cs us r) (routers_by so cs us (n - r) (suc r)) e)

  pub routers-end : (n r : ℕ) → n < r → (Ok tt) ≡ from n r
  unfolding routers_by first_broken
  routers-end n r h = let m : suc n - r ≡ 0 = omega arith in rw m

-- where the tables are right, the conditions are the same
module _ (a : Timing) (so : ℕ) (ps ns : List ℕ) (sink : ℕ) (cs us : List ℕ) (C : Counted a ps ns sink cs us) where
  router-right : (r : ℕ) → r < length ps → router_by so cs us r ≡ router_of a so ps ns sink r
  unfolding router_by router_of
  router-right r h = rw (C.counts r h, ← C.used r h)

  routers-right : (n r : ℕ) → r + n ≤ length ps → routers_by so cs us n r ≡ routers_in_from a so ps ns sink n r
  unfolding routers_by routers_in_from
  routers-right zero r h = refl
  routers-right (suc n) r h = rw (router-right r (omega arith), routers-right n (suc r) (omega arith))

  pub routers-counted : (v : Result ⊤ Refusal) → 1 ≤ length ps → v ≡ verdict (routers_by so cs us (length ps - 1) 1) → v ≡ verdict (routers_in_from a so ps ns sink (length ps - 1) 1)
  routers-counted v some e = e ∙ ap verdict (routers-right (length ps - 1) 1 (omega arith))
