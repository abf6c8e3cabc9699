-- No condition of numbers 3 to 7 is broken exactly where a tree can be planned. Assumes nothing.
use mathlib.Core.Path.{◌≡◌}
use mathlib.Core.List.{List, ◌++◌}
use Prim.Native.Nat.{ℕ, zero, suc, ◌+◌, ◌≤◌, ◌<◌}
use native.Mathlib.Decide.{ℕ_discrete}
use native.Mathlib.Omega.{arith}
use borrow.Author.Tests.{ltb-false, le-ltb}
use Rattle.refusals.specs.declared.Refusal.{Refusal}
use Rattle.refusals.specs.Conditions.{Condition, Unbroken}
use Rattle.refusals.proofs.Unbroken.{unbroken-append, unbroken-left, unbroken-right}
use Rattle.settings_model.specs.declared.Radio.{Radio}
use Rattle.settings_model.specs.Checks.{radio_checks}
use Rattle.settings_model.proofs.LawsHold.{unbroken-where-radio-checked}
use Rattle.plan_model.specs.Times.{superframes}
use Rattle.tree_model.specs.Tree.{Tree, routers}
use Rattle.tree_model.specs.Checks.{routers_fit, reservations_at, used_at, reservable_at, router_at, routers_from, conditions}
use Rattle.tree_model.specs.Laws.{Plannable}

module _ (b : Radio) (t : Tree) (sink : ℕ) where
  -- no condition on router r is broken
  abbrev Held : ℕ → Type 0
  Held r = Unbroken (router_at b t sink r)

  held-each : (n r : ℕ) → Unbroken (routers_from b t sink n r) → (q : ℕ) → r ≤ q → q < r + n → Held q
  unfolding routers_from
  held-each zero r u q l h = absurd (omega arith)
  held-each (suc n) r u q l h = by (ℕ_discrete r q) (held-each n (suc r) (unbroken-right (router_at b t sink r) (routers_from b t sink n (suc r)) u) q)
    where
      by : Dec (r ≡ q) → (suc r ≤ q → q < suc r + n → Held q) → Held q
      by (yes e) f = rw e at (unbroken-left (router_at b t sink r) (routers_from b t sink n (suc r)) u)
      by (no e) f = f (omega arith) (omega arith)

  held_all : (n r : ℕ) → ((q : ℕ) → r ≤ q → q < r + n → Held q) → Unbroken (routers_from b t sink n r)
  unfolding routers_from
  held_all zero r f = tt
  held_all (suc n) r f = unbroken-append (router_at b t sink r) (routers_from b t sink n (suc r)) (f r (omega arith) (omega arith)) (held_all n (suc r) (λ q l h. f q (omega arith) (omega arith)))

  abbrev before : List (Condition Refusal)
  before = radio_checks b ++ routers_fit b t

  pub unbroken-plannable : Unbroken (conditions b t sink) → Plannable b t sink
  unfolding conditions routers_fit router_at
  unbroken-plannable u =
      let to-6 : Unbroken before = unbroken-left before (routers_from b t sink t.nodes 1) u in
      let six : Unbroken (routers_fit b t) = unbroken-right (radio_checks b) (routers_fit b t) to-6 in
      let each : (r : ℕ) → 1 ≤ r → r ≤ t.nodes → Held r = λ r o k. held-each t.nodes 1 (unbroken-right before (routers_from b t sink t.nodes 1) u) r o (omega arith) in
      record {
        checked = (unbroken-where-radio-checked b).0 (unbroken-left (radio_checks b) (routers_fit b t) to-6);
        routers = ltb-false (superframes b) (routers t) six.0;
        reservations = λ r o k. ltb-false 7 (reservations_at b t sink r) (each r o k).0;
        used = λ r o k. ltb-false (reservable_at b t sink r).0 (used_at b t sink r).0 (each r o k).1.0;
      }

  pub plannable-unbroken : Plannable b t sink → Unbroken (conditions b t sink)
  unfolding conditions routers_fit router_at
  plannable-unbroken P =
      unbroken-append before (routers_from b t sink t.nodes 1)
      (unbroken-append (radio_checks b) (routers_fit b t) ((unbroken-where-radio-checked b).1 P.checked) (le-ltb (superframes b) (routers t) P.routers, tt))
      (held_all t.nodes 1 (λ r o k. (le-ltb 7 (reservations_at b t sink r) (P.reservations r o (omega arith)), (le-ltb (reservable_at b t sink r).0 (used_at b t sink r).0 (P.used r o (omega arith)), tt))))
