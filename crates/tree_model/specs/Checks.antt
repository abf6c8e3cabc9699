-- Numbers 3 to 7 of a surveyed tree, in their order (document 02, E3). Assumes nothing: these are definitions.
use Rattle.std.specs.Prelude.{ℕ, zero, suc, ◌*◌, Bool, not, ◌&&◌, List, [], ◌∷◌, ◌++◌, eqb, ltb}
use Rattle.refusals.specs.declared.Refusal.{Refusal}
use Rattle.refusals.specs.declared.Refusal.TheVariants.{Superframes, InTree}
use Rattle.refusals.specs.declared.TreeRefusal.TheVariants.{RouterReservations, RouterSlots}
use Rattle.refusals.specs.Conditions.{Condition, condition}
use Rattle.measure.specs.declared.Slots.{Slots}
use Rattle.measure.specs.Measures.{slots}
use Rattle.superframe_model.specs.Orders.{reservable}
use Rattle.links.specs.Link.{slots_of}
use Rattle.network.specs.Counting.{bit}
use Rattle.settings_model.specs.declared.Radio.{Radio}
use Rattle.settings_model.specs.Checks.{radio_checks}
use Rattle.plan_model.specs.Times.{timing_of, superframes}
use Rattle.tree_model.specs.Tree.{Tree, sum_to, routers}
use Rattle.tree_model.specs.Ways.{superframe_of}
use Rattle.tree_model.specs.Lines.{load_at}

-- ---- number 6

-- "more than 2^(BO − SO)" routers
unfoldable pub routers_fit : Radio → Tree → List (Condition Refusal)
routers_fit b t = condition (ltb (superframes b) (routers t)) (Superframes (routers t) (superframes b)) ∷ []

-- ---- numbers 5 and 7, router by router

-- the link of node v lies in the superframe of router r, and has traffic: "Links with rate 0 get no reservation". The sink has no link.
unfoldable pub reserves : Radio → Tree → ℕ → ℕ → ℕ → Bool
reserves b t sink r v = not (eqb v sink) && eqb (superframe_of t sink v) r && ltb 0 (load_at b t sink v).rate.0

-- the reservations in the superframe of router r, and the slots that they use
unfoldable pub reservations_at : Radio → Tree → ℕ → ℕ → ℕ
reservations_at b t sink r = sum_to (λ v. bit (reserves b t sink r v)) t.nodes

unfoldable pub used_at : Radio → Tree → ℕ → ℕ → Slots
used_at b t sink r = slots (sum_to (λ v. bit (reserves b t sink r v) * (slots_of (timing_of b) (load_at b t sink v).rate).0) t.nodes)

-- L of router r, with as many reservations as it has (E2)
unfoldable pub reservable_at : Radio → Tree → ℕ → ℕ → Slots
reservable_at b t sink r = reservable b.so (reservations_at b t sink r)

-- "5 and 7 with that number as place"
unfoldable pub router_at : Radio → Tree → ℕ → ℕ → List (Condition Refusal)
router_at b t sink r =
    condition (ltb 7 (reservations_at b t sink r)) (InTree (RouterReservations r (reservations_at b t sink r)))
    ∷ condition (ltb (reservable_at b t sink r).0 (used_at b t sink r).0) (InTree (RouterSlots r (used_at b t sink r) (reservable_at b t sink r)))
    ∷ []

-- "router by router from the lowest number": n numbers from r on. A node without children has no reservation in a superframe of its own, so
-- it breaks neither.
unfoldable pub routers_from : Radio → Tree → ℕ → ℕ → ℕ → List (Condition Refusal)
routers_from b t sink zero r = []
routers_from b t sink (suc n) r = router_at b t sink r ++ routers_from b t sink n (suc r)

-- ---- numbers 3 to 7, in their order

unfoldable pub conditions : Radio → Tree → ℕ → List (Condition Refusal)
conditions b t sink = radio_checks b ++ routers_fit b t ++ routers_from b t sink t.nodes 1
