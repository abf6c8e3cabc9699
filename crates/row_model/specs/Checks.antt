-- Numbers 5 to 7 of document 01's table of conditions, and all conditions on settings in their order. Assumes nothing: these are definitions.
use Rattle.std.specs.Prelude.{ℕ, zero, suc, ◌+◌, ◌-◌, ◌*◌, ◌^◌, Bool, not, ◌&&◌, List, [], ◌∷◌, ◌++◌, eqb, ltb}
use Rattle.refusals.specs.declared.Refusal.{Refusal}
use Rattle.refusals.specs.declared.Refusal.TheVariants.{Reservations, Superframes, SlotsUsed}
use Rattle.refusals.specs.Conditions.{Condition, condition}
use Rattle.measure.specs.declared.Slots.{Slots}
use Rattle.measure.specs.declared.Rate.{Rate}
use Rattle.measure.specs.Measures.{slots}
use Rattle.network.specs.Counting.{total}
use Rattle.links.specs.Link.{slots_of}
use Rattle.settings_model.specs.declared.Settings.{Settings}
use Rattle.settings_model.specs.Checks.{radio_of, checks}
use Rattle.plan_model.specs.Times.{superframes}
use Rattle.row_model.specs.Times.{row_timing, routers_below, reservable_at}
use Rattle.row_model.specs.Loads.{sensor, upward, downward}

-- ---- number 5

-- "NE + NR > 7 reservations"
unfoldable pub reservations : Settings → List (Condition Refusal)
reservations s = condition (ltb 7 (s.ne + s.nr)) (Reservations s.ne s.nr) ∷ []

-- ---- number 6

-- "routers, the sum of NR^j for j = 0 to H (1 where H = 0)"
unfoldable pub routers : Settings → ℕ
routers s = total (λ j. s.nr ^ j) (suc s.h)

-- "routers .. more than 2^(BO − SO)"
unfoldable pub routers_fit : Settings → List (Condition Refusal)
routers_fit s = condition (ltb (superframes (radio_of s)) (routers s)) (Superframes (routers s) (superframes (radio_of s))) ∷ []

-- ---- number 7

-- the slots of the reservation for a rate
unfoldable pub slots_needed : Settings → Rate → ℕ
slots_needed s ρ = (slots_of (row_timing s) ρ).0

-- what NE end nodes and n child routers at depth i + 1 use of their router's superframe
unfoldable pub used_below : Settings → ℕ → ℕ → ℕ
used_below s n i = s.ne * slots_needed s (sensor s).rate + n * slots_needed s (upward s (suc i)).rate

-- "Slots used at depth i: NE end node reservations, and at i < H also NR upward ones;"
unfoldable pub used_off_path : Settings → ℕ → Slots
used_off_path s i = slots (used_below s (routers_below s i) i)

-- "on the sink's path (i < SINK) one of those NR is replaced by the downward one."
unfoldable pub used_on_path : Settings → ℕ → Slots
used_on_path s i = slots (used_below s (s.nr - 1) i + slots_needed s (downward s i).rate)

-- "A depth with 1 ≤ i < SINK has both sorts of router": all routers of a depth but the one on the sink's path, which the root is
-- where SINK > 0
unfoldable pub has_off_path : Settings → ℕ → Bool
has_off_path s i = not (eqb i 0 && ltb 0 s.sink)

unfoldable pub has_on_path : Settings → ℕ → Bool
has_on_path s i = ltb i s.sink

-- "slots used exceed L" at depth i, its own L, for each sort of router
unfoldable pub off_path_at : Settings → ℕ → Condition Refusal
off_path_at s i = condition (has_off_path s i && ltb (reservable_at s i).0 (used_off_path s i).0) (SlotsUsed i (used_off_path s i) (reservable_at s i))

unfoldable pub on_path_at : Settings → ℕ → Condition Refusal
on_path_at s i = condition (has_on_path s i && ltb (reservable_at s i).0 (used_on_path s i).0) (SlotsUsed i (used_on_path s i) (reservable_at s i))

-- "both are checked"
unfoldable pub used_at : Settings → ℕ → List (Condition Refusal)
used_at s i = off_path_at s i ∷ on_path_at s i ∷ []

-- at n depths from depth i on: "within 7 the lowest depth" answers
unfoldable pub used_from : Settings → ℕ → ℕ → List (Condition Refusal)
used_from s zero i = []
used_from s (suc n) i = used_at s i ++ used_from s n (suc i)

-- ---- numbers 3 to 7, in their order

unfoldable pub conditions : Settings → List (Condition Refusal)
conditions s = checks s ++ reservations s ++ routers_fit s ++ used_from s (suc s.h) 0
