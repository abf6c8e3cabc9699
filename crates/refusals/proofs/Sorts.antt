-- Every refusal is of a sort of the table, and is placed where that row says, or at its own place where it says none. Assumes nothing.
use mathlib.Core.Path.{◌≡◌, refl, ap}
use mathlib.Core.Bool.{Bool, true, ◌&&◌, and-eq-true_iff}
use mathlib.Core.List.{List, [], ◌∷◌}
use Prim.Native.Nat.{ℕ, zero, suc, ◌≤◌, ◌<◌}
use native.Mathlib.Omega.{arith}
use lib.Dec.{ltb}
use lib.ListN.{length, get_or}
use borrow.Author.Tests.{ltb-true}
use Rattle.refusals.specs.declared.Facts.{Facts}
use Rattle.refusals.specs.declared.Refusal.{Refusal}
use Rattle.refusals.specs.declared.Refusal.TheVariants.{Names, Unreadable, TextAfter, OutOfRange, AtOdds, Reservations, Superframes, SlotsUsed, LentTooShort, InputTooLong, InTree}
use Rattle.refusals.specs.declared.TreeRefusal.{TreeRefusal}
use Rattle.refusals.specs.declared.TreeRefusal.TheVariants.{NodeNames, NodeLine, SinkNode, RouterReservations, RouterSlots}
use Rattle.refusals.specs.declared.Conflict.{Conflict}
use Rattle.refusals.specs.declared.Conflict.TheVariants.{Orders, Routers, Sensors, SinkDepth, SinkBranches, FrameLength, Unacknowledged}
use Rattle.refusals.specs.Table.{Placing, Always, Own, Sort, sort, table, sort_at, place_said}
use Rattle.refusals.specs.Refusals.{conflict_facts, tree_facts, facts_of, number_of}

-- the place that a row leaves of one that is offered
unfoldable pub place_for : Placing → ℕ → ℕ
place_for (Always n) p = n
place_for Own p = p

-- what is computed of each refusal
pub record Known : Type 0 where
  pub inside : Bool
  pub place : ℕ

found : Facts → Known
found f = record { inside = ltb f.sort (length table); place = place_for (sort_at f.sort).place f.place }

wanted : Facts → Known
wanted f = record { inside = true; place = f.place }

conflict-known : (c : Conflict) → found (conflict_facts c) ≡ wanted (conflict_facts c)
unfolding found wanted table sort_at place_said place_for conflict_facts
conflict-known (Orders so bo) = refl
conflict-known (Routers nr h) = refl
conflict-known (Sensors ne own) = refl
conflict-known (SinkDepth sink h) = refl
conflict-known (SinkBranches sink nr) = refl
conflict-known (FrameLength head payload) = refl
conflict-known (Unacknowledged loss ack) = refl

tree-known : (r : TreeRefusal) → found (tree_facts r) ≡ wanted (tree_facts r)
unfolding found wanted table sort_at place_said place_for tree_facts
tree-known NodeNames = refl
tree-known (NodeLine line) = refl
tree-known SinkNode = refl
tree-known (RouterReservations router reservations) = refl
tree-known (RouterSlots router used reservable) = refl

known : (r : Refusal) → found (facts_of r) ≡ wanted (facts_of r)
unfolding found wanted table sort_at place_said place_for facts_of
known Names = refl
known (Unreadable column) = refl
known (TextAfter column) = refl
known (OutOfRange column value) = refl
known (AtOdds conflict) = conflict-known conflict
known (Reservations ne nr) = refl
known (Superframes routers superframes) = refl
known (SlotsUsed depth used reservable) = refl
known LentTooShort = refl
known InputTooLong = refl
known (InTree refusal) = tree-known refusal

module _ (r : Refusal) where
  pub sort-inside : (facts_of r).sort < length table
  unfolding found wanted
  sort-inside = ltb-true (facts_of r).sort (length table) (ap (λ (k : Known). k.inside) (known r))

  pub place_kept : place_for (sort_at (facts_of r).sort).place (facts_of r).place ≡ (facts_of r).place
  unfolding found wanted
  place_kept = ap (λ (k : Known). k.place) (known r)

-- ---- what holds of every row holds of a row

unfoldable pub every : (Sort → Bool) → List Sort → Bool
every f [] = true
every f (s ∷ ss) = f s && every f ss

pub every-at : (f : Sort → Bool) (l : List Sort) (k : ℕ) (d : Sort) → every f l ≡ true → k < length l → f (get_or l k d) ≡ true
unfolding every
every-at f [] k d e h = absurd (omega arith)
every-at f (s ∷ ss) zero d e h = ((and-eq-true_iff (f s) (every f ss)).0 e).0
every-at f (s ∷ ss) (suc k) d e h = every-at f ss k d ((and-eq-true_iff (f s) (every f ss)).0 e).1 (omega arith)

-- so every refusal has a number above 0
pub numbered : (r : Refusal) → 1 ≤ number_of r
unfolding number_of sort_at table every
numbered r = ltb-true 0 (number_of r) (every-at (λ s. ltb 0 s.number) table (facts_of r).sort (sort 0 (Always 0) "") refl (sort-inside r))
