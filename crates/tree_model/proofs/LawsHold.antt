-- The laws of specs/Laws. Assumes nothing.
use mathlib.Core.Path.{◌≡◌, refl, ap, subst, ◌∙◌}
use mathlib.Core.Bool.{Bool, true, false, cond, true≢false}
use mathlib.Core.List.{List, [], ◌∷◌}
use Prim.Native.Nat.{ℕ, suc, ◌*◌, ◌≤◌}
use native.Mathlib.Decide.{ℕ_discrete}
use native.Mathlib.Omega.{arith}
use borrow.Author.Tests.{eq-eqb, ne_eqb, lt-ltb}
use Rattle.measure.specs.declared.Slots.{Slots}
use Rattle.superframe_model.specs.Reservation.{Smallest}
use Rattle.superframe_model.proofs.OrderLaws.{window-fits}
use Rattle.network.specs.Counting.{All, none, each, bit}
use Rattle.network.proofs.Lists.{All-join}
use Rattle.links.specs.Link.{slots_of}
use Rattle.links.proofs.LinkLaws.{slots-hold}
use Rattle.settings_model.specs.declared.Radio.{Radio}
use Rattle.settings_model.specs.Laws.{CheckedRadio}
use Rattle.plan_model.specs.declared.Kind.TheVariants.{Sink}
use Rattle.plan_model.specs.Times.{timing_of}
use Rattle.plan_model.specs.Lines.{letter, same_kind}
use Rattle.plan_model.proofs.TimeLaws.{timed, interval-low, exchange-low}
use Rattle.plan_model.specs.declared.NodeLine.{NodeLine}
use Rattle.tree_model.specs.Tree.{Tree, is_listed}
use Rattle.tree_model.specs.Ways.{next, superframe_of, kind_of}
use Rattle.tree_model.specs.Loads.{entering}
use Rattle.tree_model.specs.Lines.{load_at, link_at, figures_at, line_at, lines}
use Rattle.tree_model.specs.Checks.{reserves, reservations_at, used_at, reservable_at, conditions}
use Rattle.refusals.proofs.Outcomes.{planned-unbroken, unbroken-planned}
use Rattle.refusals.specs.Outcome.{Planned}
use Rattle.tree_model.specs.Outcome.{outcome_of}
use Rattle.tree_model.specs.Promise.{Windows, Keeps, site_of, printed_of}
use Rattle.tree_model.specs.Laws.{Surveyed, Plannable, PlannedExactly, NoSlotTooMany, EveryLoadBounded, EveryPlanKeeps, WindowsExist}
use Rattle.tree_model.proofs.LoadBounds.{Low, input-low}
use Rattle.tree_model.proofs.WayLaws.{facing, superframe-node}
use Rattle.tree_model.proofs.Shares.{sum-has}
use Rattle.tree_model.proofs.Conditions.{unbroken-plannable, plannable-unbroken}
use Rattle.tree_model.proofs.NodeLines.{link-printed, link-rate, link-slots, no-slots}
use Rattle.tree_model.proofs.Promised.{keeps}
use Rattle.promise_model.specs.Promise as promise

-- ---- planned exactly

pub planned-exactly : PlannedExactly
unfolding outcome_of
planned-exactly b t s p = (
  λ e. let u = planned-unbroken (lines b t s) p (conditions b t s) e in (unbroken-plannable b t s u.0, u.1),
  λ h. unbroken-planned (lines b t s) (conditions b t s) (plannable-unbroken b t s h.0) ∙ ap Planned h.1,
)

-- what holds of the lines of a tree that can be planned holds of every plan
of-plans : (b : Radio) (t : Tree) (s : ℕ) (Q : List NodeLine → Type 0) → (Plannable b t s → Q (lines b t s))
    → (p : List NodeLine) → outcome_of b t s ≡ Planned p → Q p
of-plans b t s Q f p e = let h = (planned-exactly b t s p).0 e in subst Q h.1 (f h.0)

-- ---- no slot too many

module _ (b : Radio) (t : Tree) (s : ℕ) (C : CheckedRadio b) where
  abbrev Fewest : NodeLine → Type 0
  Fewest l = same_kind l.line.kind Sink ≡ false → Smallest l.line.figures.rate (timing_of b).slot (timing_of b).exchange l.line.figures.slots

  link-fewest : (v : ℕ) → Smallest (link_at b t s v).rate (timing_of b).slot (timing_of b).exchange (link_at b t s v).slots
  link-fewest v = rw (link-rate b t s v, link-slots b t s v (timed b C)) (slots-hold (timing_of b) (load_at b t s v).rate (timed b C))

  line-fewest : (v : ℕ) → Fewest (line_at b t s v)
  unfolding line_at figures_at kind_of same_kind letter
  line-fewest v = by (ℕ_discrete v s)
    where
      by : Dec (v ≡ s) → Fewest (line_at b t s v)
      by (yes e) k = absurd (true≢false (rw (eq-eqb v s e) at k))
      by (no n) k = rw (ne_eqb v s n) (link-fewest v)

  fewest : All Fewest (lines b t s)
  unfolding lines
  fewest = All-join t.nodes (λ i. cond (is_listed t (suc i)) (line_at b t s (suc i) ∷ []) []) (λ i h. by (is_listed t (suc i)) (suc i))
    where
      by : (c : Bool) (v : ℕ) → All Fewest (cond c (line_at b t s v ∷ []) [])
      by true v = each (line-fewest v) none
      by false v = none

pub no-slot-too-many : NoSlotTooMany
no-slot-too-many b t s p e = of-plans b t s (All (λ l. same_kind l.line.kind Sink ≡ false → Smallest l.line.figures.rate (timing_of b).slot (timing_of b).exchange l.line.figures.slots)) (λ P. fewest b t s P.checked) p e

-- ---- every load bounded

pub every-load-bounded : EveryLoadBounded
unfolding load_at entering
every-load-bounded b t s C S v one most =
    let l : Low (entering (timing_of b) t s v) =
    input-low (timing_of b) t S.planted S.ranged S.plain.without_summaries (record { interval = interval-low b C; exchange = omega (arith, exchange-low b C) }) v (next t s v) (facing t S.planted s S.sink_some S.sink_known (S.plain.without_gaps s S.sink_known) v one most (S.plain.without_gaps v most)) in
    record { rate = l.rate; burst = l.burst }

-- ---- demand 3

pub every-plan-keeps : EveryPlanKeeps
every-plan-keeps b t s p S e = of-plans b t s (Keeps b t s) (λ P. keeps b t s P.checked S) p e

-- ---- windows

-- a window of reservable slots fits the interval
reserved-fits : (b : Radio) (t : Tree) (s : ℕ) → CheckedRadio b → (r : ℕ) (k : Slots) → k.0 ≤ (reservable_at b t s r).0 → k.0 * (timing_of b).slot.0 ≤ (timing_of b).interval.0
unfolding reservable_at timing_of
reserved-fits b t s C r k h = window-fits b.so b.bo (reservations_at b t s r) k C.orders h

module _ (b : Radio) (t : Tree) (s : ℕ) (S : Surveyed t s) (P : Plannable b t s) where
  -- a link with traffic is among the reservations of its router
  among : (v : ℕ) → 1 ≤ v → v ≤ t.nodes → (v ≡ s → ⊥) → 1 ≤ (load_at b t s v).rate.0 → (slots_of (timing_of b) (load_at b t s v).rate).0 ≤ (used_at b t s (superframe_of t s v)).0
  unfolding used_at reserves bit
  among v one most m h =
      let r : ℕ = superframe_of t s v in
      let yes : reserves b t s r v ≡ true = rw (ne_eqb v s m, eq-eqb r r refl, lt-ltb 0 (load_at b t s v).rate.0 h) in
      omega (arith, rw yes at (sum-has (λ v. bit (reserves b t s r v) * (slots_of (timing_of b) (load_at b t s v).rate).0) v t.nodes one most))

  fits : (v : ℕ) → 1 ≤ v → v ≤ t.nodes → (v ≡ s → ⊥) → (slots_of (timing_of b) (load_at b t s v).rate).0 * (timing_of b).slot.0 ≤ (timing_of b).interval.0
  fits v one most m = by (ℕ_discrete (load_at b t s v).rate.0 0)
    where
      r : ℕ
      r = superframe_of t s v

      reserved : 1 ≤ (load_at b t s v).rate.0 → (slots_of (timing_of b) (load_at b t s v).rate).0 ≤ (reservable_at b t s r).0
      reserved h =
          let n = superframe-node t S.planted s S.sink_some S.sink_known (S.plain.without_gaps s S.sink_known) v one most (S.plain.without_gaps v most) m in
          omega (arith, among v one most m h, P.used r n.0 n.1)

      by : Dec ((load_at b t s v).rate.0 ≡ 0) → (slots_of (timing_of b) (load_at b t s v).rate).0 * (timing_of b).slot.0 ≤ (timing_of b).interval.0
      by (yes e) = rw (no-slots (timing_of b) (load_at b t s v).rate (timed b P.checked) e) (omega arith)
      by (no n) = reserved-fits b t s P.checked r (slots_of (timing_of b) (load_at b t s v).rate) (reserved (omega (arith, n)))

  windows : Windows b (lines b t s) t s (λ i. 0)
  unfolding promise.network_of site_of printed_of
  windows i L =
      let m : suc i ≡ s → ⊥ = λ e. L.not_sink (omega (arith, e)) in
      rw (link-printed b t S.plain s i L.node m, link-slots b t s (suc i) (timed b P.checked))
      (omega (arith, fits (suc i) (omega arith) L.node m))

pub windows-exist : WindowsExist
windows-exist b t s p S e = of-plans b t s (λ q. Windows b q t s (λ i. 0)) (λ P. windows b t s S P) p e
