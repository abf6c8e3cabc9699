-- The laws of specs/Laws. Assumes nothing.
use mathlib.Core.Path.{◌≡◌, refl, ap, ◌∙◌, subst}
use mathlib.Core.Bool.{Bool, true, false, cond, true≢false}
use mathlib.Core.List.{List, [], ◌∷◌}
use Prim.Native.Nat.{ℕ, zero, suc}
use native.Mathlib.Omega.{arith}
use lib.Dec.{ltb}
use Rattle.superframe_model.specs.Reservation.{Smallest}
use Rattle.network.specs.Counting.{All, none, each}
use Rattle.network.proofs.Lists.{All-append, All-join}
use Rattle.links.specs.declared.Load.{Load}
use Rattle.links.specs.Link.{reservation_of, figures_by, figures_of}
use Rattle.links.proofs.LinkLaws.{slots-hold}
use Rattle.settings_model.specs.declared.Settings.{Settings}
use Rattle.settings_model.specs.Laws.{Checked}
use Rattle.plan_model.specs.declared.Kind.{Kind}
use Rattle.plan_model.specs.declared.Kind.TheVariants.{EndNode, Upward, Downward, Sink}
use Rattle.plan_model.specs.declared.Line.{Line}
use Rattle.row_model.specs.Times.{row_timing}
use Rattle.row_model.specs.Loads.{sensor, upward, downward, sink_at, at_sink}
use Rattle.row_model.specs.Checks.{conditions}
use Rattle.row_model.specs.Lines.{link_for, end_link, up_link, down_link, end_lines, up_lines, down_lines, lines}
use Rattle.plan_model.specs.Lines.{line, letter, same_kind}
use Rattle.refusals.proofs.Outcomes.{planned-unbroken, unbroken-planned}
use Rattle.refusals.specs.Outcome.{Planned}
use Rattle.row_model.specs.Outcome.{outcome_of}
use Rattle.row_model.specs.Bounds.{Bounded}
use Rattle.row_model.specs.Promise.{Keeps}
use Rattle.row_model.specs.Laws.{Plannable, PlannedExactly, NoSlotTooMany, EveryLoadBounded, EveryPlanKeeps, WindowsExist}
use Rattle.plan_model.proofs.TimeLaws.{timed}
use Rattle.row_model.proofs.LoadBounds.{upward-bounded, downward-bounded, sink-below-bounded}
use Rattle.row_model.proofs.Conditions.{unbroken-plannable, plannable-unbroken}
use Rattle.row_model.proofs.Promised.{keeps}
use Rattle.row_model.proofs.WindowsFit.{windows-fit}
use Rattle.settings_model.specs.Checks.{radio_of}

-- ---- planned exactly

pub planned-exactly : PlannedExactly
unfolding outcome_of
planned-exactly s p = (
  λ e. let u = planned-unbroken (lines s) p (conditions s) e in (unbroken-plannable s u.0, u.1),
  λ h. unbroken-planned (lines s) (conditions s) (plannable-unbroken s h.0) ∙ ap Planned h.1,
)

-- what holds of the lines of settings that can be planned holds of every plan
of-plans : (Q : Settings → List Line → Type 0) → ((s : Settings) → Plannable s → Q s (lines s))
    → (s : Settings) (p : List Line) → outcome_of s ≡ Planned p → Q s p
of-plans Q f s p e = let h = (planned-exactly s p).0 e in subst (Q s) h.1 (f s h.0)

-- ---- no slot too many

module _ (s : Settings) (C : Checked s) where
  -- on a link's line SLOTS is the smallest count that holds RATE
  abbrev Fewest : Line → Type 0
  Fewest l = same_kind l.kind Sink ≡ false → Smallest l.figures.rate (row_timing s).slot (row_timing s).exchange l.figures.slots

  link-fewest : (k : Kind) (d : ℕ) (a : Load) → Fewest (line k d (link_for s a))
  unfolding link_for figures_of figures_by reservation_of
  link-fewest k d a h = slots-hold (row_timing s) a.rate (timed (radio_of s) C.radio)

  end-fewest : All Fewest (end_lines s)
  unfolding end_lines end_link
  end-fewest = by (ltb 0 s.ne)
    where
      by : (b : Bool) → All Fewest (cond b (line EndNode 0 (end_link s) ∷ []) [])
      by true = each (link-fewest EndNode 0 (sensor s)) none
      by false = none

  up-fewest : (n : ℕ) → All Fewest (up_lines s n)
  unfolding up_lines up_link
  up-fewest zero = none
  up-fewest (suc i) = each (link-fewest Upward (suc i) (upward s (suc i))) (up-fewest i)

  down-fewest : (n : ℕ) → All Fewest (down_lines s n)
  unfolding down_lines down_link
  down-fewest n = All-join n _ (λ i h. each (link-fewest Downward i (downward s i)) none)

  fewest : All Fewest (lines s)
  unfolding lines letter same_kind
  fewest = All-append (All-append (All-append end-fewest (up-fewest s.h)) (down-fewest s.sink)) (each (λ e. absurd (true≢false e)) none)

pub no-slot-too-many : NoSlotTooMany
no-slot-too-many = of-plans _ (λ s P. fewest s P.checked)

-- ---- every load bounded

pub every-load-bounded : EveryLoadBounded
unfolding sink_at at_sink
every-load-bounded s S = record { upward = upward-bounded s S; downward = downward-bounded s S; sink = by s.sink refl }
  where
    by : (n : ℕ) → s.sink ≡ n → Bounded (sink_at s n)
    by zero e = upward-bounded s S 0
    by (suc i) e = sink-below-bounded s S i (omega arith)

-- ---- demand 3

pub every-plan-keeps : EveryPlanKeeps
every-plan-keeps = of-plans Keeps (λ s P. keeps s P.checked)

pub windows-exist : WindowsExist
windows-exist = of-plans _ windows-fit
