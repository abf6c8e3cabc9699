-- What holds of plans: demands 2 and 3 as short statements. Assumes nothing: these are statements; proofs/LawsHold proves them.
use Rattle.std.specs.Prelude.{◌≡◌, ◌↔◌, false, List, [], ◌∷◌, ℕ, ◌+◌, ◌≤◌, ◌<◌}
use Rattle.superframe_model.specs.Reservation.{Smallest}
use Rattle.network.specs.Counting.{All}
use Rattle.settings_model.specs.declared.Settings.{Settings}
use Rattle.settings_model.specs.Laws.{Checked}
use Rattle.plan_model.specs.declared.Kind.TheVariants.{Sink}
use Rattle.plan_model.specs.declared.Line.{Line}
use Rattle.row_model.specs.Times.{row_timing, reservable_at}
use Rattle.row_model.specs.Loads.{upward, downward, at_sink}
use Rattle.row_model.specs.Checks.{routers, used_off_path, used_on_path}
use Rattle.plan_model.specs.Times.{superframes}
use Rattle.plan_model.specs.Lines.{line, same_kind}
use Rattle.row_model.specs.Lines.{sink_figures, lines}
use Rattle.refusals.specs.Outcome.{Planned}
use Rattle.row_model.specs.Outcome.{outcome_of}
use Rattle.row_model.specs.Bounds.{Sound, Bounded}
use Rattle.row_model.specs.Tree.{Tree, Within}
use Rattle.row_model.specs.Promise.{Windows, Keeps}
use Rattle.settings_model.specs.Checks.{radio_of}

-- ---- demand 2

-- document 01's conditions on settings as propositions
pub record Plannable (s : Settings) : Type 0 where
  -- numbers 3 and 4
  pub checked : Checked s
  -- number 5: at most 7 reservations in a superframe
  pub reservations : s.ne + s.nr ≤ 7
  -- number 6: each router's superframe fits the interval beside the others
  pub routers : routers s ≤ superframes (radio_of s)
  -- number 7: at each depth the slots used may be reserved there; the root is off the sink's path only where it is the sink
  pub off_path : (i : ℕ) → i ≤ s.h → (i ≡ 0 → s.sink ≡ 0) → (used_off_path s i).0 ≤ (reservable_at s i).0
  pub on_path : (i : ℕ) → i < s.sink → (used_on_path s i).0 ≤ (reservable_at s i).0

-- "A row is planned exactly when all listed conditions hold", and then with the lines of document 01's recurrences
abbrev pub PlannedExactly : Type 0
PlannedExactly = (s : Settings) (p : List Line) → (outcome_of s ≡ Planned p) ↔ (Plannable s × (lines s ≡ p))

-- "no reservation has a slot more than its rate needs": on every line of a link SLOTS is the smallest count that holds RATE
abbrev pub NoSlotTooMany : Type 0
NoSlotTooMany = (s : Settings) (p : List Line) → outcome_of s ≡ Planned p
    → All (λ l. same_kind l.kind Sink ≡ false → Smallest l.figures.rate (row_timing s).slot (row_timing s).exchange l.figures.slots) p

-- the bound on every load: none of a row that keeps numbers 3 to 6 has a rate of 2^30 or a burst of 2^58
pub record LoadsBounded (s : Settings) : Type 0 where
  pub upward : (i : ℕ) → Bounded (upward s i)
  pub downward : (i : ℕ) → i < s.sink → Bounded (downward s i)
  pub sink : Bounded (at_sink s)

abbrev pub EveryLoadBounded : Type 0
EveryLoadBounded = (s : Settings) → Sound s → LoadsBounded s

-- a row of one router without end nodes has line S alone, with DELAY 0, whatever its RATE: nothing passes a link
abbrev pub LoneSink : Type 0
LoneSink = (s : Settings) → Checked s → s.h ≡ 0 → s.ne ≡ 0
    → (outcome_of s ≡ Planned (line Sink 0 (sink_figures s) ∷ [])) × ((sink_figures s).delay.0 ≡ 0)

-- ---- demand 3

-- every planned row keeps its promise
abbrev pub EveryPlanKeeps : Type 0
EveryPlanKeeps = (s : Settings) (p : List Line) → outcome_of s ≡ Planned p → Keeps s p

-- it is a promise about something: in every tree within a planned row all windows fit, each for instance at the interval's start
abbrev pub WindowsExist : Type 0
WindowsExist = (s : Settings) (p : List Line) → outcome_of s ≡ Planned p → (T : Tree) → Within s T → Windows s p T (λ v. 0)
