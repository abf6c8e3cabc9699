-- Lines, put one behind another. Assumes nothing.
use mathlib.Core.Path.{◌≡◌, ◌∙◌}
use Prim.Native.Nat.{ℕ, zero, suc, ◌+◌, ◌-◌, ◌≤◌, ◌<◌}
use native.Mathlib.Numerals.{add-one}
use native.Mathlib.Omega.{arith}
use Rattle.measure.specs.declared.Symbols.{Symbols}
use Rattle.links.specs.declared.Load.{Load}
use Rattle.links.specs.declared.Figures.{Figures}
use Rattle.links.specs.Link.{after, reservation_of, figures_by, figures_of}
use Rattle.links.specs.Answers.{figures_answered, Moderate}
use Rattle.links.proofs.Making.{figures-fit}
use Rattle.links.proofs.LinkLaws.{delay-bound}
use Rattle.settings_model.specs.declared.Settings.{Settings}
use Rattle.plan_model.specs.declared.Kind.TheVariants.{Upward, Downward}
use Rattle.row_model.specs.Times.{row_timing}
use Rattle.row_model.specs.Loads.{sensor, left, upward, downward}
use Rattle.plan_model.specs.Lines.{line}
use Rattle.row_model.specs.Lines.{link_for, end_link, up_link, down_link, up_lines}
use Rattle.row_model.specs.Bounds.{Sound, Bounded}
use Rattle.plan_model.proofs.TimeLaws.{timed, interval-low, exchange-low}
use Rattle.row_model.proofs.LoadBounds.{sensor-bounded, sensor-left-bounded, upward-bounded, upward-left-bounded, downward-bounded, downward-left-bounded}
use Rattle.row_model.proofs.Recurrences.{sensor-some, upward-some, downward-some}
use Rattle.row_plan_model.specs.declared.Link.{Link}
use Rattle.row_plan_model.specs.Inner.{link_of, link_up, link_down}
use Rattle.row_plan_model.specs.Pages.{Page, pushed, filled, down_lines_from}
use Rattle.settings_model.specs.Checks.{radio_of}

-- ---- the figures of a line

module _ (s : Settings) (S : Sound s) where
  -- the sums of a link that a bounded load enters fit 64 bits
  moderate : (a : Load) → Bounded a → Bounded (left s a) → 1 ≤ a.rate.0 → Moderate a (reservation_of (row_timing s) a.rate)
  unfolding left after figures_of figures_by
  moderate a h k p = record {
    burst = omega (arith, k.burst);
    delay = omega (arith, delay-bound (row_timing s) a (timed (radio_of s) S.checked.radio) p, h.burst, interval-low (radio_of s) S.checked.radio, exchange-low (radio_of s) S.checked.radio);
  }

  -- figures as they are made are those of the link that the load enters
  figures-made : (a : Load) (v : Link) (t : Symbols) (f : Figures) → Bounded a → Bounded (left s a) → 1 ≤ a.rate.0
      → t ≡ (row_timing s).interval → v ≡ link_of (row_timing s) a → f ≡ figures_answered t v.load v.reservation → f ≡ link_for s a
  unfolding link_for figures_of link_of
  figures-made a v t f h k p et ev e = e ∙ rw (ev, et) (figures-fit (row_timing s).interval a (reservation_of (row_timing s) a.rate) (moderate a h k p))

  pub end-figures : (v : Link) (t : Symbols) (f : Figures) → t ≡ (row_timing s).interval → v ≡ link_of (row_timing s) (sensor s)
      → f ≡ figures_answered t v.load v.reservation → f ≡ end_link s
  unfolding end_link
  end-figures v t f = figures-made (sensor s) v t f (sensor-bounded s S) (sensor-left-bounded s S) (sensor-some s S.checked)

  pub up-figures : (i : ℕ) (v : Link) (t : Symbols) (f : Figures) → t ≡ (row_timing s).interval → v ≡ link_up s i
      → f ≡ figures_answered t v.load v.reservation → f ≡ up_link s i
  unfolding up_link link_up
  up-figures i v t f = figures-made (upward s i) v t f (upward-bounded s S i) (upward-left-bounded s S i) (upward-some s S.checked i)

  pub down-figures : (i : ℕ) (v : Link) (t : Symbols) (f : Figures) → i < s.sink → t ≡ (row_timing s).interval → v ≡ link_down s i
      → f ≡ figures_answered t v.load v.reservation → f ≡ down_link s i
  unfolding down_link link_down
  down-figures i v t f h = figures-made (downward s i) v t f (downward-bounded s S i h) (downward-left-bounded s S i h) (downward-some s S.checked i)

-- ---- the lines of the depths

-- the upward line of depth i, and those of the depths above it
pub up_step : (s : Settings) (t : Page) (i : ℕ) → 0 < i
    → filled (pushed t (line Upward i (up_link s i))) (up_lines s (i - 1)) ≡ filled t (up_lines s i)
unfolding filled up_lines
up_step s t zero h = absurd (omega arith)
up_step s t (suc n) h = let e : suc n - 1 ≡ n = omega arith in rw e

pub up-end : (s : Settings) (t : Page) (i : ℕ) → i ≡ 0 → filled t (up_lines s i) ≡ t
unfolding filled up_lines
up-end s t i e = rw e

-- the downward line of depth i, and those of the depths below it
pub down_step : (s : Settings) (t : Page) (i : ℕ) → i < s.sink
    → filled (pushed t (line Downward i (down_link s i))) (down_lines_from s (s.sink - (i + 1)) (i + 1)) ≡ filled t (down_lines_from s (s.sink - i) i)
unfolding filled down_lines_from
down_step s t i h = let e : s.sink - i ≡ suc (s.sink - (i + 1)) = omega arith in rw (e, add-one i)

pub down-end : (s : Settings) (t : Page) (i : ℕ) → s.sink ≤ i → filled t (down_lines_from s (s.sink - i) i) ≡ t
unfolding filled down_lines_from
down-end s t i h = let e : s.sink - i ≡ 0 = omega arith in rw e
