-- The figures of a link, as they are made. Assumes nothing.
use mathlib.Core.Path.{◌≡◌, ◌∙◌}
use Prim.Native.Nat.{◌+◌, ◌*◌, ◌^◌, ◌≤◌}
use native.Mathlib.Nat.{mul-le-mul_right}
use native.Mathlib.Decide.{ℕ_discrete}
use native.Mathlib.Omega.{arith}
use borrow.Author.Tests.{eq-eqb, ne_eqb}
use Rattle.links.specs.declared.Timing.{Timing}
use Rattle.links.specs.declared.Load.{Load}
use Rattle.links.specs.declared.Reservation.{Reservation}
use Rattle.links.specs.declared.Figures.{Figures}
use Rattle.links.specs.Link.{after, reservation_of, figures_by, figures_of}
use Rattle.links.specs.Answers.{reservation_answered, figures_answered, Moderate}
use Rattle.links.proofs.Making.{reservation-fits, figures-fit}
use Rattle.links.proofs.LinkLaws.{after-bound, delay-bound}
use Rattle.plan_model.specs.Lines.{no_figures}
use Rattle.tree_plan_model.specs.Tables.{Light, link_for}

pub link-none : (a : Timing) (l : Load) (f : Figures) → l.rate.0 ≡ 0 → f ≡ no_figures → f ≡ link_for a l
unfolding link_for
link-none a l f e q = q ∙ rw (eq-eqb l.rate.0 0 e)

module _ (a : Timing) (l : Load) (light : Light a l) where
  -- its sums fit 64 bits
  moderate : 1 ≤ l.rate.0 → Moderate l (reservation_of a l.rate)
  unfolding after figures_of figures_by
  moderate p =
      let s = light.short in
      record {
        burst = omega (arith, after-bound a l, light.burst, mul-le-mul_right (a.interval.0 + 2 * a.exchange.0) light.rate, s.interval, s.exchange);
        delay = omega (arith, delay-bound a l light.timed p, light.burst, s.interval, s.exchange);
      }

  -- so its figures are the definition's
  pub link-made : (r : Reservation) (f : Figures) → (l.rate.0 ≡ 0 → ⊥) → r ≡ reservation_answered a l.rate → f ≡ figures_answered a.interval l r → f ≡ link_for a l
  unfolding link_for figures_of
  link-made r f n er ef =
      let e : r ≡ reservation_of a l.rate = er ∙ reservation-fits a l.rate light.timed (omega (arith, light.rate)) in
      ef ∙ rw (e, ne_eqb l.rate.0 0 n) (figures-fit a.interval l (reservation_of a l.rate) (moderate (omega (arith, n))))

  -- and its delay is low
  pub delay-low : (link_for a l).delay.0 ≤ 2 ^ 54
  unfolding link_for no_figures
  delay-low = by (ℕ_discrete l.rate.0 0)
    where
      by : Dec (l.rate.0 ≡ 0) → (link_for a l).delay.0 ≤ 2 ^ 54
      by (yes e) = rw (eq-eqb l.rate.0 0 e) (omega arith)
      by (no n) = rw (ne_eqb l.rate.0 0 n) (omega (arith, delay-bound a l light.timed (omega (arith, n)), light.burst, light.short.interval, light.short.exchange))
