-- The lines of a sound row, as they are put: what their delays come to, and that they are the plan's. Assumes nothing.
use mathlib.Core.Path.{◌≡◌, refl, sym, ap, ◌∙◌}
use mathlib.Core.Bool.{Bool, true, false, cond}
use mathlib.Core.List.{List, [], ◌∷◌, ◌++◌, append-nil}
use Prim.Native.Nat.{ℕ, zero, suc, ◌+◌, ◌*◌, ◌^◌, ◌≤◌, ◌<◌}
use native.Mathlib.Nat.{mul-le-mul_right}
use native.Mathlib.Omega.{arith}
use lib.Dec.{ltb}
use lib.Seq.{append_snoc}
use Rattle.measure.specs.Measures.{symbols}
use Rattle.measure.proofs.Limits.{up_to_fits}
use Rattle.links.specs.declared.Load.{Load}
use Rattle.links.proofs.LinkLaws.{delay-bound}
use Rattle.network.specs.Counting.{total, join}
use Rattle.settings_model.specs.declared.Settings.{Settings}
use Rattle.plan_model.specs.declared.Kind.TheVariants.{EndNode, Downward, Sink}
use Rattle.plan_model.specs.declared.Line.{Line}
use Rattle.row_model.specs.Times.{row_timing}
use Rattle.row_model.specs.Loads.{sensor, upward, downward}
use Rattle.plan_model.specs.Lines.{line}
use Rattle.row_model.specs.Lines.{link_for, end_link, up_link, down_link, total_delay, sink_figures, end_lines, up_lines, down_lines, lines}
use Rattle.row_model.specs.Bounds.{Sound, Bounded}
use Rattle.plan_model.proofs.TimeLaws.{timed, interval-low, exchange-low}
use Rattle.row_model.proofs.LoadBounds.{sensor-bounded, upward-bounded, downward-bounded}
use Rattle.row_model.proofs.Recurrences.{sensor-some, upward-some, downward-some}
use Rattle.row_plan_model.specs.Pages.{Page, pushed, filled, down_lines_from}
use Rattle.row_plan_model.proofs.Whole.{delays, delays-append, page_of, filled-append, filled-lines, pushed-lines}
use Rattle.settings_model.specs.Checks.{radio_of}

-- ---- the downward lines

down-from : (s : Settings) (n i : ℕ) → down_lines s i ++ down_lines_from s n i ≡ down_lines s (i + n)
unfolding down_lines_from down_lines join
down-from s zero i = let e : i ≡ i + 0 = omega arith in append-nil (down_lines s i) ∙ ap (down_lines s) e
down-from s (suc n) i =
    let e : suc i + n ≡ i + suc n = omega arith in
    sym (append_snoc (down_lines s i) (line Downward i (down_link s i)) (down_lines_from s n (suc i))) ∙ down-from s n (suc i) ∙ ap (down_lines s) e

down_lines_lem : (s : Settings) (n : ℕ) → down_lines_from s n 0 ≡ down_lines s n
unfolding down_lines join
down_lines_lem s n = let e : 0 + n ≡ n = omega arith in down-from s n 0 ∙ ap (down_lines s) e

-- the lines of the links
unfoldable pub link_lines : Settings → List Line
link_lines s = end_lines s ++ up_lines s s.h ++ down_lines s s.sink

-- ---- what their delays come to

end-delays : (s : Settings) → delays (end_lines s) ≡ cond (ltb 0 s.ne) (end_link s).delay.0 0
unfolding end_lines delays
end-delays s = by (ltb 0 s.ne)
  where
    by : (b : Bool) → delays (cond b (line EndNode 0 (end_link s) ∷ []) []) ≡ cond b (end_link s).delay.0 0
    by true = omega arith
    by false = refl

up-delays : (s : Settings) (n : ℕ) → delays (up_lines s n) ≡ total (λ i. (up_link s (suc i)).delay.0) n
unfolding up_lines delays total
up-delays s zero = refl
up-delays s (suc n) = omega (arith, up-delays s n)

down-delays : (s : Settings) (n : ℕ) → delays (down_lines s n) ≡ total (λ i. (down_link s i).delay.0) n
unfolding down_lines join delays total
down-delays s zero = refl
down-delays s (suc n) = omega (arith, down-delays s n, delays-append (down_lines s n) (line Downward n (down_link s n) ∷ []))

link-delays : (s : Settings) → delays (link_lines s) ≡ (total_delay s).0
unfolding link_lines total_delay
link-delays s = omega (arith, delays-append (end_lines s ++ up_lines s s.h) (down_lines s s.sink), delays-append (end_lines s) (up_lines s s.h), end-delays s, up-delays s s.h, down-delays s s.sink)

-- a sum of n numbers that are at most k
total-most : (f : ℕ → ℕ) (k n : ℕ) → ((i : ℕ) → i < n → f i ≤ k) → total f n ≤ n * k
unfolding total
total-most f k zero h = omega arith
total-most f k (suc n) h = omega (arith, total-most f k n (λ i l. h i (omega arith)), h n (omega arith))

module _ (s : Settings) (S : Sound s) where
  delay-low : (a : Load) → Bounded a → 1 ≤ a.rate.0 → (link_for s a).delay.0 ≤ 2 ^ 59
  unfolding link_for
  delay-low a h p = omega (arith, delay-bound (row_timing s) a (timed (radio_of s) S.checked.radio) p, h.burst, interval-low (radio_of s) S.checked.radio, exchange-low (radio_of s) S.checked.radio)

  end_low : (end_link s).delay.0 ≤ 2 ^ 59
  unfolding end_link
  end_low = delay-low (sensor s) (sensor-bounded s S) (sensor-some s S.checked)

  up-low : (i : ℕ) → (up_link s i).delay.0 ≤ 2 ^ 59
  unfolding up_link
  up-low i = delay-low (upward s i) (upward-bounded s S i) (upward-some s S.checked i)

  down-low : (i : ℕ) → i < s.sink → (down_link s i).delay.0 ≤ 2 ^ 59
  unfolding down_link
  down-low i h = delay-low (downward s i) (downward-bounded s S i h) (downward-some s S.checked i)

  -- at most 25 links, each below 2^59 + 1
  pub total-fits : (total_delay s).0 < 2 ^ 64
  unfolding total_delay
  total-fits =
      let h : s.h * 2 ^ 59 ≤ 12 * 2 ^ 59 = mul-le-mul_right (2 ^ 59) S.checked.h in
      let k : s.sink * 2 ^ 59 ≤ 12 * 2 ^ 59 = mul-le-mul_right (2 ^ 59) S.checked.sink in
      omega (arith, by (ltb 0 s.ne), total-most (λ i. (up_link s (suc i)).delay.0) (2 ^ 59) s.h (λ i l. up-low (suc i)), total-most (λ i. (down_link s i).delay.0) (2 ^ 59) s.sink (λ i l. down-low i l))
    where
      by : (b : Bool) → cond b (end_link s).delay.0 0 ≤ 2 ^ 59
      by true = end_low
      by false = omega arith

  -- ---- the table

  -- a table with the links' lines, as it is filled
  pub links-put : (b : List ℕ) (p q r u : Page) → p ≡ page_of b [] → q ≡ filled p (end_lines s) → r ≡ filled q (up_lines s s.h) → u ≡ filled r (down_lines_from s s.sink 0) → u ≡ page_of b (link_lines s)
  unfolding link_lines
  links-put b p q r u ep eq er eu =
      eu ∙ rw (er, eq, ep, filled-append (page_of b []) (end_lines s) (up_lines s s.h), down_lines_lem s s.sink, filled-append (page_of b []) (end_lines s ++ up_lines s s.h) (down_lines s s.sink))
      (filled-lines b [] (link_lines s))

  -- its delay is the total
  pub links-delay : (b : List ℕ) → (page_of b (link_lines s)).delay ≡ total_delay s
  unfolding page_of
  links-delay b = ap symbols (rw (link-delays s) (up_to_fits total-fits))

  -- with line S it is the plan
  pub plan-put : (b : List ℕ) (u v : Page) → u ≡ page_of b (link_lines s) → v ≡ pushed u (line Sink s.sink (sink_figures s)) → v ≡ page_of b (lines s)
  unfolding lines link_lines
  plan-put b u v eu ev = ev ∙ rw eu (pushed-lines b (link_lines s) (line Sink s.sink (sink_figures s)))
