-- A router without child routers and end nodes is planned, with line S alone and no delay. Assumes nothing.
use mathlib.Core.Path.{◌≡◌, ap, ap₂, ◌∙◌}
use mathlib.Core.List.{List, [], ◌∷◌, ◌++◌}
use Prim.Native.Nat.{ℕ, suc, ◌-◌, ◌*◌, ◌≤◌}
use native.Mathlib.Decide.{dec_le}
use native.Mathlib.Omega.{arith}
use lib.Pow.{pow_pos}
use borrow.Author.Tests.{le-ltb}
use Rattle.network.specs.Counting.{total, join}
use Rattle.settings_model.specs.declared.Settings.{Settings}
use Rattle.settings_model.specs.Laws.{Checked}
use Rattle.plan_model.specs.declared.Kind.TheVariants.{Sink}
use Rattle.plan_model.specs.declared.Line.{Line}
use Rattle.row_model.specs.Times.{routers_below}
use Rattle.row_model.specs.Loads.{sensor}
use Rattle.row_model.specs.Checks.{routers, slots_needed, used_below, used_off_path}
use Rattle.plan_model.specs.Times.{superframes}
use Rattle.plan_model.specs.Lines.{line}
use Rattle.row_model.specs.Lines.{up_link, down_link, total_delay, sink_figures, end_lines, up_lines, down_lines, lines}
use Rattle.row_model.specs.Laws.{Plannable, LoneSink}
use Rattle.row_model.proofs.LoadBounds.{full, full-one}
use Rattle.row_model.proofs.LawsHold.{planned-exactly}
use Rattle.settings_model.specs.Checks.{radio_of}

module _ (s : Settings) (C : Checked s) (flat : s.h ≡ 0) (bare : s.ne ≡ 0) where
  no-children : s.nr ≡ 0
  no-children = elim (dec_le 1 s.nr) [
    | yes p ↦ absurd (omega (arith, C.depth p))
    | no f ↦ omega arith
  ]

  at-root : s.sink ≡ 0
  at-root = omega (arith, C.sink_depth)

  one-router : routers s ≡ 1
  unfolding routers
  one-router = ap (full s.nr) flat ∙ full-one s.nr

  some-superframe : 1 ≤ superframes (radio_of s)
  unfolding superframes
  some-superframe = pow_pos (s.bo - s.so)

  no-slots : (i : ℕ) → (used_off_path s i).0 ≡ 0
  unfolding used_off_path used_below routers_below
  no-slots i = rw (le-ltb i s.h (omega arith)) (omega (arith, ap (λ (n : ℕ). n * slots_needed s (sensor s).rate) bare))

  lone-plannable : Plannable s
  lone-plannable = record {
    checked = C;
    reservations = omega (arith, no-children);
    routers = omega (arith, one-router, some-superframe);
    off_path = λ i h z. omega (arith, no-slots i);
    on_path = λ i h. absurd (omega (arith, at-root));
  }

  no-end-line : end_lines s ≡ []
  unfolding end_lines
  no-end-line = rw (le-ltb 0 s.ne (omega arith))

  no-up-lines : up_lines s s.h ≡ []
  unfolding up_lines
  no-up-lines = ap (up_lines s) flat

  no-down-lines : down_lines s s.sink ≡ []
  unfolding down_lines join
  no-down-lines = ap (down_lines s) at-root

  lone-line : lines s ≡ line Sink 0 (sink_figures s) ∷ []
  unfolding lines
  lone-line =
      ap₂ (λ (p q : List Line). p ++ q) (ap₂ (λ (p q : List Line). p ++ q) (ap₂ (λ (p q : List Line). p ++ q) no-end-line no-up-lines) no-down-lines)
      (ap (λ (n : ℕ). line Sink n (sink_figures s) ∷ []) at-root)

  no-delay : (sink_figures s).delay.0 ≡ 0
  unfolding sink_figures total_delay total
  no-delay =
      let up : total (λ i. (up_link s (suc i)).delay.0) s.h ≡ 0 = ap (total (λ i. (up_link s (suc i)).delay.0)) flat in
      let down : total (λ i. (down_link s i).delay.0) s.sink ≡ 0 = ap (total (λ i. (down_link s i).delay.0)) at-root in
      rw (le-ltb 0 s.ne (omega arith)) (omega (arith, up, down))

pub lone-sink : LoneSink
lone-sink s C flat bare = ((planned-exactly s _).1 (lone-plannable s C flat bare, lone-line s C flat bare), no-delay s C flat bare)
