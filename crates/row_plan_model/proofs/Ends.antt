-- The two ends of the plan: the end nodes' line, and line S. Assumes nothing.
use mathlib.Core.Path.{◌≡◌, refl, sym, ap₂, ◌∙◌}
use Prim.Native.Nat.{ℕ, zero, suc, ◌<◌}
use native.Mathlib.Omega.{arith}
use borrow.Author.Tests.{lt-ltb, le-ltb}
use Rattle.measure.specs.declared.Symbols.{Symbols}
use Rattle.measure.specs.declared.Frames.{Frames}
use Rattle.measure.specs.Measures.{symbols, slots, frames, whole_frames}
use Rattle.links.specs.declared.Load.{Load}
use Rattle.links.specs.declared.Figures.{Figures}
use Rattle.links.specs.Link.{load, plus, load_up_to_64}
use Rattle.settings_model.specs.declared.Settings.{Settings}
use Rattle.plan_model.specs.declared.Kind.TheVariants.{EndNode, Sink}
use Rattle.plan_model.specs.declared.Line.{Line}
use Rattle.row_model.specs.Times.{row_timing}
use Rattle.row_model.specs.Loads.{upward, sink_at, at_sink}
use Rattle.plan_model.specs.Lines.{line}
use Rattle.row_model.specs.Lines.{end_link, total_delay, sink_figures, end_lines}
use Rattle.row_model.specs.Bounds.{Sound, Bounded}
use Rattle.row_model.proofs.LoadLaws.{sink-first, sink-step}
use Rattle.row_model.proofs.LoadBounds.{upward-bounded, sink-below-bounded}
use Rattle.row_plan_model.specs.declared.Link.{Link}
use Rattle.row_plan_model.specs.Inner.{coming, link_of, link_up}
use Rattle.row_plan_model.specs.Pages.{Page, pushed, filled}
use Rattle.row_plan_model.proofs.Made.{fits}

-- ---- the end nodes' line

pub end_none : (s : Settings) (t : Page) → s.ne ≡ 0 → t ≡ filled t (end_lines s)
unfolding end_lines filled
end_none s t e = rw (le-ltb 0 s.ne (omega arith))

pub end-some : (s : Settings) (t u : Page) (f : Figures) → 0 < s.ne → f ≡ end_link s → u ≡ pushed t (line EndNode 0 f) → u ≡ filled t (end_lines s)
unfolding end_lines filled
end-some s t u f h ef eu = eu ∙ rw (lt-ltb 0 s.ne h, ef)

-- ---- line S

-- what comes to the sink: the upward load of its depth, and what comes down to it
sink-joined : (s : Settings) (n : ℕ) → plus (upward s n) (coming s n) ≡ sink_at s n
unfolding coming
sink-joined s zero = ap₂ load (omega arith) (omega arith) ∙ sym (sink-first s)
sink-joined s (suc i) = sym (sink-step s i)

sink-bounded : (s : Settings) → Sound s → (n : ℕ) → n ≡ s.sink → Bounded (plus (upward s n) (coming s n))
unfolding coming
sink-bounded s S zero e = let b = upward-bounded s S 0 in record { rate = omega (arith, b.rate); burst = omega (arith, b.burst) }
sink-bounded s S (suc i) e = sink-below-bounded s S i (omega arith)

pub sink-load-made : (s : Settings) → Sound s → (v : Link) (d r : Load) → v ≡ link_up s s.sink → d ≡ coming s s.sink → r ≡ load_up_to_64 (plus v.load d) → r ≡ at_sink s
unfolding at_sink link_up link_of
sink-load-made s S v d r ev ed er = er ∙ rw (ev, ed) (fits _ (sink-bounded s S s.sink refl)) ∙ sink-joined s s.sink

pub sink-line-made : (s : Settings) (a : Load) (t d : Symbols) (b : Frames) → t ≡ (row_timing s).interval → a ≡ at_sink s → d ≡ total_delay s → b ≡ whole_frames a.burst t
    → ◌≡◌ {A = Line} (record { kind = Sink; depth = s.sink; figures = record { rate = a.rate; burst = a.burst; slots = slots 0; frames = frames 0; latency = symbols 0; buffer = b; delay = d } })
    (line Sink s.sink (sink_figures s))
unfolding sink_figures
sink-line-made s a t d b et ea ed eb =
    let b' : b ≡ whole_frames (at_sink s).burst (row_timing s).interval = eb ∙ rw (et, ea) in
    rw (ea, ed, b')
