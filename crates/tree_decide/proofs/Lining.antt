-- A node's line from its parts: figures, KIND and ROUTE. Assumes nothing.
use mathlib.Core.Path.{◌≡◌, ◌∙◌}
use mathlib.Core.Bool.{true, false, cond}
use mathlib.Core.List.{List}
use Prim.Native.Nat.{ℕ, ◌≤◌, ◌<◌}
use native.Mathlib.Omega.{arith}
use lib.Dec.{eqb, ltb, leb}
use lib.ListN.{length}
use borrow.Author.Tests.{eq-eqb, ne_eqb, lt-ltb, le-ltb}
use Rattle.measure.specs.declared.Frames.{Frames}
use Rattle.measure.specs.declared.Symbols.{Symbols}
use Rattle.measure.specs.Measures.{symbols, whole_frames}
use Rattle.links.specs.declared.Timing.{Timing}
use Rattle.links.specs.declared.Load.{Load}
use Rattle.links.specs.declared.Figures.{Figures}
use Rattle.plan_model.specs.declared.Kind.{Kind}
use Rattle.plan_model.specs.declared.Kind.TheVariants.{EndNode, Upward, Downward, Sink}
use Rattle.plan_model.specs.declared.NodeLine.{NodeLine}
use Rattle.plan_model.specs.Lines.{no_figures}
use Rattle.tree_model.specs.Tree.{is_router}
use Rattle.tree_model.specs.Ways.{next, child_towards, kind_of, depth_of}
use Rattle.tree_model.proofs.WayLaws.{leads-down}
use Rattle.tree_plan_model.specs.Inner.{shape, load_in, towards_in}
use Rattle.tree_plan_model.specs.Tables.{Led, link_for, sink_for, figures_for, way_in, route_in, line_in}

-- ---- figures

pub sink-made : (a : Timing) (l : Load) (n : Figures) (b : Frames) → n ≡ no_figures → b ≡ whole_frames l.burst a.interval
    → ◌≡◌ {A = Figures} (record { rate = l.rate; burst = l.burst; slots = n.slots; frames = n.frames; latency = n.latency; buffer = b; delay = n.delay }) (sink_for a l)
unfolding sink_for no_figures
sink-made a l n b en e = rw (en, e)

pub figures-at-sink : (a : Timing) (sink v : ℕ) (l : Load) (f : Figures) → v ≡ sink → f ≡ sink_for a l → f ≡ figures_for a sink v l
unfolding figures_for
figures-at-sink a sink v l f e q = q ∙ rw (eq-eqb v sink e)

pub figures-elsewhere : (a : Timing) (sink v : ℕ) (l : Load) (f : Figures) → (v ≡ sink → ⊥) → f ≡ link_for a l → f ≡ figures_for a sink v l
unfolding figures_for
figures-elsewhere a sink v l f n q = q ∙ rw (ne_eqb v sink n)

-- ---- KIND

module _ (ps ns : List ℕ) (sink : ℕ) (L : Led ps ns sink) (v : ℕ) (one : 1 ≤ v) (most : v < length ps) where
  pub kind-sink : v ≡ sink → Sink ≡ kind_of (shape ps) sink v
  unfolding kind_of
  kind-sink e = rw (eq-eqb v sink e)

  module _ (m : v ≡ sink → ⊥) where
    down-test : ltb v (towards_in ns v) ≡ leb 1 (child_towards (shape ps) sink v)
    down-test =
        let e : towards_in ns v ≡ next (shape ps) sink v = L.led v one most in
        rw e (leads-down (shape ps) L.planted sink L.sink_some (omega (arith, L.sink_known)) (L.without_gaps sink (omega (arith, L.sink_known))) v one (omega (arith, most)) m)

    pub kind-down : v < towards_in ns v → Downward ≡ kind_of (shape ps) sink v
    unfolding kind_of
    kind-down h = rw (ne_eqb v sink m, ← down-test, lt-ltb v (towards_in ns v) h)

    module _ (h : towards_in ns v ≤ v) where
      pub kind-up : is_router (shape ps) v ≡ true → Upward ≡ kind_of (shape ps) sink v
      unfolding kind_of
      kind-up r = rw (ne_eqb v sink m, ← down-test, le-ltb v (towards_in ns v) h, r)

      pub kind-end : is_router (shape ps) v ≡ false → EndNode ≡ kind_of (shape ps) sink v
      unfolding kind_of
      kind-end r = rw (ne_eqb v sink m, ← down-test, le-ltb v (towards_in ns v) h, r)

-- ---- the line

pub line_made : (a : Timing) (ps ns : List ℕ) (sink v : ℕ) (k : Kind) (d : ℕ) (f : Figures) (r : Symbols) (l : Load) (w : ℕ) → k ≡ kind_of (shape ps) sink v → d ≡ depth_of (shape ps) v
    → l ≡ load_in ns v → f ≡ figures_for a sink v l → w ≡ way_in a ps ns sink v → r ≡ symbols (cond (eqb l.rate.0 0) 0 w)
    → ◌≡◌ {A = NodeLine} (record { line = record { kind = k; depth = d; figures = f }; route = r }) (line_in a ps ns sink v)
unfolding line_in route_in
line_made a ps ns sink v k d f r l w ek ed el ef ew er = rw (ek, ed, ef, er, ew, el)
