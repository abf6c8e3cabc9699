-- E3's lists among trees with gaps and summaries: their rules are all that is asked of them, and what is defined for gaps and summaries is of
-- them what E3 has. Assumes nothing.
use mathlib.Core.Path.{◌≡◌, refl, ap, ◌∙◌}
use mathlib.Core.Bool.{true, cond}
use mathlib.Core.List.{[], ◌∷◌}
use Prim.Native.Nat.{ℕ, zero, suc, ◌*◌, ◌≤◌, ◌<◌}
use native.Mathlib.Omega.{arith}
use native.Mathlib.Decide.{dec_le}
use borrow.Author.Tests.{eq-eqb, ne_eqb, le-leb}
use Rattle.measure.specs.Measures.{frames, burst}
use Rattle.measure.proofs.Conversions.{burst-is}
use Rattle.network.specs.Counting.{bit, join}
use Rattle.links.specs.declared.Timing.{Timing}
use Rattle.links.specs.declared.Load.{Load}
use Rattle.links.specs.Link.{load, after}
use Rattle.settings_model.specs.declared.Radio.{Radio}
use Rattle.plan_model.specs.Times.{timing_of}
use Rattle.tree_model.specs.Tree.{Tree, tree_of, Rooted, WithoutGaps, WithoutSummaries, Plain, sum_to, is_router, routers, is_listed}
use Rattle.tree_model.specs.Loads.{sensed, leaving}
use Rattle.tree_model.specs.Lines.{line_at, lines}
use Rattle.tree_model.specs.Laws.{Consecutive, PlainListSurveyed, PlainAsInE3}
use Rattle.tree_model.proofs.Shares.{sum-ap}

-- ---- the rules

module _ (t : Tree) (C : Consecutive t) where
  pub without-gaps : WithoutGaps t
  without-gaps v most two = (C.parents v two most).0

  pub planted : Rooted t
  planted = record {
    few = C.few;
    root = C.root;
    listed = λ v one most two. without-gaps (t.parent v) (omega (arith, smaller v one most)) two;
    smaller = smaller;
  }
    where
      smaller : (v : ℕ) → 1 ≤ v → v ≤ t.nodes → t.parent v < v
      smaller v one most = by (dec_le v 1)
        where
          by : Dec (v ≤ 1) → t.parent v < v
          by (yes l) = let e : v ≡ 1 = omega arith in rw e (omega (arith, C.root))
          by (no l) = (C.parents v (omega arith) most).1

pub plain-list-surveyed : PlainListSurveyed
plain-list-surveyed ps bs rs sink C g one most = record {
  planted = planted (tree_of ps bs rs) C;
  ranged = g;
  plain = record { without_gaps = without-gaps (tree_of ps bs rs) C; without_summaries = λ v. refl; none_inside = λ v. refl };
  sink_some = one;
  sink_known = most;
}

-- ---- the definitions

module _ (t : Tree) (p : Plain t) where
  all_listed : (v : ℕ) → 1 ≤ v → v ≤ t.nodes → is_listed t v ≡ true
  unfolding is_listed
  all_listed v one most = by (dec_le v 1)
    where
      by : Dec (v ≤ 1) → is_listed t v ≡ true
      by (yes l) = rw (eq-eqb v 1 (omega arith), p.without_summaries v)
      by (no l) = rw (ne_eqb v 1 (λ e. absurd (l (omega arith))), le-leb 1 (t.parent v) (p.without_gaps v most (omega arith)), p.without_summaries v)

  pub line-per-node : (b : Radio) (s : ℕ) → lines b t s ≡ join t.nodes (λ i. line_at b t s (suc i) ∷ [])
  unfolding lines join
  line-per-node b s = up_to t.nodes (omega arith)
    where
      up_to : (n : ℕ) → n ≤ t.nodes → join n (λ i. cond (is_listed t (suc i)) (line_at b t s (suc i) ∷ []) []) ≡ join n (λ i. line_at b t s (suc i) ∷ [])
      up_to zero h = refl
      up_to (suc n) h = rw (up_to n (omega arith), all_listed (suc n) (omega arith) h)

pub own-routers : (t : Tree) → ((v : ℕ) → t.inside v ≡ 0) → routers t ≡ sum_to (λ v. bit (is_router t v)) t.nodes
unfolding routers
own-routers t none = sum-ap _ _ t.nodes (λ v one most. omega (arith, none v))

module _ (a : Timing) (t : Tree) (o : WithoutSummaries t) where
  pub own-load : (v : ℕ) → sensed a t v ≡ load (t.rate v) (burst (frames (t.burst v)) a.interval).0
  own-load v = rw (o v)

  pub own-burst : (v : ℕ) → (sensed a t v).burst.0 ≡ t.burst v * a.interval.0
  own-burst v = ap (λ (l : Load). l.burst.0) (own-load v) ∙ burst-is (frames (t.burst v)) a.interval

  pub link-crossed : (w : ℕ) (l : Load) → leaving a t w l ≡ after a l
  link-crossed w l = rw (o w)

pub plain-as-in-e3 : PlainAsInE3
plain-as-in-e3 b t s p = record {
  lines = line-per-node t p b s;
  routers = own-routers t p.none_inside;
  sensed = own-load (timing_of b) t p.without_summaries;
  leaving = link-crossed (timing_of b) t p.without_summaries;
}
