-- The outcome by the verdict on all conditions, and what was put beside it. Assumes nothing.
use Rattle.refusals.specs.Conditions.{verdict}
use Rattle.std.specs.Prelude.{Ok, Err}
use mathlib.Core.Path.{◌≡◌, refl, sym, ap, ◌∙◌}
use mathlib.Core.Bool.{cond}
use mathlib.Core.List.{List}
use Prim.Native.Nat.{ℕ, zero, suc, ◌+◌, ◌-◌, ◌≤◌}
use native.Mathlib.Decide.{ℕ_discrete}
use native.Mathlib.Omega.{arith}
use lib.Dec.{eqb}
use lib.ListN.{length, take}
use borrow.Author.Tests.{eq-eqb}
use Rattle.refusals.specs.declared.Refusal.{Refusal}
use Rattle.refusals.specs.Outcome.{Planned, Refused}
use Rattle.refusals.proofs.Answering.{answer-broken, answer-kept}
use Rattle.network.specs.Counting.{join}
use Rattle.settings_model.specs.declared.Radio.{Radio}
use Rattle.plan_model.specs.Times.{timing_of}
use Rattle.tree_model.specs.Lines.{lines}
use Rattle.tree_model.specs.Ways.{superframe_of}
use Rattle.tree_read_model.specs.Survey.{tree_from, tree_in, outcome_in}
use Rattle.tree_plan_model.specs.Tables.{Led, superframe_in}
use Rattle.tree_plan_model.specs.Stages.{conditions_in, parents_in, LoadsHeld}
use Rattle.tree_plan_model.specs.Hops.{hop_of, hops_of, hop_by, hops_by}
use Rattle.tree_plan_model.proofs.Tabled.{Tabled, tabled, parents-held, lines-length}

module _ (input : List ℕ) (b : Radio) (sink : ℕ) where
  pub outcome-refused : (r : Refusal) → verdict (conditions_in input b sink) ≡ Err r → Refused r ≡ outcome_in input b sink
  unfolding outcome_in conditions_in
  outcome-refused r e = sym (answer-broken Refused (Planned (lines b (tree_in input) sink)) (conditions_in input b sink) r e)

  pub outcome-planned : verdict (conditions_in input b sink) ≡ Ok tt → Planned (lines b (tree_in input) sink) ≡ outcome_in input b sink
  unfolding outcome_in conditions_in
  outcome-planned e = sym (answer-kept Refused (Planned (lines b (tree_in input) sink)) (conditions_in input b sink) e)

  -- what stands in the tables
  module _ (n : ℕ) (ks ns : List ℕ) (H : LoadsHeld input b sink n ks ns) where
    t : Tabled input b (timing_of b) sink ns
    t = tabled input b sink n ks ns (timing_of b) refl H

    pub lines-many : length (lines b (tree_in input) sink) ≡ n
    lines-many = ap length (sym t.page) ∙ lines-length (timing_of b) (parents_in input) ns sink (tree_in input).nodes ∙ sym H.nodes

    hop-decided : (v : ℕ) → 1 ≤ v → v ≤ (tree_in input).nodes → hop_by (parents_in input) ns sink v ≡ hop_of (tree_in input) sink v
    unfolding hop_by hop_of tree_in tree_from
    hop-decided v one most = rw (t.towards v one most, frame (ℕ_discrete v sink)) refl
      where
        frame : Dec (v ≡ sink) → cond (eqb v sink) 0 (superframe_in (parents_in input) ns v) ≡ cond (eqb v sink) 0 (superframe_of (tree_in input) sink v)
        frame (yes q) = rw (eq-eqb v sink q)
        frame (no q) = rw (t.superframe v one most q)

    hops-to : (m : ℕ) → m ≤ (tree_in input).nodes → hops_by (parents_in input) ns sink m ≡ join m (λ i. hop_of (tree_in input) sink (suc i))
    unfolding hops_by join
    hops-to zero h = refl
    hops-to (suc m) h = rw (hops-to m (omega arith), hop-decided (suc m) (omega arith) h)

    hops-decided : hops_by (parents_in input) ns sink n ≡ hops_of (tree_in input) sink (lines b (tree_in input) sink)
    unfolding hops_of
    hops-decided = rw lines-many (hops-to n (omega (arith, H.nodes)))

    pub many : length (take (n + 1) ks) - 1 ≡ n
    unfolding tree_in tree_from
    many = rw (parents-held input b sink n ks ns H) (omega (arith, H.nodes))

    pub hops-asked : (length (take (n + 1) ks) ≤ 255) × Led (take (n + 1) ks) ns sink
    hops-asked = rw (parents-held input b sink n ks ns H) (t.loads.few, t.leads)

    pub hops-put-all : hops_by (take (n + 1) ks) ns sink (length (take (n + 1) ks) - 1) ≡ hops_of (tree_in input) sink (lines b (tree_in input) sink)
    hops-put-all = rw (many, parents-held input b sink n ks ns H) hops-decided
