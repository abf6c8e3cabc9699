-- The decision as a whole: what was put is what the outcome says, and demand 3. Assumes nothing.
use Rattle.std.specs.Prelude.{Ok}
use mathlib.Core.Path.{◌≡◌, refl, sym, ap, ◌∙◌}
use mathlib.Core.List.{List}
use Prim.Native.Nat.{ℕ, ◌+◌, ◌-◌, ◌*◌}
use native.Mathlib.Omega.{arith}
use lib.ListN.{length, take}
use Rattle.links.specs.declared.Timing.{Timing}
use Rattle.settings_model.specs.declared.Radio.{Radio}
use Rattle.plan_model.specs.Times.{timing_answered, timing_of}
use Rattle.plan_model.proofs.TimesMade.{timing-fits}
use Rattle.refusals.specs.Outcome.{Planned}
use Rattle.tree_model.specs.Lines.{lines}
use Rattle.tree_model.specs.Promise.{Keeps}
use Rattle.tree_read_model.specs.Survey.{tree_in, outcome_in}
use Rattle.tree_read_model.proofs.LawsHold.{every-text-keeps}
use Rattle.node_table_model.specs.NodeRows.{tree_table}
use Rattle.node_table_model.proofs.NodeLaws.{nodes-length}
use Rattle.tree_plan_model.specs.Children.{Linked}
use Rattle.tree_plan_model.specs.Tables.{Loaded, Led, lines_in}
use Rattle.tree_plan_model.specs.Filled.{DepthsSet, WaysSet}
use Rattle.tree_plan_model.specs.Stages.{parents_in, LoadsHeld, WaysLeft}
use Rattle.tree_plan_model.proofs.Tabled.{Tabled, tables-held, parents-held}
use Rattle.tree_hops.proofs.Outcomes.{lines-many, many}

module _ (input : List ℕ) (b : Radio) (sink : ℕ) where
  -- demand 3
  pub decision-keeps : Planned (lines b (tree_in input) sink) ≡ outcome_in input b sink → Keeps b (tree_in input) sink (lines b (tree_in input) sink)
  decision-keeps o = every-text-keeps input b sink (lines b (tree_in input) sink) (sym o)

  -- what stands in the tables
  module _ (n : ℕ) (ks ns : List ℕ) (H : LoadsHeld input b sink n ks ns) where
    pub table-long : 10 * n ≡ length (tree_table (lines b (tree_in input) sink))
    table-long = omega (arith, nodes-length (lines b (tree_in input) sink), lines-many input b sink n ks ns H)

    -- what the functions on the tables ask for, and what they put, of the parents in the table of kin
    module _ (a : Timing) (e : a ≡ timing_answered b) where
      t : Tabled input b a sink ns
      t = tables-held input b sink n ks ns H a e

      pub lines-asked : (hs hs' ws ws' : List ℕ) → WaysLeft input b sink (Ok tt) ns hs hs' ws ws'
          → Loaded a (take (n + 1) ks) ns × Led (take (n + 1) ks) ns sink × Linked (take (n + 1) ks) ks × DepthsSet (take (n + 1) ks) hs' × WaysSet a (take (n + 1) ks) ns sink ws'
      lines-asked hs hs' ws ws' w =
          let d : a ≡ timing_of b = e ∙ timing-fits b H.checked in
          rw (parents-held input b sink n ks ns H, d) (rw d at t.loads, t.leads, H.linked, w.depths refl, w.ways refl)

      pub lines-put-all : lines_in a (take (n + 1) ks) ns sink (length (take (n + 1) ks) - 1) ≡ lines b (tree_in input) sink
      lines-put-all = rw (many input b sink n ks ns H, parents-held input b sink n ks ns H) (ap (λ (m : ℕ). lines_in a (parents_in input) ns sink m) H.nodes ∙ t.page)
