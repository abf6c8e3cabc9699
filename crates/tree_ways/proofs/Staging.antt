-- What the stage before leaves, where every condition is kept, and what this one leaves. Assumes nothing.
use Rattle.std.specs.Prelude.{Ok, Err}
use mathlib.Core.Path.{◌≡◌, refl, sym, ◌∙◌}
use mathlib.Core.List.{List}
use Prim.Native.Nat.{ℕ, ◌+◌}
use lib.ListN.{take}
use Rattle.refusals.specs.declared.Refusal.{Refusal}
use Rattle.refusals.proofs.Answering.{broken-kept}
use Rattle.links.specs.declared.Timing.{Timing}
use Rattle.settings_model.specs.declared.Radio.{Radio}
use Rattle.plan_model.specs.Times.{timing_answered}
use Rattle.plan_model.proofs.TimesMade.{timing-fits}
use Rattle.tree_plan_model.specs.Tables.{Loaded, Led}
use Rattle.tree_plan_model.specs.Filled.{DepthsSet, WaysSet}
use Rattle.tree_plan_model.specs.Stages.{LoadsHeld, WaysLeft}
use Rattle.tree_plan_model.proofs.Tabled.{tables-held, parents-held}

module _ (input : List ℕ) (b : Radio) (sink : ℕ) where
  -- what holds of the tables where every condition is kept, and what is left of them
  module _ (n : ℕ) (ks ns : List ℕ) (H : LoadsHeld input b sink n ks ns) where
    pub led-held : Led (take (n + 1) ks) ns sink
    led-held = rw (parents-held input b sink n ks ns H) (tables-held input b sink n ks ns H (timing_answered b) refl).leads

    module _ (a : Timing) (e : a ≡ timing_answered b) where
      pub loaded-held : Loaded a (take (n + 1) ks) ns
      loaded-held = rw (parents-held input b sink n ks ns H) (tables-held input b sink n ks ns H a e).loads

      pub ways-left : (hs hs' ws ws' : List ℕ) → DepthsSet (take (n + 1) ks) hs' → WaysSet a (take (n + 1) ks) ns sink ws' → WaysLeft input b sink (Ok tt) ns hs hs' ws ws'
      ways-left hs hs' ws ws' d w = record {
        depths = λ _. rw (parents-held input b sink n ks ns H) at d;
        ways = λ _. rw (parents-held input b sink n ks ns H, e ∙ timing-fits b H.checked) at w;
        refused = λ x q. broken-kept x (sym q);
      }

  pub ways-refused : (x : Refusal) (ns hs ws : List ℕ) → WaysLeft input b sink (Err x) ns hs hs ws ws
  ways-refused x ns hs ws = record { depths = λ k. broken-kept x k; ways = λ k. broken-kept x k; refused = λ y q. (refl, refl) }
