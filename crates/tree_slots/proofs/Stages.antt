-- All conditions, part after part, and what holds of the tables where 10, 3, 4 and 6 are kept. Assumes nothing.
use Rattle.std.specs.Prelude.{Ok, Err}
use mathlib.Core.Path.{◌≡◌, sym, ap, ◌∙◌}
use mathlib.Core.List.{List, ◌++◌, append_assoc}
use Prim.Native.Nat.{ℕ, ◌+◌, ◌-◌}
use lib.ListN.{length, take}
use Rattle.links.specs.declared.Timing.{Timing}
use Rattle.refusals.specs.declared.Refusal.{Refusal}
use Rattle.refusals.specs.Conditions.{Condition, verdict}
use Rattle.refusals.proofs.Answering.{first-part-answers, second-part-answers}
use Rattle.settings_model.specs.declared.Radio.{Radio}
use Rattle.settings_model.specs.Checks.{radio_checks}
use Rattle.plan_model.specs.Times.{timing_answered}
use Rattle.tree_model.specs.Checks.{routers_fit, routers_from, conditions}
use Rattle.tree_read_model.specs.Survey.{tree_from, tree_in, surveyed}
use Rattle.tree_plan_model.specs.Tables.{Loaded, routers_in_from}
use Rattle.tree_plan_model.specs.Stages.{conditions_before_slots, conditions_in, LoadsHeld}
use Rattle.tree_plan_model.proofs.Tabled.{parents-held, tables-held}

module _ (input : List ℕ) (b : Radio) (sink : ℕ) where
  -- 5 and 7 of every router come last
  abbrev last : List (Condition Refusal)
  last = routers_from b (tree_in input) sink (tree_in input).nodes 1

  in_parts : conditions_in input b sink ≡ conditions_before_slots input b sink ++ last
  unfolding conditions_in conditions_before_slots conditions
  in_parts =
      sym (append_assoc (surveyed input sink) (radio_checks b ++ routers_fit b (tree_in input)) last)
      ∙ ap (λ (cs : List (Condition Refusal)). cs ++ last) (sym (append_assoc (surveyed input sink) (radio_checks b) (routers_fit b (tree_in input))))

  pub before-broken : (x : Refusal) → verdict (conditions_before_slots input b sink) ≡ Err x → Err x ≡ verdict (conditions_in input b sink)
  before-broken x e = rw in_parts (first-part-answers Err (Ok tt) (conditions_before_slots input b sink) last x e)

  before-kept : verdict (conditions_before_slots input b sink) ≡ Ok tt → verdict last ≡ verdict (conditions_in input b sink)
  before-kept e = rw in_parts (second-part-answers Err (Ok tt) (conditions_before_slots input b sink) last e)

  -- where those before are kept
  module _ (n : ℕ) (ks ns : List ℕ) (H : LoadsHeld input b sink n ks ns) where
    module _ (a : Timing) (e : a ≡ timing_answered b) where
      pub loaded-held : Loaded a (take (n + 1) ks) ns
      loaded-held = rw (parents-held input b sink n ks ns H) (tables-held input b sink n ks ns H a e).loads

      pub slots_next : verdict (conditions_before_slots input b sink) ≡ Ok tt
          → verdict (routers_in_from a b.so (take (n + 1) ks) ns sink (length (take (n + 1) ks) - 1) 1) ≡ verdict (conditions_in input b sink)
      unfolding tree_in tree_from
      slots_next k = rw (parents-held input b sink n ks ns H) (ap verdict ((tables-held input b sink n ks ns H a e).routers (tree_in input).nodes 1) ∙ before-kept k)
