-- From a list that was read to the loads of its tree: what the stage answers and leaves. Assumes nothing.
use Rattle.std.specs.Prelude.{Ok, Err}
use mathlib.Core.Path.{◌≡◌, refl, sym, ap, ◌∙◌}
use mathlib.Core.List.{List, ◌++◌, append_assoc}
use Prim.Native.Nat.{ℕ, suc, ◌+◌, ◌≤◌, ◌<◌}
use native.Mathlib.Omega.{arith}
use lib.ListN.{length, take, length-map}
use Rattle.refusals.specs.declared.Refusal.{Refusal}
use Rattle.refusals.specs.Conditions.{Condition, verdict}
use Rattle.refusals.proofs.Answering.{broken-kept, first-part-answers, second-part-answers}
use Rattle.links.specs.declared.Timing.{Timing}
use Rattle.settings_model.specs.declared.Radio.{Radio}
use Rattle.settings_model.specs.Checks.{radio_checks}
use Rattle.plan_model.specs.Times.{timing_answered, timing_of}
use Rattle.plan_model.proofs.TimesMade.{timing-fits}
use Rattle.settings_model.specs.Laws.{CheckedRadio}
use Rattle.tree_model.specs.Checks.{routers_fit}
use Rattle.tree_read_model.specs.Entries.{entry_in}
use Rattle.tree_read_model.specs.Survey.{node_lines, parent_in, tree_from, tree_in, named, listed, sink_right, surveyed}
use Rattle.tree_read_model.proofs.Listed.{tree-nodes}
use Rattle.tree_plan_model.specs.Lists.{Whole}
use Rattle.tree_plan_model.specs.Children.{Linked}
use Rattle.tree_plan_model.specs.Inner.{shape, tree_up_to, Listing, Given, AllRight, checks_before_slots}
use Rattle.tree_plan_model.specs.Stages.{conditions_before_slots, parents_in, bursts_in, rates_in, LoadsLeft}
use Rattle.tree_plan_model.proofs.Answers.{few-nodes, listing, before-checked, before-sink}
use Rattle.tree_plan_model.proofs.Shaped.{before-slots-same}
use Rattle.tree_plan_model.proofs.Tabled as tabled
use Rattle.tree_children.proofs.Linking.{kin-parents}

-- ---- the conditions: the list's, then the others

module _ (input : List ℕ) (b : Radio) (sink : ℕ) where
  abbrev read : List (Condition Refusal)
  read = named input ++ listed (node_lines input)

  in_parts : conditions_before_slots input b sink ≡ read ++ checks_before_slots b (tree_in input) sink
  unfolding conditions_before_slots surveyed checks_before_slots
  in_parts =
      let s = sink_right (tree_in input) sink in
      ap (λ (cs : List (Condition Refusal)). cs ++ routers_fit b (tree_in input)) (append_assoc read s (radio_checks b)) ∙ append_assoc read (s ++ radio_checks b) (routers_fit b (tree_in input))

  pub list-first : (r : Refusal) → verdict read ≡ Err r → Err r ≡ verdict (conditions_before_slots input b sink)
  list-first r e = rw in_parts (first-part-answers Err (Ok tt) read (checks_before_slots b (tree_in input) sink) r e)

  pub list-then : verdict read ≡ Ok tt → verdict (checks_before_slots b (tree_in input) sink) ≡ verdict (conditions_before_slots input b sink)
  list-then e = rw in_parts (second-part-answers Err (Ok tt) read (checks_before_slots b (tree_in input) sink) e)

  -- what the stage leaves where one is broken
  pub left-refused : (x : Refusal) (ns : List ℕ) → Err x ≡ verdict (conditions_before_slots input b sink) → LoadsLeft input b sink (Err x) ns ns
  left-refused x ns e = record { held = tt; kept = λ k. broken-kept x (e ∙ k); refused = λ y z. refl }

-- ---- the lists and the table of kin

module _ (input : List ℕ) (k : verdict (named input ++ listed (node_lines input)) ≡ Ok tt) (n : ℕ) (ps bs rs : List ℕ) (w : Whole (node_lines input) n ps bs rs) where
  -- the entries of nodes are those of the text
  taken : (take (n + 1) ps ≡ parents_in input) × (take (n + 1) bs ≡ bursts_in input) × (take (n + 1) rs ≡ rates_in input)
  taken = let z : n + 1 ≡ suc (length (node_lines input)) = omega (arith, w.count) in rw z (w.holding.parents, w.holding.bursts, w.holding.rates)

  pub few : n + 1 ≤ 255
  few = few-nodes input k n ps bs rs w

  own : Listing (parents_in input) (bursts_in input) (rates_in input)
  own = rw (taken.0, taken.1, taken.2) at (listing input k n ps bs rs w)

  long : length (parents_in input) ≡ n + 1
  long = ap suc (length-map (node_lines input) (λ (l : List ℕ). parent_in (entry_in l))) ∙ omega (arith, w.count)

  pub taken-length : length (take (n + 1) ps) ≡ n + 1
  taken-length = ap length taken.0 ∙ long

  -- the conditions of the shape are those of the tree
  pub shape-conditions : (b : Radio) (sink : ℕ) → verdict (checks_before_slots b (shape (take (n + 1) ps)) sink) ≡ verdict (checks_before_slots b (tree_in input) sink)
  unfolding tree_in tree_from
  shape-conditions b sink = rw taken.0 (ap verdict (before-slots-same (parents_in input) (bursts_in input) (rates_in input) b sink))

  module _ (ks : List ℕ) (size : length ks ≡ 768) (links : length (take (n + 1) ps) ≤ 256 → Linked (take (n + 1) ps) ks) where
    linked : Linked (parents_in input) ks
    linked = rw taken.0 at (links (omega (arith, taken-length, few)))

    same : take (n + 1) ks ≡ parents_in input
    same = rw (← long) (kin-parents (parents_in input) ks refl (omega (arith, long, few)) size linked)

    module _ (b : Radio) (sink : ℕ) where
      checks : verdict (checks_before_slots b (shape (take (n + 1) ps)) sink) ≡ verdict (conditions_before_slots input b sink)
      checks = shape-conditions b sink ∙ list-then input b sink k

      pub check-refused : (x : Refusal) → Err x ≡ verdict (checks_before_slots b (shape (take (n + 1) ps)) sink) → Err x ≡ verdict (conditions_before_slots input b sink)
      check-refused x e = e ∙ checks

      module _ (c : Ok tt ≡ verdict (checks_before_slots b (shape (take (n + 1) ps)) sink)) where
        pub check-kept : Ok tt ≡ verdict (conditions_before_slots input b sink)
        check-kept = c ∙ checks

        kept : verdict (checks_before_slots b (tree_in input) sink) ≡ Ok tt
        kept = sym (shape-conditions b sink) ∙ sym c

        checked : CheckedRadio b
        checked = before-checked b (tree_in input) sink kept

        sink-known : (1 ≤ sink) × (sink ≤ n)
        unfolding tree_in
        sink-known = let s = before-sink b (tree_in input) sink kept in (s.0, omega (arith, s.1, tree-nodes (node_lines input), w.count))

        module _ (a : Timing) (e : a ≡ timing_answered b) where
          timed : a ≡ timing_of b
          timed = e ∙ timing-fits b checked

          -- what the walk asks for
          pub walk-asked : Given a (take (n + 1) ks) (take (n + 1) bs) (take (n + 1) rs) × Linked (take (n + 1) ks) ks × (1 ≤ sink) × (sink < length (take (n + 1) ks))
          walk-asked =
              rw (same, taken.1, taken.2)
              (tabled.given b checked (parents_in input) (bursts_in input) (rates_in input) own a timed, linked, sink-known.0, omega (arith, long, sink-known.1))

          -- and what it leaves
          pub walk-left : (ns ns' : List ℕ) → AllRight a (tree_up_to n ks bs rs) sink ns' → LoadsLeft input b sink (Ok (record { nodes = n; kin = ks })) ns ns'
          unfolding tree_in tree_from
          walk-left ns ns' A =
              let n1 : suc n ≡ n + 1 = omega arith in
              let right : AllRight (timing_of b) (tree_in input) sink ns' = rw (same, taken.1, taken.2, timed) at A in
              record {
                held = record {
                  listing = own;
                  checked = checked;
                  sink_some = sink-known.0;
                  sink_known = sink-known.1;
                  nodes = omega (arith, long);
                  parents = rw n1 same;
                  linked = linked;
                  right = right;
                };
                kept = λ z. right;
                refused = λ x z. broken-kept x (sym z ∙ sym check-kept);
              }
