-- Number 10, then 3, 4 and 6: the answer to each part, and what holds where it is kept. Assumes nothing.
use Rattle.std.specs.Prelude.{Ok, Err}
use mathlib.Core.Path.{◌≡◌, sym, ap, ◌∙◌}
use mathlib.Core.Bool.{true, false, ◌&&◌, and-eq-true_iff}
use mathlib.Core.List.{List, ◌++◌}
use Prim.Native.Nat.{ℕ, suc, ◌+◌, ◌-◌, ◌^◌, ◌≤◌, ◌<◌}
use native.Mathlib.Omega.{arith}
use lib.Dec.{leb}
use lib.ListN.{length, take, length-map}
use borrow.Author.Tests.{leb-true, not-false}
use Rattle.refusals.specs.declared.Refusal.{Refusal}
use Rattle.refusals.specs.declared.Refusal.TheVariants.{Superframes, InTree}
use Rattle.refusals.specs.declared.TreeRefusal.TheVariants.{SinkNode}
use Rattle.refusals.specs.Conditions.{Unbroken, first_broken, verdict}
use Rattle.refusals.proofs.Answering.{first-part-answers, second-part-answers}
use Rattle.refusals.proofs.Unbroken.{kept-unbroken, unbroken-left, unbroken-right}
use Rattle.settings_model.specs.declared.Radio.{Radio}
use Rattle.settings_model.specs.Checks.{radio_checks}
use Rattle.settings_model.specs.Laws.{CheckedRadio}
use Rattle.settings_model.proofs.LawsHold.{unbroken-where-radio-checked}
use Rattle.plan_model.specs.Times.{superframes}
use Rattle.refusals.proofs.Limits.{over-limit, in-limit}
use Rattle.tree_model.specs.Tree.{Tree, tree_of, is_number, is_router, routers}
use Rattle.tree_model.specs.Checks.{routers_fit}
use Rattle.tree_model.proofs.PlainLists.{planted, without-gaps}
use Rattle.tree_read_model.specs.Survey.{node_lines, parent_in, tree_from, tree_in, named, lines_from, listed, sink_right, surveyed}
use Rattle.tree_read_model.specs.Entries.{entry_in}
use Rattle.tree_read_model.proofs.Listed.{consecutive, ranged, tree-nodes}
use Rattle.tree_read_model.proofs.LawsHold.{kept-lines}
use Rattle.tree_plan_model.specs.Inner.{Listing, checks_before_slots}
use Rattle.tree_plan_model.specs.Lists.{Whole}

-- ---- the sink's condition, 3, 4 and 6

pub routers-over : (b : Radio) (t : Tree) (n k : ℕ) → n ≡ routers t → k ≡ 2 ^ (b.bo - b.so) → k < n → Err (Superframes n k) ≡ verdict (routers_fit b t)
unfolding routers_fit superframes
routers-over b t n k en ek h = rw (sym en, sym ek) (over-limit k n (Superframes n k) h)

pub routers-in : (b : Radio) (t : Tree) (n k : ℕ) → n ≡ routers t → k ≡ 2 ^ (b.bo - b.so) → n ≤ k → (Ok tt) ≡ verdict (routers_fit b t)
unfolding routers_fit superframes
routers-in b t n k en ek h = rw (sym en, sym ek) (in-limit k n (Superframes n k) h)

pub sink-kept : (t : Tree) (sink : ℕ) → true ≡ (is_number t sink && is_router t sink) → verdict (sink_right t sink) ≡ Ok tt
unfolding sink_right first_broken
sink-kept t sink e = rw (sym e)

pub sink-broken : (t : Tree) (sink : ℕ) → false ≡ (is_number t sink && is_router t sink) → verdict (sink_right t sink) ≡ Err (InTree SinkNode)
unfolding sink_right first_broken
sink-broken t sink e = rw (sym e)

module _ (b : Radio) (t : Tree) (sink : ℕ) where
  pub sink-first : false ≡ (is_number t sink && is_router t sink) → Err (InTree SinkNode) ≡ verdict (checks_before_slots b t sink)
  unfolding checks_before_slots
  sink-first e =
      first-part-answers Err (Ok tt) (sink_right t sink ++ radio_checks b) (routers_fit b t) (InTree SinkNode)
      (sym (first-part-answers Err (Ok tt) (sink_right t sink) (radio_checks b) (InTree SinkNode) (sink-broken t sink e)))

  module _ (e : true ≡ (is_number t sink && is_router t sink)) where
    pub three-four-next : (r : Refusal) → verdict (radio_checks b) ≡ Err r → Err r ≡ verdict (checks_before_slots b t sink)
    unfolding checks_before_slots
    three-four-next r q =
        first-part-answers Err (Ok tt) (sink_right t sink ++ radio_checks b) (routers_fit b t) r (sym (second-part-answers Err (Ok tt) (sink_right t sink) (radio_checks b) (sink-kept t sink e)) ∙ q)

    pub six-next : verdict (radio_checks b) ≡ Ok tt → verdict (routers_fit b t) ≡ verdict (checks_before_slots b t sink)
    unfolding checks_before_slots
    six-next k =
        second-part-answers Err (Ok tt) (sink_right t sink ++ radio_checks b) (routers_fit b t) (sym (second-part-answers Err (Ok tt) (sink_right t sink) (radio_checks b) (sink-kept t sink e)) ∙ k)

  -- what holds where none of these is broken
  pub kept-checked : verdict (radio_checks b) ≡ Ok tt → CheckedRadio b
  kept-checked k = (unbroken-where-radio-checked b).0 (kept-unbroken (radio_checks b) k)

  module _ (k : verdict (checks_before_slots b t sink) ≡ Ok tt) where
    front : Unbroken (sink_right t sink ++ radio_checks b)
    unfolding checks_before_slots
    front = unbroken-left (sink_right t sink ++ radio_checks b) (routers_fit b t) (kept-unbroken (checks_before_slots b t sink) k)

    pub before-checked : CheckedRadio b
    before-checked = (unbroken-where-radio-checked b).0 (unbroken-right (sink_right t sink) (radio_checks b) front)

    pub before-sink : (1 ≤ sink) × (sink ≤ t.nodes)
    unfolding sink_right is_number
    before-sink =
        let u = unbroken-left (sink_right t sink) (radio_checks b) front in
        let d = (and-eq-true_iff (leb 1 sink && leb sink t.nodes) (is_router t sink)).0 (not-false _ u.0) in
        let e = (and-eq-true_iff (leb 1 sink) (leb sink t.nodes)).0 d.0 in
        (leb-true 1 sink e.0, leb-true sink t.nodes e.1)

-- number 10 alone
module _ (input : List ℕ) (sink : ℕ) where
  pub list-broken : (r : Refusal) → verdict (named input ++ listed (node_lines input)) ≡ Err r → Err r ≡ verdict (surveyed input sink)
  unfolding surveyed
  list-broken r e = first-part-answers Err (Ok tt) (named input ++ listed (node_lines input)) (sink_right (tree_in input) sink) r e

  pub list-kept : verdict (named input ++ listed (node_lines input)) ≡ Ok tt → verdict (sink_right (tree_in input) sink) ≡ verdict (surveyed input sink)
  unfolding surveyed
  list-kept e = second-part-answers Err (Ok tt) (named input ++ listed (node_lines input)) (sink_right (tree_in input) sink) e

-- the lists of a text that keeps number 10 but for the sink
module _ (input : List ℕ) (k : verdict (named input ++ listed (node_lines input)) ≡ Ok tt) (n : ℕ) (ps bs rs : List ℕ) (w : Whole (node_lines input) n ps bs rs) where
  kept : (1 ≤ length (node_lines input)) × Unbroken (lines_from 1 (node_lines input))
  kept = kept-lines (node_lines input) (unbroken-right (named input) (listed (node_lines input)) (kept-unbroken (named input ++ listed (node_lines input)) k))

  pub few-nodes : n + 1 ≤ 255
  few-nodes = omega (arith, (consecutive (node_lines input) kept.1 kept.0).few, tree-nodes (node_lines input), w.count)

  pub tree-taken : tree_of (take (n + 1) ps) (take (n + 1) bs) (take (n + 1) rs) ≡ tree_in input
  unfolding tree_in tree_from
  tree-taken =
      let z : n + 1 ≡ suc (length (node_lines input)) = omega (arith, w.count) in
      rw (z, w.holding.parents, w.holding.bursts, w.holding.rates)

  pub listing : Listing (take (n + 1) ps) (take (n + 1) bs) (take (n + 1) rs)
  unfolding tree_in tree_from
  listing =
      let z : n + 1 ≡ suc (length (node_lines input)) = omega (arith, w.count) in
      rw (z, w.holding.parents, w.holding.bursts, w.holding.rates)
      (record {
        some = omega (arith, kept.0, length-map (node_lines input) (λ (l : List ℕ). parent_in (entry_in l)));
        bursts = ap suc (length-map (node_lines input) _ ∙ sym (length-map (node_lines input) _));
        rates = ap suc (length-map (node_lines input) _ ∙ sym (length-map (node_lines input) _));
        planted = planted (tree_from (node_lines input)) (consecutive (node_lines input) kept.1 kept.0);
        ranged = ranged (node_lines input) kept.1 kept.0;
        without_gaps = without-gaps (tree_from (node_lines input)) (consecutive (node_lines input) kept.1 kept.0);
      })
