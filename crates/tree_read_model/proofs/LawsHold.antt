-- The laws of specs/Laws. Assumes nothing.
use mathlib.Core.Path.{ap, ◌∙◌}
use mathlib.Core.Bool.{◌&&◌, and-eq-true_iff, true≢false}
use mathlib.Core.List.{List, [], ◌∷◌, ◌++◌}
use Prim.Native.Nat.{ℕ, ◌≤◌}
use native.Mathlib.Omega.{arith}
use lib.Dec.{leb}
use lib.ListN.{length}
use borrow.Author.Tests.{leb-true, not-false}
use Rattle.refusals.specs.Conditions.{Unbroken}
use Rattle.refusals.proofs.Unbroken.{unbroken-left, unbroken-right}
use Rattle.tree_model.specs.Tree.{is_number, is_router}
use Rattle.tree_model.specs.Lines.{lines}
use Rattle.tree_model.specs.Checks.{conditions}
use Rattle.refusals.specs.Outcome.{Planned}
use Rattle.tree_model.specs.Outcome.{outcome_of}
use Rattle.refusals.proofs.Outcomes.{planned-unbroken, unbroken-planned}
use Rattle.tree_model.proofs.LawsHold.{every-plan-keeps}
use Rattle.tree_read_model.specs.Survey.{node_lines, tree_from, tree_in, named, lines_from, listed, sink_right, surveyed, outcome_in}
use Rattle.tree_read_model.specs.Laws.{UnbrokenIsSurveyed, PlannedText, EveryTextKeeps}
use Rattle.tree_read_model.proofs.Listed.{list-surveyed}

-- lines that are kept are there
pub kept-lines : (ls : List (List ℕ)) → Unbroken (listed ls) → (1 ≤ length ls) × Unbroken (lines_from 1 ls)
unfolding listed
kept-lines [] u = absurd (true≢false u.0)
kept-lines (l ∷ ls) u = (omega arith, u)

pub unbroken-is-surveyed : UnbrokenIsSurveyed
unfolding surveyed tree_in sink_right is_number
unbroken-is-surveyed input sink u =
    let t = tree_from (node_lines input) in
    let front = named input ++ listed (node_lines input) in
    let k = kept-lines (node_lines input) (unbroken-right (named input) (listed (node_lines input)) (unbroken-left front (sink_right (tree_in input) sink) u)) in
    let s = unbroken-right front (sink_right (tree_in input) sink) u in
    let d = (and-eq-true_iff (leb 1 sink && leb sink t.nodes) (is_router t sink)).0 (not-false _ s.0) in
    let e = (and-eq-true_iff (leb 1 sink) (leb sink t.nodes)).0 d.0 in
    (list-surveyed (node_lines input) k.1 k.0 sink (leb-true 1 sink e.0) (leb-true sink t.nodes e.1), d.1)

pub planned-text : PlannedText
unfolding outcome_in outcome_of
planned-text input b sink p e =
    let t = tree_in input in
    let u = planned-unbroken (lines b t sink) p (surveyed input sink ++ conditions b t sink) e in (
      unbroken-left (surveyed input sink) (conditions b t sink) u.0,
      unbroken-planned (lines b t sink) (conditions b t sink) (unbroken-right (surveyed input sink) (conditions b t sink) u.0) ∙ ap Planned u.1,
    )

pub every-text-keeps : EveryTextKeeps
every-text-keeps input b sink p e =
    let h = planned-text input b sink p e in
    every-plan-keeps b (tree_in input) sink p (unbroken-is-surveyed input sink h.0).0 h.1
