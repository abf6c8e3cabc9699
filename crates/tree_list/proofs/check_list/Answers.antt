-- `tree_list::check_list` meets its contract. Assumes nothing.
use mathlib.Core.Path.{◌≡◌, sym, ap, ◌∙◌}
use mathlib.Core.List.{List, ◌++◌}
use Prim.Native.Nat.{ℕ, ◌+◌}
use lib.ListN.{take}
use Rattle.std.specs.Prelude.{Ok}
use Rattle.std.proofs.lemmas.Result.{err_from_is_err_and}
use Rattle.refusals.specs.Conditions.{verdict}
use Rattle.tree_model.specs.Tree.{Tree}
use Rattle.tree_read_model.specs.Survey.{node_lines, named, listed, sink_right, surveyed}
use Rattle.tree_plan_model.specs.Inner.{shape}
use Rattle.tree_plan_model.specs.Lists.{Whole}
use Rattle.tree_plan_model.proofs.Answers.{list-broken, list-kept, tree-taken, sink-kept, sink-broken}
use Rattle.tree_plan_model.proofs.Shaped.{sink-same}
use Rattle.tree_list.proofs.check_list.Goals as goal

-- where the list is kept, the sink's condition is the last
sink-last : (input : List ℕ) (sink n : ℕ) (ps bs rs : List ℕ) → verdict (named input ++ listed (node_lines input)) ≡ Ok tt → Whole (node_lines input) n ps bs rs
    → verdict (sink_right (shape (take (n + 1) ps)) sink) ≡ verdict (surveyed input sink)
sink-last input sink n ps bs rs k w =
    ap verdict (sink-same (take (n + 1) ps) (take (n + 1) bs) (take (n + 1) rs) sink) ∙ ap (λ (t : Tree). verdict (sink_right t sink)) (tree-taken input k n _ _ _ w)
    ∙ list-kept input sink k

pub returns-in_err-listed : goal.returns-in_err-listed
returns-in_err-listed c =
    let p = err_from_is_err_and c.from_residual.result c.from_residual.ensures.1 in
    rw (p.1, p.2) (list-broken c.args.input.now c.args.sink _ (sym c.in_err-listed.ensures.verdict_value))

pub returns-then-sink_right : goal.returns-then-sink_right
returns-then-sink_right c =
    let e = c.in_ok-listed.ensures in
    sym (sink-kept _ c.args.sink c.if-sink_right.ensures) ∙ sink-last c.args.input.now c.args.sink c.in_ok-listed.listed.nodes _ _ _ (sym e.verdict_value) e.whole

pub returns-else-sink_right : goal.returns-else-sink_right
returns-else-sink_right c =
    let e = c.in_ok-listed.ensures in
    sym (sink-broken _ c.args.sink c.if-sink_right.ensures) ∙ sink-last c.args.input.now c.args.sink c.in_ok-listed.listed.nodes _ _ _ (sym e.verdict_value) e.whole
