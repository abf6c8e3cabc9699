-- `tree_hops::hops_of` meets its contract. Assumes nothing.
use mathlib.Core.Path.{sym, ap, ◌∙◌}
use mathlib.Core.List.{List}
use Prim.Native.Nat.{ℕ}
use lib.Seq.{sets}
use Rattle.std.proofs.lemmas.Result.{err_from_is_err_and}
use Rattle.plan_model.proofs.Answered.{refused-put, planned-put}
use Rattle.tree_model.specs.Lines.{lines}
use Rattle.tree_read_model.specs.Survey.{tree_in}
use Rattle.tree_plan_model.specs.Hops.{hops_of}
use Rattle.tree_hops.proofs.Outcomes.{outcome-refused, outcome-planned, hops-asked, hops-put-all}
use Rattle.tree_hops.proofs.hops_of.Goals as goal

pub returns-in_err-stage : goal.returns-in_err-stage
returns-in_err-stage c =
    let x = c.args in
    let p = err_from_is_err_and c.from_residual.result c.from_residual.ensures.1 in
    let e = c.in_err-stage.ensures in
    let o = outcome-refused x.input.now x.b x.sink _ (sym e.verdict_value) in
    rw (p.1, p.2) (record { verdict_value = e.verdict_value; loads_left = e.loads_left; stage_left = e.stage_left; ways_left = e.ways_left; hops_after = refused-put (hops_of (tree_in x.input.now) x.sink) _ _ x.hops.now o })

pub put_hops-requires : goal.put_hops-requires
put_hops-requires c = let w = hops-asked _ _ _ _ _ _ c.in_ok-stage.ensures.loads_left.held in record { parents_len_bound = w.0; led = w.1 }

pub returns-clause-hops_after : goal.returns-clause-hops_after
returns-clause-hops_after c =
    let x = c.args in
    let k = c.in_ok-stage.ensures in
    let o = outcome-planned x.input.now x.b x.sink (sym k.verdict_value) in
    let w = hops-put-all x.input.now x.b x.sink _ _ _ k.loads_left.held in
    planned-put (hops_of (tree_in x.input.now) x.sink) _ (lines x.b (tree_in x.input.now) x.sink) x.hops.now _ o (c.put_hops.ensures ∙ ap (λ (q : List ℕ). sets x.hops.now 0 q) w)
