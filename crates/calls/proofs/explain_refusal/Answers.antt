-- `calls::explain_refusal` meets its contract. Assumes nothing.
use mathlib.Core.Path.{ap, ◌∙◌}
use native.Mathlib.Omega.{arith}
use mathlib.Core.List.{List}
use Prim.Native.Nat.{ℕ}
use lib.ListN.{replicate}
use Rattle.buffer.proofs.Putting.{put_front}
use Rattle.calls_model.specs.Reasons.{line_left, plain, line_among, explain_refusal}
use Rattle.calls.proofs.explain_refusal.Goals as goal

pub returns : goal.returns
unfolding explain_refusal
returns c =
    let a = c.args in
    let p = c.put_plain-n in
    let e = put_front p.new.out (replicate 160 0) (line_among plain a.number a.place) p.result p.ensures.value (omega (arith, p.ensures.upper_bound)) p.ensures.out_after in
    c.leave.ensures ∙ ap (λ (t : List ℕ). line_left 0 0 t a.out.now) e
