-- `tree_loads::checks::superframes_fit` meets its contract. Assumes nothing.
use Prim.Native.Nat.{◌*◌, ◌-◌, ◌%◌, ◌^◌}
use native.Mathlib.Omega.{arith}
use Rattle.plan_model.proofs.TimesMade.{one_shifted}
use Rattle.tree_plan_model.specs.Inner.{shape}
use Rattle.tree_plan_model.proofs.Answers.{routers-over, routers-in}
use Rattle.tree_loads.proofs.checks.superframes_fit.Goals as goal

pub returns-then-superframes-routers : goal.returns-then-superframes-routers
returns-then-superframes-routers c = let k = one_shifted (c.args.b.bo - c.args.b.so) (omega (arith, c.requires.checked_radio.bo)) in routers-over c.args.b (shape c.args.parents.now) c.routers_in-routers.result (1 * 2 ^ (c.args.b.bo - c.args.b.so) % 2 ^ 64) c.routers_in-routers.ensures k (omega (arith, c.if-superframes-routers.true))

pub returns : goal.returns
returns c = let k = one_shifted (c.args.b.bo - c.args.b.so) (omega (arith, c.requires.checked_radio.bo)) in routers-in c.args.b (shape c.args.parents.now) c.routers_in-routers.result (1 * 2 ^ (c.args.b.bo - c.args.b.so) % 2 ^ 64) c.routers_in-routers.ensures k (omega (arith, c.if-superframes-routers.false))
