-- What the loops of `tree_slots::routers::routers_fit` keep. Assumes nothing.
use mathlib.Core.Path.{◌≡◌}
use Prim.Native.Nat.{◌-◌}
use Rattle.refusals.specs.Conditions.{verdict}
use Rattle.tree_plan_model.specs.Tables.{routers_by}
use Rattle.tree_slots.proofs.Fitting.{from}
use Rattle.tree_slots.proofs.routers.routers_fit.Given as goal

-- the routers before `router` have enough
abbrev pub invariant-loop-router : goal.invariant-loop-router
invariant-loop-router l = verdict (routers_by l.so l.counts l.used (l.n - 1) 1) ≡ from l.so l.counts l.used (l.n - 1) l.router
