-- `tree_loads::checks::routers_in` meets its contract. Assumes nothing.
use mathlib.Core.Path.{◌≡◌, refl, sym, ◌∙◌}
use mathlib.Core.Bool.{Bool, true, false}
use Prim.Native.Nat.{ℕ, ◌+◌, ◌-◌, ◌≤◌}
use native.Mathlib.Omega.{arith}
use lib.ListN.{length}
use Rattle.network.specs.Counting.{bit}
use Rattle.tree_model.specs.Tree.{sum_to, is_router}
use Rattle.tree_model.proofs.PlainLists.{own-routers}
use Rattle.tree_model.proofs.Shapes.{counted, not-counted}
use Rattle.tree_plan_model.specs.Inner.{shape}
use Rattle.tree_children.proofs.Linking.{router-in}
use Rattle.tree_loads.proofs.checks.routers_in.Goals as goal
use Rattle.tree_loads.proofs.checks.routers_in.Goals.{then-is_router, else-is_router}

-- of the nodes before v, and of v too
count_next : (p : ℕ → Bool) (n v : ℕ) → 1 ≤ v → n ≡ sum_to (λ u. bit (p u)) (v - 1) → p v ≡ true → n + 1 ≡ sum_to (λ u. bit (p u)) (v + 1 - 1)
count_next p n v one e r =
    let here : v - 1 + 1 ≡ v = omega arith in
    let on : v + 1 - 1 ≡ v - 1 + 1 = omega arith in
    rw on (counted p n (v - 1) e (rw here r))

count-same : (p : ℕ → Bool) (n v : ℕ) → 1 ≤ v → n ≡ sum_to (λ u. bit (p u)) (v - 1) → p v ≡ false → n ≡ sum_to (λ u. bit (p u)) (v + 1 - 1)
count-same p n v one e r =
    let here : v - 1 + 1 ≡ v = omega arith in
    let on : v + 1 - 1 ≡ v - 1 + 1 = omega arith in
    rw on (not-counted p n (v - 1) e (rw here r))

pub loop-v-init : goal.loop-v-init
unfolding sum_to
loop-v-init c = (omega arith, refl)

pub loop-v-preserved : goal.loop-v-preserved
loop-v-preserved c =
    let ps = c.args.parents.now in
    let l = c.loop-v in
    let r : is_router (shape ps) l.v ≡ c.is_router.result = sym (router-in ps c.args.kin.now c.requires.linked l.v c.loop-v-test.true (omega (arith, c.requires.parents_len_bound))) ∙ sym c.is_router.ensures in
    elim c.if-is_router.branch [
      | then-is_router w ↦ (omega (arith, l.invariant.0, w.count-is), w.count-is ∙ count_next (is_router (shape ps)) l.count l.v l.auto.v l.invariant.1 (r ∙ w.if-is_router.true))
      | else-is_router w ↦ (omega (arith, l.invariant.0, w.count-is), w.count-is ∙ count-same (is_router (shape ps)) l.count l.v l.auto.v l.invariant.1 (r ∙ w.if-is_router.false))
    ]

pub returns : goal.returns
returns c =
    let ps = c.args.parents.now in
    let l = c.loop-v in
    let z : l.v - 1 ≡ length ps - 1 = omega (arith, c.loop-v-test.false, l.auto.v-end c.requires.in_bounds) in
    rw z at l.invariant.1 ∙ sym (own-routers (shape ps) (λ v. refl))
