-- Routers, found among the parents. Assumes nothing.
use mathlib.Core.Path.{◌≡◌, refl, ◌∙◌, ap}
use mathlib.Core.Bool.{Bool, ◌||◌}
use mathlib.Core.List.{List, [], ◌∷◌}
use Prim.Native.Nat.{ℕ, zero, suc, ◌-◌, ◌≤◌}
use native.Mathlib.Nat.{le_refl}
use native.Mathlib.Numerals.{add-one}
use native.Mathlib.Omega.{arith}
use lib.Dec.{eqb}
use lib.ListN.{length, take, drop, get_or}
use lib.Seq.{take_all}
use borrow.Author.Tests.{ne_eqb}
use Rattle.std.specs.List.{list_any}
use Rattle.std.proofs.lemmas.List.Folds.{list_any_more}
use Rattle.tree_model.specs.Tree.{some_to, is_router}
use Rattle.tree_plan_model.specs.Inner.{shape}

-- some entry passes a test: the first i behind entry 0
some-any : (p : ℕ → Bool) (x : ℕ) (xs : List ℕ) (i : ℕ) → i ≤ length xs → list_any p (take i xs) ≡ some_to (λ w. p (get_or (x ∷ xs) w 0)) i
unfolding some_to
some-any p x xs zero h = refl
some-any p x xs (suc i) h = rw (← add-one i) (list_any_more p xs i 0 (omega arith)) ∙ ap (λ b. b || p (get_or xs i 0)) (some-any p x xs i (omega arith))

-- a node other than the root is a router where some node has it as its parent
pub router-any : (ps : List ℕ) (v : ℕ) → (v ≡ 1 → ⊥) → list_any (λ p. eqb p v) (drop 1 ps) ≡ is_router (shape ps) v
unfolding is_router some_to
router-any [] v n = rw (ne_eqb v 1 n)
router-any (x ∷ ps) v n =
    let nodes : suc (length ps) - 1 ≡ length ps = omega arith in
    let found = some-any (λ p. eqb p v) x ps (length ps) (le_refl (length ps)) in
    rw (ne_eqb v 1 n, nodes) (rw (take_all (length ps) ps (le_refl (length ps))) at found)
