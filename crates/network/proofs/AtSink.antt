-- What the sink received in a stretch of symbols keeps its load. Assumes nothing.
use mathlib.Core.Path.{◌≡◌, refl, ap}
use mathlib.Core.Bool.{Bool, true, false, ◌&&◌}
use mathlib.Core.List.{List, [], ◌∷◌}
use Prim.Native.Nat.{ℕ, ◌+◌, ◌*◌, ◌-◌, ◌≤◌, ◌<◌, min}
use native.Mathlib.Nat.{mul-le-mul_left}
use native.Mathlib.Omega.{arith}
use lib.Dec.{ltb, leb}
use borrow.Author.Tests.{lt-ltb, le-ltb, leb-true, leb-false}
use Rattle.network.specs.Counting.{bit, count}
use Rattle.network.specs.Model.{Network, Frame}
use Rattle.network.specs.Readings.{Reading}
use Rattle.network.specs.Oracle.{run}
use Rattle.network.specs.Loads.{Flows, Provisioned, Buckets}
use Rattle.network.specs.Claim.{came_in}
use Rattle.network.proofs.Serving.{came_before}
use Rattle.network.proofs.Accounting.{came, come-total, received-all}
use Rattle.network.proofs.Bounds.{held}

cut-le : (u x t : ℕ) → min u x ≤ min u (x + t)
cut-le u x t = omega arith

cut_by : (u x t : ℕ) → min u (x + t) - min u x ≤ t
cut_by u x t = omega arith

-- those of a stretch, and those before it
count-within : (x t : ℕ) (q : List Frame) → count (came_in x t) q + count (came_before x) q ≡ count (came_before (x + t)) q
unfolding count came_in came_before bit
count-within x t [] = refl
count-within x t (f ∷ q) = by (leb x f.came) refl (count-within x t q)
  where
    by : (b : Bool) → leb x f.came ≡ b → count (came_in x t) q + count (came_before x) q ≡ count (came_before (x + t)) q
        → bit (b && ltb f.came (x + t)) + count (came_in x t) q + (bit (ltb f.came x) + count (came_before x) q) ≡ bit (ltb f.came (x + t)) + count (came_before (x + t)) q
    by true e h = rw (le-ltb f.came x (omega (arith, leb-true x f.came e))) (omega arith)
    by false e h =
        let lt : f.came < x = leb-false x f.came e in
        rw (lt-ltb f.came x lt, lt-ltb f.came (x + t) (omega arith)) (omega arith)

module _ (N : Network) (F : Flows) (P : Provisioned N F) (l : List Reading) (Q : Buckets N F l) (pick : ℕ → ℕ → ℕ) where
  pub sink-load : (x t u : ℕ) → count (came_in x t) (run N l pick u).received * N.interval ≤ F.burst N.sink + F.rate N.sink * t
  sink-load x t u =
      let q : List Frame = (run N l pick u).received in
      let e : count (came_in x t) q + came N l pick N.sink (min u x) ≡ came N l pick N.sink (min u (x + t)) = omega (
        arith,
        count-within x t q,
        received-all N l pick (came_before x) u,
        received-all N l pick (came_before (x + t)) u,
        come-total N l pick x N.sink u,
        come-total N l pick (x + t) N.sink u,
      ) in
      omega (
        arith,
        ap (λ (n : ℕ). n * N.interval) e,
        held N F P l Q pick N.sink (min u (x + t)) P.sink_is_node (min u x) (cut-le u x t),
        mul-le-mul_left (F.rate N.sink) (cut_by u x t),
      )
