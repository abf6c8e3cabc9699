-- Where frames go next, one node's three numbers behind another's. Assumes nothing.
use mathlib.Core.Path.{◌≡◌, refl, sym, ap, ◌∙◌}
use mathlib.Core.Bool.{Bool, true, false, cond}
use mathlib.Core.List.{List, [], ◌∷◌, ◌++◌}
use Prim.Native.Nat.{ℕ, zero, suc, ◌+◌, ◌-◌, ◌*◌, ◌≤◌, ◌<◌}
use native.Mathlib.Decide.{ℕ_discrete}
use native.Mathlib.Omega.{arith}
use lib.Dec.{eqb, ltb}
use lib.ListN.{length, get_or, length-append}
use lib.Seq.{sets}
use borrow.Author.Tests.{ne_eqb}
use Rattle.buffer.proofs.Putting.{sets-sets}
use Rattle.network.specs.Counting.{join}
use Rattle.tree_model.specs.Ways.{next}
use Rattle.tree_model.proofs.WayLaws.{at-sink, next-node}
use Rattle.tree_plan_model.specs.Inner.{shape, towards_in}
use Rattle.tree_plan_model.specs.Tables.{Led, superframe_in}
use Rattle.tree_plan_model.specs.Hops.{hop_by, hops_by}

module _ (ps ns : List ℕ) (sink : ℕ) where
  hops-more : (n : ℕ) → hops_by ps ns sink (suc n) ≡ hops_by ps ns sink n ++ hop_by ps ns sink (suc n)
  unfolding hops_by join
  hops-more n = refl

  hop-length : (v : ℕ) → length (hop_by ps ns sink v) ≡ 3
  unfolding hop_by
  hop-length v = refl

  hops-zero : [] ≡ hops_by ps ns sink 0
  unfolding hops_by join
  hops-zero = refl

  hops-length : (n : ℕ) → length (hops_by ps ns sink n) ≡ 3 * n
  hops-length zero = ap length (sym hops-zero)
  hops-length (suc n) = rw (hops-more n) (length-append (hops_by ps ns sink n) (hop_by ps ns sink (suc n)) ∙ omega (arith, hops-length n, hop-length (suc n)))

  pub hops-none : (e : List ℕ) → e ≡ sets e 0 (hops_by ps ns sink 0)
  unfolding hops_by join
  hops-none e = refl

  -- those of node v, behind those of the nodes before it
  pub hops-put : (e hops hops' : List ℕ) (v : ℕ) → 1 ≤ v → hops ≡ sets e 0 (hops_by ps ns sink (v - 1)) → hops' ≡ sets hops (3 * (v - 1)) (hop_by ps ns sink v) → hops' ≡ sets e 0 (hops_by ps ns sink (v + 1 - 1))
  hops-put e hops hops' v one eh eo =
      let m : 3 * (v - 1) ≡ 0 + length (hops_by ps ns sink (v - 1)) = omega (arith, hops-length (v - 1)) in
      let s : sets hops (3 * (v - 1)) (hop_by ps ns sink v) ≡ sets e 0 (hops_by ps ns sink (v - 1) ++ hop_by ps ns sink v) = rw (m, eh) (sets-sets e 0 (hops_by ps ns sink (v - 1)) (hop_by ps ns sink v)) in
      let on : v + 1 - 1 ≡ v = omega arith in
      let here : suc (v - 1) ≡ v = omega arith in
      let w : hops_by ps ns sink (v - 1) ++ hop_by ps ns sink v ≡ hops_by ps ns sink (v + 1 - 1) = rw on (sym (rw here at (hops-more (v - 1)))) in
      eo ∙ s ∙ ap (λ (x : List ℕ). sets e 0 x) w

  -- they are bytes
  module _ (L : Led ps ns sink) (few : length ps ≤ 255) (v : ℕ) (one : 1 ≤ v) (most : v < length ps) where
    pub towards-low : towards_in ns v < 256
    towards-low = by (ℕ_discrete v sink)
      where
        known : sink ≤ (shape ps).nodes
        known = omega (arith, L.sink_known)

        by : Dec (v ≡ sink) → towards_in ns v < 256
        by (yes e) = omega (arith, L.led v one most, next-sink e)
          where
            next-sink : v ≡ sink → next (shape ps) sink v ≡ 0
            next-sink q = rw q (at-sink (shape ps) L.planted sink L.sink_some known)
        by (no n) =
            let x = next-node (shape ps) L.planted sink L.sink_some known (L.without_gaps sink known) v one (omega (arith, most)) (L.without_gaps v (omega (arith, most))) n in
            omega (arith, L.led v one most, x.1)

    pub superframe-low : (r : ℕ) → r ≡ cond (eqb v sink) 0 (superframe_in ps ns v) → r < 256
    unfolding superframe_in
    superframe-low r e = rw e (by (eqb v sink) (ltb v (towards_in ns v)))
      where
        by : (b c : Bool) → cond b 0 (cond c v (get_or ps v 0)) < 256
        by true c = omega arith
        by false true = omega arith
        by false false = omega (arith, L.planted.smaller v one (omega (arith, most)))

  -- a node's three, as they are read and put
  pub hop-put : (hops hops' : List ℕ) (at v y z : ℕ) → y ≡ towards_in ns v → z ≡ cond (eqb v sink) 0 (superframe_in ps ns v) → hops' ≡ sets hops at (get_or ps v 0 ∷ y ∷ z ∷ []) → hops' ≡ sets hops at (hop_by ps ns sink v)
  unfolding hop_by
  hop-put hops hops' at v y z ey ez e = rw (← ey, ← ez) e

  pub hop-elsewhere : (v r : ℕ) → (v ≡ sink → ⊥) → r ≡ superframe_in ps ns v → r ≡ cond (eqb v sink) 0 (superframe_in ps ns v)
  hop-elsewhere v r n e = e ∙ rw (ne_eqb v sink n)
