-- Depths, one node after another. Assumes nothing.
use mathlib.Core.Path.{◌≡◌, sym}
use mathlib.Core.List.{List}
use Prim.Native.Nat.{ℕ, ◌+◌, ◌-◌, ◌≤◌, ◌<◌}
use native.Mathlib.Omega.{arith}
use lib.ListN.{length, get_or, set}
use Rattle.tree_model.specs.Tree.{Rooted, WithoutGaps}
use Rattle.tree_model.specs.Ways.{depth_of}
use Rattle.tree_model.proofs.Shapes.{depth-root, depth-step, depth-most}
use Rattle.tree_plan_model.specs.Inner.{shape}
use Rattle.tree_plan_model.specs.Filled.{DepthsTo, DepthsSet}
use Rattle.tree_ways.proofs.Putting.{entry-put}

module _ (ps : List ℕ) where
  pub depths-all : (n : ℕ) (hs : List ℕ) → length ps - 1 ≤ n → DepthsTo ps n hs → DepthsSet ps hs
  depths-all n hs l d = record { each = λ v a b. d.each v a (omega arith) }

  module _ (p : Rooted (shape ps)) where
    -- the root's
    pub depths-root : (hs : List ℕ) → length hs ≡ 256 → DepthsTo ps 1 (set hs 1 0)
    depths-root hs size = record { each = λ v a b. entry-put (depth_of (shape ps)) hs 1 0 (omega arith) (sym (depth-root (shape ps) p 1 (omega arith))) v (λ m. absurd (m (omega arith))) }

    -- and one more than the parent's: node n, where those before it are set
    module _ (g : WithoutGaps (shape ps)) (n : ℕ) (two : 2 ≤ n) (h : n < length ps) (hs : List ℕ) (size : length hs ≡ 256) (d : DepthsTo ps (n - 1) hs) where
      parent-less : get_or ps n 0 < n
      parent-less = p.smaller n (omega arith) (omega arith)

      above : get_or hs (get_or ps n 0) 0 ≡ depth_of (shape ps) (get_or ps n 0)
      above = d.each (get_or ps n 0) (g n (omega arith) two) (omega (arith, parent-less))

      pub depth_low : get_or hs (get_or ps n 0) 0 ≤ 254
      depth_low = omega (arith, above, h, parent-less, p.few, depth-most (shape ps) p (get_or ps n 0) (get_or ps n 0) (omega arith) (omega (arith, h, parent-less)))

      pub depths-more : DepthsTo ps (n + 1 - 1) (set hs n (get_or hs (get_or ps n 0) 0 + 1))
      depths-more =
          let few : n < length hs = omega (arith, h, size, p.few) in
          let right : get_or hs (get_or ps n 0) 0 + 1 ≡ depth_of (shape ps) n = omega (arith, above, depth-step (shape ps) p n two (omega arith)) in
          record { each = λ v a b. entry-put (depth_of (shape ps)) hs n _ few right v (λ m. d.each v a (omega (arith, b, m))) }
