-- Lines in a table, one node's behind another's. Assumes nothing.
use mathlib.Core.Path.{◌≡◌, refl, sym, ap, ◌∙◌}
use mathlib.Core.List.{List, [], ◌∷◌, ◌++◌}
use Prim.Native.Nat.{ℕ, suc, ◌+◌, ◌-◌, ◌*◌, ◌≤◌, min}
use native.Mathlib.Omega.{arith}
use lib.ListN.{length}
use lib.Seq.{sets}
use Rattle.network.specs.Counting.{join}
use Rattle.links.specs.declared.Timing.{Timing}
use Rattle.plan_model.specs.declared.NodeLine.{NodeLine}
use Rattle.line_table_model.specs.Rows.{rows_of}
use Rattle.node_table_model.specs.NodeRows.{node_numbers, tree_table}
use Rattle.node_table_model.proofs.NodeLaws.{nodes-put}
use Rattle.tree_plan_model.proofs.Tabled.{lines-length}
use Rattle.tree_plan_model.specs.Tables.{line_in, lines_in}

-- ---- lines

module _ (a : Timing) (ps ns : List ℕ) (sink : ℕ) where
  lines_more : (n : ℕ) → lines_in a ps ns sink (suc n) ≡ lines_in a ps ns sink n ++ (line_in a ps ns sink (suc n) ∷ [])
  unfolding lines_in join
  lines_more n = refl

  pub lines_none : (e : List ℕ) → e ≡ sets e 0 (tree_table (lines_in a ps ns sink 0))
  unfolding lines_in join rows_of
  lines_none e = refl

  -- that of node v, behind those of the nodes before it
  pub lines-put : (e table table' : List ℕ) (v : ℕ) (l : NodeLine) → 1 ≤ v → v ≤ 254 → table ≡ sets e 0 (tree_table (lines_in a ps ns sink (v - 1))) → l ≡ line_in a ps ns sink v
      → table' ≡ sets table (10 * min (v - 1) 254) (node_numbers l) → table' ≡ sets e 0 (tree_table (lines_in a ps ns sink (v + 1 - 1)))
  lines-put e table table' v l one h et el eo =
      let p : List NodeLine = lines_in a ps ns sink (v - 1) in
      let m : 10 * min (v - 1) 254 ≡ 10 * length p = omega (arith, lines-length a ps ns sink (v - 1)) in
      let s : sets table (10 * min (v - 1) 254) (node_numbers l) ≡ sets e 0 (tree_table (p ++ (l ∷ []))) = rw (m, et) (nodes-put e p l) in
      let on : v + 1 - 1 ≡ v = omega arith in
      let here : suc (v - 1) ≡ v = omega arith in
      let w : p ++ (l ∷ []) ≡ lines_in a ps ns sink (v + 1 - 1) = rw (on, el) (sym (rw here at (lines_more (v - 1)))) in
      eo ∙ s ∙ ap (λ (x : List NodeLine). sets e 0 (tree_table x)) w
