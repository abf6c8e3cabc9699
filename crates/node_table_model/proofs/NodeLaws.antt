-- The laws of many lines, of a surveyed tree's: each is line_table_model's at width 10. Assumes nothing.
use mathlib.Core.Path.{◌≡◌, ◌∙◌}
use mathlib.Core.List.{List, [], ◌∷◌, ◌++◌, append_assoc}
use Prim.Native.Nat.{ℕ, suc, ◌+◌, ◌*◌, ◌≤◌}
use native.Mathlib.Omega.{arith}
use lib.ListN.{length, length-append}
use lib.Seq.{sets, get_or-append-add}
use Rattle.buffer.proofs.Putting.{sets-sets}
use Rattle.plan_model.specs.declared.NodeLine.{NodeLine}
use Rattle.line_table_model.specs.Rows.{numbers_of}
use Rattle.line_table_model.proofs.Numbers.{numbers-length, line-back, line-behind}
use Rattle.line_table_model.proofs.RowLaws.{rows-length, rows-put, rows_back, rows_more}
use Rattle.node_table_model.specs.NodeRows.{node_numbers, node_in, tree_table, nodes_in}

-- ---- what the laws of many lines ask of a sort

node-length : (n : NodeLine) → length (node_numbers n) ≡ 10
unfolding node_numbers
node-length n = omega (arith, length-append (numbers_of n.line) (n.route.0 ∷ []), numbers-length n.line)

-- a node's line from its own numbers, at the front
node-back : (n : NodeLine) (ys : List ℕ) → node_in (node_numbers n ++ ys) 0 ≡ n
unfolding node_numbers node_in
node-back n ys =
    let xs : List ℕ = numbers_of n.line in
    let q : 0 + 9 ≡ length xs + 0 = omega (arith, numbers-length n.line) in
    rw (append_assoc xs (n.route.0 ∷ []) ys, line-back n.line (n.route.0 ∷ ys), q, get_or-append-add xs (n.route.0 ∷ ys) 0 0)

-- and behind other numbers
node-behind : (xs ys : List ℕ) (m : ℕ) → node_in (xs ++ ys) (length xs + m) ≡ node_in ys m
unfolding node_in
node-behind xs ys m =
    let q : length xs + m + 9 ≡ length xs + (m + 9) = omega arith in
    rw (line-behind xs ys m, q, get_or-append-add xs ys (m + 9) 0)

-- ---- a tree's lines

pub nodes-length : (p : List NodeLine) → length (tree_table p) ≡ 10 * length p
nodes-length p = rows-length 10 node_numbers node_in node-length node-back node-behind p

-- one line more, put behind those that are there
pub nodes-put : (e : List ℕ) (ls : List NodeLine) (l : NodeLine) → sets (sets e 0 (tree_table ls)) (10 * length ls) (node_numbers l) ≡ sets e 0 (tree_table (ls ++ (l ∷ [])))
nodes-put e ls l = rows-put 10 node_numbers node_in node-length node-back node-behind e ls l

-- a plan's numbers at the front of a table that has room for them are its lines
pub nodes-back : (p : List NodeLine) (e : List ℕ) → length (tree_table p) ≤ length e → nodes_in (sets e 0 (tree_table p)) (length p) ≡ p
nodes-back p e h = rows_back 10 node_numbers node_in node-length node-back node-behind p e h

-- one line more that stands in a table
pub nodes-more : (ns : List ℕ) (n : ℕ) → nodes_in ns (suc n) ≡ nodes_in ns n ++ (node_in ns (10 * n) ∷ [])
nodes-more ns n = rows_more 10 node_numbers node_in node-length node-back node-behind ns n

-- ---- one node, as it is put

-- its line, then ROUTE
pub node-put : (at : ℕ) (n : NodeLine) (t0 t1 t : List ℕ) → t1 ≡ sets t0 at (numbers_of n.line) → t ≡ sets t1 (at + 9) (n.route.0 ∷ []) → t ≡ sets t0 at (node_numbers n)
unfolding node_numbers
node-put at n t0 t1 t e1 e =
    let q : at + 9 ≡ at + length (numbers_of n.line) = omega (arith, numbers-length n.line) in
    e ∙ rw (e1, q) (sets-sets t0 at (numbers_of n.line) (n.route.0 ∷ []))
