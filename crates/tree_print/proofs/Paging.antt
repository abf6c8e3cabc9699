-- The text of a table's first lines, with none and with one more. Assumes nothing.
use mathlib.Core.Path.{◌≡◌, refl, sym}
use mathlib.Core.List.{List, [], ◌∷◌, ◌++◌, append_assoc, map}
use Prim.Native.Nat.{ℕ, ◌+◌, ◌*◌, ◌<◌, min}
use native.Mathlib.Omega.{arith}
use lib.ListN.{length, length-append}
use lib.Seq.{sets}
use Rattle.decimal_model.specs.Ascii.{ascii}
use Rattle.lines.specs.Text.{ended}
use Rattle.network.specs.Counting.{join}
use Rattle.buffer.proofs.Putting.{sets-sets}
use Rattle.plan_model.specs.declared.NodeLine.{NodeLine}
use Rattle.report_model.specs.TreeText.{tree_header, node_text, tree_text}
use Rattle.report_model.proofs.Paging as paging
use Rattle.line_table_model.specs.Rows.{rows_in}
use Rattle.node_table_model.specs.NodeRows.{node_in, nodes_in}
use Rattle.node_table_model.proofs.NodeLaws.{nodes-more}

none : (ns : List ℕ) → nodes_in ns 0 ≡ []
unfolding rows_in join
none ns = refl

-- of no line: the header line and its LF
pub text_none : (ns : List ℕ) → tree_text (nodes_in ns 0) ≡ tree_header ++ 10 ∷ []
unfolding tree_text ended
text_none ns = rw (none ns)

pub length_none : (ns : List ℕ) → length (tree_text (nodes_in ns 0)) ≡ 62
unfolding tree_header ascii
length_none ns = rw (text_none ns)

-- of one line more: its text and its LF behind those before it
pub text_more : (ns : List ℕ) (n : ℕ) → n < 254
    → tree_text (nodes_in ns (n + 1)) ≡ tree_text (nodes_in ns n) ++ (node_text (node_in ns (10 * min n 254)) ++ 10 ∷ [])
unfolding tree_text ended
text_more ns n h =
    let q : min n 254 ≡ n = omega arith in
    let at : ℕ → NodeLine = λ k. node_in ns (10 * k) in
    let t : List ℕ = node_text (at n) ++ 10 ∷ [] in
    rw (q, paging.behind_more tree_header node_text (nodes_in ns) at (none ns) (nodes-more ns) n (at n) refl)
    (sym (append_assoc tree_header (10 ∷ ended (map node_text (nodes_in ns n))) t))

pub length_more : (ns : List ℕ) (n : ℕ) → n < 254
    → length (tree_text (nodes_in ns (n + 1))) ≡ length (tree_text (nodes_in ns n)) + length (node_text (node_in ns (10 * min n 254)) ++ 10 ∷ [])
length_more ns n h = rw (text_more ns n h) (length-append (tree_text (nodes_in ns n)) _)

-- a text put behind the one at the front
pub put_more : (e t u : List ℕ) → sets (sets e 0 t) (length t) u ≡ sets e 0 (t ++ u)
put_more e t u = let q : length t ≡ 0 + length t = omega arith in rw q (sets-sets e 0 t u)

-- all that a loop over the lines asks for
pub ruleset line_by_line = (text_none, length_none, text_more, length_more, put_more)
