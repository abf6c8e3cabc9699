-- No two plans of surveyed trees have the same text. Assumes nothing.
use mathlib.Core.Path.{◌≡◌, refl, ap, sym, ◌∙◌}
use mathlib.Core.Bool.{true}
use mathlib.Core.List.{List, [], ◌∷◌, ◌++◌, map, head-eq_of_cons-eq, tail-eq_of_cons-eq}
use Prim.Native.Nat.{ℕ, ◌<◌}
use native.Mathlib.Omega.{arith}
use lib.ListN.{get_or}
use Rattle.decimal_model.specs.Ascii.{ascii}
use Rattle.decimal_model.specs.Decimal.{decimal}
use Rattle.decimal_model.proofs.Writing.{written_apart}
use Rattle.lines.specs.Text.{fields, lines}
use Rattle.lines.specs.Laws.{lacks, all_lack}
use Rattle.lines.proofs.Parting.{joined-lacks, values-of-line, lines-of-text}
use Rattle.plan_model.specs.declared.Line.{Line}
use Rattle.plan_model.specs.Lines.{letter}
use Rattle.plan_model.specs.declared.NodeLine.{NodeLine}
use Rattle.report_model.specs.Text.{numbers}
use Rattle.report_model.specs.TreeText.{tree_header, node_text, tree_text}
use Rattle.report_model.specs.Laws.{OneTextForTrees}
use Rattle.report_model.proofs.OneText.{letter-lacks, numbers-lack, map-apart, letter-apart, line_of}

-- the numbers of a node's line
abbrev all : NodeLine → List ℕ
all n = numbers n.line ++ n.route.0 ∷ []

tree-header-lacks : lacks 10 tree_header ≡ true
unfolding lacks tree_header ascii
tree-header-lacks = refl

values-lack : (c : ℕ) (n : NodeLine) → c < 48 → all_lack c ((letter n.line.kind ∷ []) ∷ map decimal (all n)) ≡ true
unfolding all_lack
values-lack c n h = rw (letter-lacks c n.line.kind h, numbers-lack c (all n) h)

lines-lack : (p : List NodeLine) → all_lack 10 (map node_text p) ≡ true
unfolding all_lack node_text
lines-lack [] = refl
lines-lack (n ∷ ns) =
    rw (joined-lacks 10 ((letter n.line.kind ∷ []) ∷ map decimal (all n)) (omega arith) (values-lack 10 n (omega arith)), lines-lack ns)

-- the values of a node's line are its letter and its numbers
node-values : (n : NodeLine) → fields (node_text n) ≡ (letter n.line.kind ∷ []) ∷ map decimal (all n)
unfolding node_text
node-values n = values-of-line (letter n.line.kind ∷ []) (map decimal (all n)) (values-lack 32 n (omega arith))

-- the lines of a plan's text are the header and the plan's own
pub tree-text-lines : (p : List NodeLine) → lines (tree_text p) ≡ tree_header ∷ map node_text p
unfolding all_lack tree_text
tree-text-lines p = lines-of-text (tree_header ∷ map node_text p) (rw (tree-header-lacks, lines-lack p))

-- a node's line is its kind and its numbers
node_of : Line → ℕ → NodeLine
node_of l r = record { line = l; route = record { 0 = r } }

node-of : (n : NodeLine) → node_of (line_of n.line.kind (all n)) (get_or (all n) 8 0) ≡ n
unfolding node_of line_of numbers
node-of n = refl

node-apart : (n m : NodeLine) → node_text n ≡ node_text m → n ≡ m
node-apart n m e =
    let q = sym (node-values n) ∙ ap fields e ∙ node-values m in
    let k = letter-apart n.line.kind m.line.kind (head-eq_of_cons-eq (head-eq_of_cons-eq q)) in
    let v = map-apart decimal written_apart (all n) (all m) (tail-eq_of_cons-eq q) in
    sym (node-of n) ∙ ap (λ k. node_of (line_of k (all n)) (get_or (all n) 8 0)) k ∙ ap (λ (ns : List ℕ). node_of (line_of m.line.kind ns) (get_or ns 8 0)) v ∙ node-of m

pub one-text-for-trees : OneTextForTrees
one-text-for-trees p q e =
    map-apart node_text node-apart p q (tail-eq_of_cons-eq (sym (tree-text-lines p) ∙ ap lines e ∙ tree-text-lines q))
