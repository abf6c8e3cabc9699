-- The text of a line and a refusal, as code puts it: a letter, and number behind number. Assumes nothing.
use mathlib.Core.Path.{◌≡◌, ◌∙◌, refl, ap, sym}
use mathlib.Core.List.{List, [], ◌∷◌, ◌++◌, map, append_assoc, append-nil}
use Prim.Native.Nat.{ℕ, ◌+◌, ◌<◌}
use native.Mathlib.Numerals.{add-one}
use lib.ListN.{length, get_or, take, set}
use lib.Seq.{sets, take-suc}
use Rattle.buffer.proofs.Behind.{Put, put_one, put-behind, byte-behind}
use Rattle.decimal_model.specs.Ascii.{ascii}
use Rattle.decimal_model.specs.Decimal.{decimal}
use Rattle.lines.specs.Text.{joined, ended}
use Rattle.refusals.specs.declared.Refusal.{Refusal}
use Rattle.refusals.specs.Refusals.{number_of, place_of}
use Rattle.plan_model.specs.declared.Line.{Line}
use Rattle.plan_model.specs.Lines.{letter}
use Rattle.plan_model.specs.declared.NodeLine.{NodeLine}
use Rattle.report_model.specs.Text.{numbers, line_text, refusal_text}
use Rattle.report_model.specs.TreeText.{node_text}
use Rattle.report_model.specs.Inner.{spaced, row}

-- values behind a first one, each behind a space
joined-spaced : (f : List ℕ) (ns : List ℕ) → joined (f ∷ map decimal ns) ≡ f ++ spaced ns
unfolding joined spaced
joined-spaced f [] = sym (append-nil f)
joined-spaced f (n ∷ ns) = ap (λ (t : List ℕ). f ++ 32 ∷ t) (joined-spaced (decimal n) ns)

pub spaced-append : (ms ns : List ℕ) → spaced (ms ++ ns) ≡ spaced ms ++ spaced ns
unfolding spaced
spaced-append [] ns = refl
spaced-append (m ∷ ms) ns = rw (spaced-append ms ns) (sym (append_assoc (32 ∷ decimal m) (spaced ms) (spaced ns)))

-- a line is its letter and its numbers
pub line-spaced : (l : Line) → line_text l ≡ letter l.kind ∷ spaced (numbers l)
unfolding line_text
line-spaced l = joined-spaced (letter l.kind ∷ []) (numbers l)

-- and a node's has ROUTE behind them
pub node-spaced : (n : NodeLine) → node_text n ≡ line_text n.line ++ spaced (n.route.0 ∷ [])
unfolding node_text
node-spaced n =
    rw (line-spaced n.line) (joined-spaced (letter n.line.kind ∷ []) (numbers n.line ++ n.route.0 ∷ []) ∙ ap (λ (t : List ℕ). letter n.line.kind ∷ t) (spaced-append (numbers n.line) (n.route.0 ∷ [])))

-- a letter and numbers in decimal, one space between, and LF
joined-row : (letter : ℕ) (ns : List ℕ) → joined ((letter ∷ []) ∷ map decimal ns) ++ 10 ∷ [] ≡ row letter ns
unfolding row
joined-row letter ns = ap (λ (t : List ℕ). t ++ 10 ∷ []) (joined-spaced (letter ∷ []) ns)

-- so is a line with its LF, of its letter and its numbers,
pub line-row : (l : Line) (b : ℕ) (ns : List ℕ) → b ≡ letter l.kind → ns ≡ numbers l → row b (ns ++ []) ≡ line_text l ++ 10 ∷ []
unfolding line_text
line-row l b ns eb en = rw (eb, en, append-nil (numbers l)) (sym (joined-row (letter l.kind) (numbers l)))

-- a node's, with ROUTE behind the line's numbers,
pub node-row : (n : NodeLine) (b : ℕ) (ns : List ℕ) → b ≡ letter n.line.kind → ns ≡ numbers n.line → row b (ns ++ n.route.0 ∷ []) ≡ node_text n ++ 10 ∷ []
unfolding node_text
node-row n b ns eb en = rw (eb, en) (sym (joined-row (letter n.line.kind) (numbers n.line ++ n.route.0 ∷ [])))

-- and that of a refusal: R, number and place
pub refusal-row : (r : Refusal) (n p : ℕ) → n ≡ number_of r → p ≡ place_of r → row 82 ((n ∷ p ∷ []) ++ []) ≡ refusal_text r
unfolding refusal_text ended ascii
refusal-row r n p en ep = rw (en, ep) (sym (joined-row 82 (number_of r ∷ place_of r ∷ [])))

-- ---- put, one number behind another

-- one number more
pub spaced_more : (ns : List ℕ) (k : ℕ) → k < length ns → spaced (take (k + 1) ns) ≡ spaced (take k ns) ++ (32 ∷ decimal (get_or ns k 0))
unfolding spaced
spaced_more ns k h =
    rw (add-one k, take-suc ns k 0 h, spaced-append (take k ns) (get_or ns k 0 ∷ [])) (ap (λ (t : List ℕ). spaced (take k ns) ++ t) (append-nil (32 ∷ decimal (get_or ns k 0))))

-- a letter, numbers, more numbers and LF, put one behind another
pub row-put : {e o1 o2 o3 o4 : List ℕ} {s m n : ℕ} (b : ℕ) (ns ms : List ℕ) → o1 ≡ set e (s + 0) b → m ≡ s + 1 + length (spaced ns) → o2 ≡ sets o1 (s + 1) (spaced ns)
    → n ≡ m + length (spaced ms) → o3 ≡ sets o2 m (spaced ms) → o4 ≡ set o3 (n + 0) 10 → Put e s (row b (ns ++ ms)) o4 (n + 1)
unfolding row
row-put b ns ms e1 em e2 en e3 e4 =
    let p = put-behind (spaced ms) (put-behind (spaced ns) (put_one _ _ b _ e1) em e2) en e3 in rw (spaced-append ns ms) (byte-behind 10 p e4)
