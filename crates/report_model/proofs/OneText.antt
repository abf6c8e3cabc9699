-- No two plans have the same text. Assumes nothing.
use mathlib.Core.Path.{◌≡◌, refl, ap, sym, ◌∙◌}
use mathlib.Core.Bool.{true}
use mathlib.Core.List.{List, [], ◌∷◌, map, cons≢nil, head-eq_of_cons-eq, tail-eq_of_cons-eq}
use Prim.Native.Nat.{ℕ, ◌<◌}
use native.Mathlib.Omega.{arith}
use lib.ListN.{get_or}
use Rattle.decimal_model.specs.Ascii.{ascii}
use Rattle.decimal_model.specs.Number.{digits}
use Rattle.decimal_model.specs.Decimal.{decimal}
use Rattle.decimal_model.proofs.OneSpelling.{digits-head}
use Rattle.decimal_model.proofs.Writing.{written-in-decimal, written_apart}
use Rattle.lines.specs.Text.{fields, lines}
use Rattle.lines.specs.Laws.{lacks, all_lack}
use Rattle.lines.proofs.Parting.{lacks-above, joined-lacks, values-of-line, lines-of-text}
use Rattle.plan_model.specs.declared.Kind.{Kind}
use Rattle.plan_model.specs.declared.Kind.TheVariants.{EndNode, Upward, Downward, Sink}
use Rattle.plan_model.specs.declared.Line.{Line}
use Rattle.plan_model.specs.Lines.{letter}
use Rattle.report_model.specs.Text.{header, numbers, line_text, text}
use Rattle.report_model.specs.Laws.{OneTextForLines}

-- ---- no value has a space, no line an LF

-- a byte below the digits is none of them
digits-lack : (c : ℕ) (s : List ℕ) → c < 48 → digits s ≡ true → lacks c s ≡ true
unfolding lacks
digits-lack c [] h e = refl
digits-lack c (b ∷ bs) h e =
    let r = digits-head b bs e in lacks-above c b bs (omega (arith, r.0)) (digits-lack c bs h r.2)

-- nor is it a letter of a kind
pub letter-lacks : (c : ℕ) (k : Kind) → c < 48 → lacks c (letter k ∷ []) ≡ true
unfolding lacks letter
letter-lacks c k h = lacks-above c (letter k) [] (below k) refl where
  below : (j : Kind) → c < letter j
  below EndNode = omega arith
  below Upward = omega arith
  below Downward = omega arith
  below Sink = omega arith

header-lacks : lacks 10 header ≡ true
unfolding lacks header ascii
header-lacks = refl

-- ---- values apart are lines apart

-- lists are the same where a function that keeps values apart gives the same
pub map-apart : {A B : Type 0} (f : A → B) → ((a b : A) → f a ≡ f b → a ≡ b) → (s t : List A) → map f s ≡ map f t → s ≡ t
map-apart f h [] [] e = refl
map-apart f h [] (y ∷ ys) e = absurd (cons≢nil (sym e))
map-apart f h (x ∷ xs) [] e = absurd (cons≢nil e)
map-apart f h (x ∷ xs) (y ∷ ys) e =
    let q = h x y (head-eq_of_cons-eq e) in
    let r = map-apart f h xs ys (tail-eq_of_cons-eq e) in cc

-- no two kinds have the same letter
pub letter-apart : (a b : Kind) → letter a ≡ letter b → a ≡ b
unfolding letter
letter-apart EndNode EndNode e = refl
letter-apart EndNode Upward e = absurd (omega (arith, e))
letter-apart EndNode Downward e = absurd (omega (arith, e))
letter-apart EndNode Sink e = absurd (omega (arith, e))
letter-apart Upward EndNode e = absurd (omega (arith, e))
letter-apart Upward Upward e = refl
letter-apart Upward Downward e = absurd (omega (arith, e))
letter-apart Upward Sink e = absurd (omega (arith, e))
letter-apart Downward EndNode e = absurd (omega (arith, e))
letter-apart Downward Upward e = absurd (omega (arith, e))
letter-apart Downward Downward e = refl
letter-apart Downward Sink e = absurd (omega (arith, e))
letter-apart Sink EndNode e = absurd (omega (arith, e))
letter-apart Sink Upward e = absurd (omega (arith, e))
letter-apart Sink Downward e = absurd (omega (arith, e))
letter-apart Sink Sink e = refl

-- the line of that kind with these numbers behind it
unfoldable pub line_of : Kind → List ℕ → Line
line_of k ns = record {
  kind = k;
  depth = get_or ns 0 0;
  figures = record {
    rate = record { 0 = get_or ns 1 0 };
    burst = record { 0 = get_or ns 2 0 };
    slots = record { 0 = get_or ns 3 0 };
    frames = record { 0 = get_or ns 4 0 };
    latency = record { 0 = get_or ns 5 0 };
    buffer = record { 0 = get_or ns 6 0 };
    delay = record { 0 = get_or ns 7 0 };
  };
}

pub line-of : (l : Line) → line_of l.kind (numbers l) ≡ l
unfolding line_of numbers
line-of l = refl

-- a line is its kind and its numbers
same_line : (l m : Line) → l.kind ≡ m.kind → numbers l ≡ numbers m → l ≡ m
same_line l m e q =
    sym (line-of l) ∙ ap (λ (k : Kind). line_of k (numbers l)) e ∙ ap (λ (ns : List ℕ). line_of m.kind ns) q ∙ line-of m

-- ---- plans apart are texts apart

pub numbers-lack : (c : ℕ) (ns : List ℕ) → c < 48 → all_lack c (map decimal ns) ≡ true
unfolding all_lack
numbers-lack c [] h = refl
numbers-lack c (n ∷ ns) h = rw (digits-lack c (decimal n) h (written-in-decimal n).only_digits, numbers-lack c ns h)

values-lack : (c : ℕ) (l : Line) → c < 48 → all_lack c ((letter l.kind ∷ []) ∷ map decimal (numbers l)) ≡ true
unfolding all_lack
values-lack c l h = rw (letter-lacks c l.kind h, numbers-lack c (numbers l) h)

lines-lack : (p : List Line) → all_lack 10 (map line_text p) ≡ true
unfolding all_lack line_text
lines-lack [] = refl
lines-lack (l ∷ ls) =
    rw (joined-lacks 10 ((letter l.kind ∷ []) ∷ map decimal (numbers l)) (omega arith) (values-lack 10 l (omega arith)), lines-lack ls)

-- the values of a line are its letter and its numbers
pub line-values : (l : Line) → fields (line_text l) ≡ (letter l.kind ∷ []) ∷ map decimal (numbers l)
unfolding line_text
line-values l = values-of-line (letter l.kind ∷ []) (map decimal (numbers l)) (values-lack 32 l (omega arith))

-- the lines of a plan's text are the header and the plan's own
pub text-lines : (p : List Line) → lines (text p) ≡ header ∷ map line_text p
unfolding all_lack text
text-lines p = lines-of-text (header ∷ map line_text p) (rw (header-lacks, lines-lack p))

line-apart : (l m : Line) → line_text l ≡ line_text m → l ≡ m
line-apart l m e =
    let q = sym (line-values l) ∙ ap fields e ∙ line-values m in
    same_line l m
    (letter-apart l.kind m.kind (head-eq_of_cons-eq (head-eq_of_cons-eq q)))
    (map-apart decimal written_apart (numbers l) (numbers m) (tail-eq_of_cons-eq q))

pub one-text-for-lines : OneTextForLines
one-text-for-lines p q e =
    map-apart line_text line-apart p q (tail-eq_of_cons-eq (sym (text-lines p) ∙ ap lines e ∙ text-lines q))
