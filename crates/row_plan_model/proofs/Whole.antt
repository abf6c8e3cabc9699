-- A lent table that lines were put in, one behind another, holds their numbers at its front. Assumes nothing.
use mathlib.Core.Path.{◌≡◌, refl, sym, ap, ◌∙◌}
use mathlib.Core.List.{List, [], ◌∷◌, ◌++◌, append-nil}
use Prim.Native.Nat.{ℕ, ◌+◌, ◌*◌}
use native.Mathlib.Omega.{arith}
use lib.ListN.{length, length-append}
use lib.Seq.{sets, append_snoc}
use Rattle.measure.specs.Measures.{symbols, up_to_64}
use Rattle.plan_model.specs.declared.Line.{Line}
use Rattle.line_table_model.specs.Rows.{rows_of, row_table}
use Rattle.line_table_model.proofs.LineLaws.{lines-put}
use Rattle.row_plan_model.specs.Pages.{Page, pushed, filled}

-- the sum of the lines' delays
unfoldable pub delays : List Line → ℕ
delays [] = 0
delays (l ∷ ls) = l.figures.delay.0 + delays ls

pub delays-append : (xs ys : List Line) → delays (xs ++ ys) ≡ delays xs + delays ys
unfolding delays
delays-append [] ys = omega arith
delays-append (x ∷ xs) ys = omega (arith, delays-append xs ys)

-- a table with the numbers of these lines at its front
unfoldable pub page_of : List ℕ → List Line → Page
page_of ns ls = record { end = 9 * length ls; delay = symbols (up_to_64 (delays ls)); numbers = sets ns 0 (row_table ls) }

-- two lists one after the other
pub filled-append : (p : Page) (xs ys : List Line) → filled (filled p xs) ys ≡ filled p (xs ++ ys)
unfolding filled
filled-append p [] ys = refl
filled-append p (x ∷ xs) ys = filled-append (pushed p x) xs ys

-- one line more
pub pushed-lines : (ns : List ℕ) (ls : List Line) (l : Line) → pushed (page_of ns ls) l ≡ page_of ns (ls ++ (l ∷ []))
unfolding pushed page_of delays
pushed-lines ns ls l =
    let n : 9 * length ls + 9 ≡ 9 * length (ls ++ (l ∷ [])) = omega (arith, length-append ls (l ∷ [])) in
    let d : up_to_64 (up_to_64 (delays ls) + l.figures.delay.0) ≡ up_to_64 (delays (ls ++ (l ∷ []))) = omega (arith, delays-append ls (l ∷ [])) in
    rw (lines-put ns ls l, n, d) refl

-- lines behind lines
pub filled-lines : (ns : List ℕ) (xs ls : List Line) → filled (page_of ns xs) ls ≡ page_of ns (xs ++ ls)
unfolding filled
filled-lines ns xs [] = ap (page_of ns) (sym (append-nil xs))
filled-lines ns xs (l ∷ ls) =
    ap (λ (p : Page). filled p ls) (pushed-lines ns xs l) ∙ filled-lines ns (xs ++ (l ∷ [])) ls ∙ ap (page_of ns) (append_snoc xs l ls)

-- none yet
pub no_lines : (ns : List ℕ) → ◌≡◌ {A = Page} (record { end = 0; delay = symbols 0; numbers = ns }) (page_of ns [])
unfolding page_of delays rows_of
no_lines ns = refl
