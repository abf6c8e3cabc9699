-- The text of a table's lines, one behind another: the laws of any sort of line, of a row's. Assumes nothing.
use mathlib.Core.Path.{◌≡◌, refl}
use mathlib.Core.List.{List, [], ◌∷◌, ◌++◌, map}
use Prim.Native.Nat.{ℕ, ◌+◌, ◌*◌}
use lib.ListN.{length}
use lib.Seq.{sets}
use Rattle.decimal_model.specs.Ascii.{ascii}
use Rattle.lines.specs.Text.{ended}
use Rattle.network.specs.Counting.{join}
use Rattle.buffer.proofs.Behind.{Put}
use Rattle.plan_model.specs.declared.Line.{Line}
use Rattle.report_model.specs.Text.{header, line_text, text}
use Rattle.report_model.proofs.Paging as paging
use Rattle.line_table_model.specs.Rows.{line_in, rows_in, lines_in}
use Rattle.line_table_model.proofs.LineLaws.{lines_more}

-- the header line's length
header-length : length (header ++ 10 ∷ []) ≡ 56
unfolding header ascii
header-length = refl

module _ (ns : List ℕ) where
  none : lines_in ns 0 ≡ []
  unfolding rows_in join
  none = refl

  abbrev at : ℕ → Line
  at n = line_in ns (9 * n)

  -- the text of the first n lines, behind the header line
  abbrev pub behind : ℕ → List ℕ
  behind n = ended (map line_text (lines_in ns n))

  pub behind-none : behind 0 ≡ []
  behind-none = paging.behind-none header line_text (lines_in ns) at none (lines_more ns)

  -- and of one more
  pub behind_more : (n : ℕ) (l : Line) → l ≡ line_in ns (9 * n) → behind (n + 1) ≡ behind n ++ (line_text l ++ 10 ∷ [])
  behind_more n l e = paging.behind_more header line_text (lines_in ns) at none (lines_more ns) n l e

  pub text-length : (n : ℕ) → length (text (lines_in ns n)) ≡ 56 + length (behind n)
  unfolding text
  text-length n = paging.text-length header line_text (lines_in ns) at none (lines_more ns) 56 header-length n

  pub text-put : {e out out' : List ℕ} {end : ℕ} (n : ℕ) → out ≡ sets e 0 (header ++ 10 ∷ []) → Put out 56 (behind n) out' end → Put e 0 (text (lines_in ns n)) out' end
  unfolding text
  text-put n h p = paging.text-put header line_text (lines_in ns) at none (lines_more ns) 56 header-length n h p
