-- Lines of a text and values of a line (document 01, 'Rows of settings'). Assumes nothing: these are definitions.
use Rattle.lines.specs.declared.Cursor.{Cursor}
use Rattle.std.specs.Prelude.{ℕ, ◌+◌, ◌-◌, min, Bool, true, false, cond, ◌&&◌, List, [], ◌∷◌, ◌++◌, leb, eqb, length, take, drop, Option, Some, None}
use Rattle.lines.specs.declared.Line.{Line}

-- two texts are the same, byte by byte
unfoldable pub same : List ℕ → List ℕ → Bool
same [] [] = true
same [] (c ∷ cs) = false
same (b ∷ bs) [] = false
same (b ∷ bs) (c ∷ cs) = eqb b c && same bs cs

-- pieces of bytes with one byte more in front: it ends a piece that is empty so far, or stands first in the first piece
unfoldable pub before : Bool → ℕ → List (List ℕ) → List (List ℕ)
before true b ps = [] ∷ ps
before false b [] = (b ∷ []) ∷ []
before false b (p ∷ ps) = (b ∷ p) ∷ ps

-- bytes cut at each byte that is `at`; `rest` is what an empty rest counts as
unfoldable pub pieces : ℕ → List (List ℕ) → List ℕ → List (List ℕ)
pieces at rest [] = rest
pieces at rest (b ∷ bs) = before (eqb b at) b (pieces at rest bs)

-- "one space between": the values of a line are the runs of bytes between single spaces. So n spaces part n + 1 values, of which
-- some may be empty.
unfoldable pub fields : List ℕ → List (List ℕ)
fields line = pieces 32 ([] ∷ []) line

-- the line that has these values, one space between
unfoldable pub joined : List (List ℕ) → List ℕ
joined [] = []
joined (f ∷ []) = f
joined (f ∷ g ∷ gs) = f ++ 32 ∷ joined (g ∷ gs)

-- "A line ends with LF; the last may lack it"; "an empty rest after an LF is no row"
unfoldable pub lines : List ℕ → List (List ℕ)
lines text = pieces 10 [] text

-- the text that has these lines, each with its LF
unfoldable pub ended : List (List ℕ) → List ℕ
ended [] = []
ended (l ∷ ls) = l ++ 10 ∷ ended ls

-- a line that starts at start and ends before end, and what is behind it
abbrev pub found : ℕ → ℕ → Cursor → Option Line
found start end next = Some (record { start = start; end = end; next = next })

-- what stands at a position of a text of that size, from the lines of the rest
unfoldable pub first_line : List (List ℕ) → ℕ → ℕ → Option Line
first_line [] at size = None
first_line (l ∷ ls) at size = found at (at + length l) (record { at = min (at + length l + 1) size })

-- the line at a position of a text, and the position behind it and its LF
unfoldable pub line_at : List ℕ → ℕ → Option Line
line_at text at = first_line (lines (drop at text)) at (length text)

-- the bytes from start up to, not including, end; none where the text has no such part
unfoldable pub part_of : List ℕ → ℕ → ℕ → List ℕ
part_of text start end = cond (leb start end && leb end (length text)) (take (end - start) (drop start text)) []
