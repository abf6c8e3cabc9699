-- What holds of lines, for the layers above. Assumes nothing: these are statements; proofs/Joining, Parting and LawsHold prove them.
use Rattle.std.specs.Prelude.{◌≡◌, Bool, true, not, ◌&&◌, List, [], ◌∷◌, ◌++◌, ℕ, ◌≤◌, ◌<◌, eqb, length, drop, None}
use Rattle.lines.specs.declared.Cursor.{Cursor}
use Rattle.lines.specs.Text.{fields, joined, lines, ended, line_at, part_of, found}

-- a line is its values with one space between
abbrev pub LineOfValues : Type 0
LineOfValues = (line : List ℕ) → joined (fields line) ≡ line

-- no byte of these is b
unfoldable pub lacks : ℕ → List ℕ → Bool
lacks b [] = true
lacks b (c ∷ cs) = not (eqb c b) && lacks b cs

-- none of these texts has a byte b
unfoldable pub all_lack : ℕ → List (List ℕ) → Bool
all_lack b [] = true
all_lack b (t ∷ ts) = lacks b t && all_lack b ts

-- values without a space, at least one, are the values of the line that is made of them
abbrev pub ValuesOfLine : Type 0
ValuesOfLine = (f : List ℕ) (fs : List (List ℕ)) → all_lack 32 (f ∷ fs) ≡ true → fields (joined (f ∷ fs)) ≡ f ∷ fs

-- a space and a value without one, behind a line, are one value more
abbrev pub OneValueMore : Type 0
OneValueMore = (line f : List ℕ) → lacks 32 f ≡ true → fields (line ++ 32 ∷ f) ≡ fields line ++ f ∷ []

-- lines without an LF are the lines of the text that is made of them
abbrev pub LinesOfText : Type 0
LinesOfText = (ls : List (List ℕ)) → all_lack 10 ls ≡ true → lines (ended ls) ≡ ls

-- a line that is found at a position of a text: the cursor moves forward and stays within the text, the line stands where it says, and
-- behind the next position stand the lines that follow it
pub record Advances (text : List ℕ) (at start end : ℕ) (next : Cursor) : Type 0 where
  pub here : start ≡ at
  pub in_order : start ≤ end
  pub within : end ≤ length text
  pub forward : at < next.at
  pub next_within : next.at ≤ length text
  pub first : lines (drop at text) ≡ part_of text start end ∷ lines (drop next.at text)

abbrev pub FoundAdvances : Type 0
FoundAdvances =
    (text : List ℕ) (at start end : ℕ) (next : Cursor) → line_at text at ≡ found start end next → Advances text at start end next

-- where nothing is found no line is left
abbrev pub NothingIsLeft : Type 0
NothingIsLeft = (text : List ℕ) (at : ℕ) → line_at text at ≡ None → lines (drop at text) ≡ []
