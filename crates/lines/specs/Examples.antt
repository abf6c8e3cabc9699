-- Small texts and their lines and values, computed in one table. Assumes nothing.
use Rattle.std.specs.Prelude.{◌≡◌, true, false, [], ◌∷◌, ℕ, None}
use Rattle.lines.specs.Text.{fields, joined, lines, ended, line_at, part_of, found}
use Rattle.lines.specs.Laws.{lacks, all_lack}

-- bytes a and b, a space and the line end LF
abbrev pub a : ℕ
a = 97

abbrev pub b : ℕ
b = 98

abbrev pub sp : ℕ
sp = 32

abbrev pub lf : ℕ
lf = 10

pub record Examples : Type 0 where
  -- a blank line is a line, an empty rest after LF is none
  pub no_line : lines [] ≡ []
  pub last_lacks_end : lines (a ∷ lf ∷ b ∷ []) ≡ (a ∷ []) ∷ (b ∷ []) ∷ []
  pub last_ends : lines (a ∷ lf ∷ b ∷ lf ∷ []) ≡ (a ∷ []) ∷ (b ∷ []) ∷ []
  pub blank_between : lines (a ∷ lf ∷ lf ∷ b ∷ lf ∷ []) ≡ (a ∷ []) ∷ [] ∷ (b ∷ []) ∷ []
  pub blank_last : lines (a ∷ lf ∷ lf ∷ []) ≡ (a ∷ []) ∷ [] ∷ []
  pub blank_alone : lines (lf ∷ []) ≡ [] ∷ []
  -- n spaces part n + 1 values
  pub no_space : fields (a ∷ b ∷ []) ≡ (a ∷ b ∷ []) ∷ []
  pub empty : fields [] ≡ [] ∷ []
  pub one_space : fields (a ∷ sp ∷ b ∷ []) ≡ (a ∷ []) ∷ (b ∷ []) ∷ []
  pub two_spaces : fields (a ∷ sp ∷ sp ∷ b ∷ []) ≡ (a ∷ []) ∷ [] ∷ (b ∷ []) ∷ []
  pub space_before : fields (sp ∷ a ∷ []) ≡ [] ∷ (a ∷ []) ∷ []
  pub space_behind : fields (a ∷ sp ∷ []) ≡ (a ∷ []) ∷ [] ∷ []
  pub feed_inside : fields (a ∷ lf ∷ b ∷ []) ≡ (a ∷ lf ∷ b ∷ []) ∷ []
  -- the line at a position, and a part
  pub first_line : line_at (a ∷ b ∷ lf ∷ a ∷ []) 0 ≡ found 0 2 (record { at = 3 })
  pub last_line : line_at (a ∷ b ∷ lf ∷ a ∷ []) 3 ≡ found 3 4 (record { at = 4 })
  pub past_last : line_at (a ∷ b ∷ lf ∷ a ∷ []) 4 ≡ None
  pub past_text : line_at (a ∷ b ∷ lf ∷ a ∷ []) 9 ≡ None
  pub inside : part_of (a ∷ b ∷ lf ∷ a ∷ []) 1 3 ≡ b ∷ lf ∷ []
  pub end_before_start : part_of (a ∷ b ∷ lf ∷ a ∷ []) 3 1 ≡ []
  pub end_past_text : part_of (a ∷ b ∷ lf ∷ a ∷ []) 1 5 ≡ []
  -- texts made of values and of lines
  pub joined_none : joined [] ≡ []
  pub joined_one : joined ((a ∷ b ∷ []) ∷ []) ≡ a ∷ b ∷ []
  pub joined_three : joined ((a ∷ []) ∷ [] ∷ (b ∷ []) ∷ []) ≡ a ∷ sp ∷ sp ∷ b ∷ []
  pub ended_none : ended [] ≡ []
  pub ended_two : ended ((a ∷ []) ∷ [] ∷ []) ≡ a ∷ lf ∷ lf ∷ []
  -- a byte that a text has not, and one that none of several texts has
  pub lacks_none : lacks sp [] ≡ true
  pub lacks_other : lacks sp (a ∷ lf ∷ []) ≡ true
  pub lacks_one : lacks sp (a ∷ sp ∷ []) ≡ false
  pub all_lack_none : all_lack sp [] ≡ true
  pub all_lack_other : all_lack sp ((a ∷ []) ∷ (lf ∷ []) ∷ []) ≡ true
  pub all_lack_one : all_lack sp ((a ∷ []) ∷ (sp ∷ []) ∷ []) ≡ false
