-- Number and place of a line (document 02, E1: "From the line number and place can be had again"). Assumes nothing: these are definitions.
use Rattle.reason_model.specs.declared.Reason.{Reason}
use Rattle.std.specs.Prelude.{ℕ, zero, suc, ◌^◌, min, Bool, not, cond, ◌&&◌, ◌||◌, List, [], ◌∷◌, map, ltb, leb, length, take, drop, Option, Some, None}
use Rattle.decimal_model.specs.Ascii.{ascii}
use Rattle.decimal_model.specs.Number.{digit, digits, zero_led, spelled}
use Rattle.lines.specs.Text.{same}
use Rattle.refusals.specs.Table.{Sort, table, place_said}
use Rattle.settings_model.specs.Columns.{Column, every_column}
use Rattle.reason_model.specs.Reasons.{named, Part, Byte, Name, Place, Value, part_of}

-- ---- words: names are capitals, and numbers digits

unfoldable pub word_byte : ℕ → Bool
word_byte b = digit b || (leb 65 b && leb b 90)

-- how many bytes at the front of a text are of its first word
unfoldable pub word_length : List ℕ → ℕ
word_length [] = zero
word_length (b ∷ bs) = cond (word_byte b) (suc (word_length bs)) zero

-- a word is a number as it is written
unfoldable pub numeral : List ℕ → Bool
numeral w = leb 1 (length w) && digits w && not (zero_led w)

-- the place that a number is
unfoldable pub place_in : List ℕ → Option ℕ
place_in w = cond (numeral w && ltb (spelled w) (2 ^ 32)) (Some (spelled w)) None

-- the place that a column's name is: of these columns, of which the first has number k, or `other`
unfoldable pub column_from : Option ℕ → ℕ → List Column → List ℕ → Option ℕ
column_from other k [] w = other
column_from other k (c ∷ cs) w = cond (same w (ascii c.name)) (Some k) (column_from other (suc k) cs w)

-- a number, of a column that has no name
unfoldable pub unnamed : Option ℕ → Option ℕ
unnamed (Some k) = cond (named k) None (Some k)
unnamed None = None

unfoldable pub column_in : List ℕ → Option ℕ
column_in w = column_from (unnamed (place_in w)) 1 every_column w

-- ---- a line against a phrase, part by part

-- how many bytes at the front of a line are a part's: one, or a word
unfoldable pub extent : Part → List ℕ → ℕ
extent (Byte b) t = min 1 (length t)
extent Name t = word_length t
extent Place t = word_length t
extent Value t = word_length t

-- the place after these bytes were read for a part, where it was p before; nowhere if they cannot stand for that part
unfoldable pub meant : ℕ → Part → List ℕ → Option ℕ
meant p (Byte b) w = cond (same w (b ∷ [])) (Some p) None
meant p Name w = column_in w
meant p Place w = place_in w
meant p Value w = cond (numeral w) (Some p) None

-- the place after a line was read for these parts, where it was that before
unfoldable pub matched : List Part → Option ℕ → List ℕ → Option ℕ
matched [] (Some p) [] = Some p
matched [] (Some p) (b ∷ t) = None
matched [] None t = None
matched (x ∷ xs) (Some p) t = matched xs (meant p x (take (extent x t) t)) (drop (extent x t) t)
matched (x ∷ xs) None t = None

-- ---- the table's phrases, one after another

-- number and place of a refusal whose line was read
abbrev pub reason_at : ℕ → ℕ → Option Reason
reason_at n p = Some (record { number = n; place = p })

-- a place that was read for a sort's phrase, or what later sorts read
unfoldable pub read_as : Sort → Option ℕ → Option Reason → Option Reason
read_as s (Some p) other = reason_at s.number p
read_as s None other = other

-- number and place by the first of these sorts whose phrase the line is
unfoldable pub read_from : List Sort → List ℕ → Option Reason
read_from [] line = None
read_from (s ∷ ss) line = read_as s (matched (map part_of (ascii s.phrase)) (Some (place_said s.place)) line) (read_from ss line)

-- number and place of a line, if it is a reason
unfoldable pub read_reason : List ℕ → Option Reason
read_reason line = read_from table line
