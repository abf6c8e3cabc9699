-- What a program is asked by its arguments: values, of which programs differ in how many they take, and behind them, where one is given,
-- the name of a file that is read in place of standard input. Assumes nothing: these are definitions.
use Rattle.std.specs.Prelude.{ℕ, suc, ◌-◌, Bool, true, false, cond, List, [], ◌∷◌, eqb, ltb}
use Rattle.decimal_model.specs.Ascii.{ascii}
use Rattle.decimal_model.specs.Number.{digits}
use Rattle.lines.specs.Text.{same}
use Rattle.program_model.specs.declared.Word.{Word}
use Rattle.program_model.specs.declared.Word.TheVariants as word
use Rattle.program_model.specs.declared.Asked.{Asked}
use Rattle.program_model.specs.declared.Asked.TheVariants as asks

-- ---- a word

unfoldable pub dashed : List ℕ → Bool
dashed [] = false
dashed (b ∷ bs) = eqb b 45

unfoldable pub word_of : List ℕ → Word
word_of w =
    cond (same w (ascii "--help")) word.Help
    (cond (same w (ascii "--version")) word.Version
    (cond (same w (ascii "-")) word.Dash
    (cond (dashed w) word.Dashed
    (cond (digits w) word.Digits word.Other))))

-- ---- what is asked

-- behind as many values as the program takes at most, the last word names the file, whatever its bytes; but for one that begins with `-`,
-- which may be meant as an option: such a name is written `./-x`
unfoldable pub by_file : ℕ → Word → Asked
by_file values word.Help = asks.Unclear
by_file values word.Version = asks.Unclear
by_file values word.Dash = asks.Input false values
by_file values word.Dashed = asks.Unclear
by_file values word.Digits = asks.Input true values
by_file values word.Other = asks.Input true values

-- where further values may follow, it is the last of `count` values if it has digits alone, and else the file's name behind those `before`
-- it: a name of digits is written `./3`
unfoldable pub by_value_or_file : ℕ → ℕ → Word → Asked
by_value_or_file count before word.Help = asks.Input true before
by_value_or_file count before word.Version = asks.Input true before
by_value_or_file count before word.Dash = asks.Input false before
by_value_or_file count before word.Dashed = asks.Input true before
by_value_or_file count before word.Digits = asks.Input false count
by_value_or_file count before word.Other = asks.Input true before

-- of a program that takes at least so many values, and `more` of them or exactly those; the last of its arguments is this word
unfoldable pub by_count : ℕ → Bool → ℕ → Word → Asked
by_count least more count last =
    cond (ltb count least) asks.Unclear
    (cond (eqb count least) (asks.Input false count)
    (cond more (by_value_or_file count (count - 1) last)
    (cond (eqb count (suc least)) (by_file least last) asks.Unclear)))

-- the only argument may ask for something else
unfoldable pub by_only : Word → Asked → Asked
by_only word.Help other = asks.Usage
by_only word.Version other = asks.Version
by_only word.Dash other = other
by_only word.Dashed other = other
by_only word.Digits other = other
by_only word.Other other = other

unfoldable pub asked : ℕ → Bool → ℕ → List ℕ → Asked
asked least more count last =
    cond (eqb count 1) (by_only (word_of last) (by_count least more count (word_of last))) (by_count least more count (word_of last))
