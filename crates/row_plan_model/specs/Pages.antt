-- How the inner functions put lines into a table. Nobody has to believe this: the contract of the entry does not use it. Assumes nothing: these
-- are definitions.
use Rattle.std.specs.Prelude.{ℕ, zero, suc, ◌+◌, List, [], ◌∷◌}
use Rattle.std.proofs.lemmas.List.Edits.{sets}
use Rattle.measure.specs.declared.Symbols.{Symbols}
use Rattle.measure.specs.Measures.{symbols, up_to_64}
use Rattle.settings_model.specs.declared.Settings.{Settings}
use Rattle.plan_model.specs.declared.Kind.TheVariants.{Downward}
use Rattle.plan_model.specs.declared.Line.{Line}
use Rattle.plan_model.specs.Lines.{line}
use Rattle.line_table_model.specs.Rows.{numbers_of}
use Rattle.row_model.specs.Lines.{down_link}
use Rattle.row_plan_model.specs.declared.Filled.{Filled}

-- a table with lines at its front: where they end, the sum of their delays, and all numbers
pub record Page : Type 0 where
  pub end : ℕ
  pub delay : Symbols
  pub numbers : List ℕ

abbrev pub page : Filled → List ℕ → Page
page w ns = record { end = w.end; delay = w.delay; numbers = ns }

-- with one line more
unfoldable pub pushed : Page → Line → Page
pushed p l = record {
  end = p.end + 9;
  delay = symbols (up_to_64 (p.delay.0 + l.figures.delay.0));
  numbers = sets p.numbers p.end (numbers_of l);
}

-- with the lines of a list
unfoldable pub filled : Page → List Line → Page
filled p [] = p
filled p (l ∷ ls) = filled (pushed p l) ls

-- the downward lines of n depths from depth i on
unfoldable pub down_lines_from : Settings → ℕ → ℕ → List Line
down_lines_from s zero i = []
down_lines_from s (suc n) i = line Downward i (down_link s i) ∷ down_lines_from s n (suc i)
