-- Arguments and what they ask, computed in one table. Assumes nothing: these are definitions and a statement; proofs/ExamplesHold proves it.
use Rattle.std.specs.Prelude.{◌≡◌, Bool, true, false, List, [], ◌∷◌, map, ℕ, length}
use Prim.Native.String.{String}
use Rattle.decimal_model.specs.Ascii.{ascii}
use Rattle.program_model.specs.declared.Asked.{Asked}
use Rattle.program_model.specs.declared.Asked.TheVariants.{Usage, Version, Unclear, Input}
use Rattle.program_model.specs.Arguments.{asked}

-- how many values a program takes at least, and whether more; its arguments, and what they ask
pub record Example : Type 0 where
  pub least : ℕ
  pub more : Bool
  pub arguments : List String
  pub asks : Asked

-- a program that takes none, as `plan`, and one that takes six or more, as `plan_tree`
abbrev pub alone : List String → Asked → Example
alone w a = record { least = 0; more = false; arguments = w; asks = a }

abbrev pub behind_six : List String → Asked → Example
behind_six w a = record { least = 6; more = true; arguments = "8" ∷ "4" ∷ "19" ∷ "7" ∷ "0" ∷ "1" ∷ w; asks = a }

abbrev pub five : List String → Asked → Example
five w a = record { least = 6; more = true; arguments = w; asks = a }

unfoldable pub examples : List Example
examples =
    alone [] (Input false 0)
    ∷ alone ("rows.txt" ∷ []) (Input true 0)
    ∷ alone ("3" ∷ []) (Input true 0)
    ∷ alone ("-" ∷ []) (Input false 0)
    ∷ alone ("--help" ∷ []) Usage
    ∷ alone ("--version" ∷ []) Version
    ∷ alone ("--verbose" ∷ []) Unclear
    ∷ alone ("rows.txt" ∷ "--help" ∷ []) Unclear
    ∷ five ("--help" ∷ []) Usage
    ∷ five ("8" ∷ "4" ∷ "19" ∷ "7" ∷ "0" ∷ []) Unclear
    ∷ behind_six [] (Input false 6)
    ∷ behind_six ("2" ∷ []) (Input false 7)
    ∷ behind_six ("" ∷ []) (Input false 7)
    ∷ behind_six ("site.txt" ∷ []) (Input true 6)
    ∷ behind_six ("2" ∷ "-" ∷ []) (Input false 7)
    ∷ behind_six ("2" ∷ "./3" ∷ []) (Input true 7)
    ∷ behind_six ("2" ∷ "0" ∷ []) (Input false 8)
    ∷ []

unfoldable pub last_of : List String → List ℕ
last_of [] = []
last_of (w ∷ []) = ascii w
last_of (w ∷ x ∷ xs) = last_of (x ∷ xs)

unfoldable pub ours : Example → Asked
ours e = asked e.least e.more (length e.arguments) (last_of e.arguments)

unfoldable pub ExamplesHold : Type 0
ExamplesHold = map ours examples ≡ map (λ (e : Example). e.asks) examples
