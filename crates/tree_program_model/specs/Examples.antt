-- P1 and P2 as node lists (document 02, E3), and the order of refusals, from words and bytes to bytes, in one table: the arguments, the
-- lines on standard input, and what is printed for them. Assumes nothing: these are definitions and statements; proofs/ExamplesHold proves
-- them.
use Rattle.std.specs.Prelude.{◌≡◌, List, [], ◌∷◌, map, ℕ, length, get_or, Option}
use Prim.Native.String.{String}
use Rattle.decimal_model.specs.Ascii.{ascii}
use Rattle.decimal_model.specs.Number.{number_in}
use Rattle.lines.specs.Text.{ended}
use Rattle.tree_program_model.specs.declared.Arguments.{Arguments}
use Rattle.tree_program_model.specs.Output.{tree_output}

-- the argument at a position; a missing one is as an empty one
unfoldable pub argument_at : List String → ℕ → Option ℕ
argument_at words i = number_in (ascii (get_or words i ""))

-- the arguments that words are read as: BO SO HEAD DATA ACK SINK LOSS
unfoldable pub arguments_in : List String → Arguments
arguments_in words = record {
  bo = argument_at words 0;
  so = argument_at words 1;
  head = argument_at words 2;
  payload = argument_at words 3;
  ack = argument_at words 4;
  sink = argument_at words 5;
  loss = argument_at words 6;
  count = length words;
}

-- what an example is of, its arguments, its input's lines, and what is printed
pub record Example : Type 0 where
  pub of : String
  pub words : List String
  pub input : List String
  pub stated : List String

abbrev pub example : String → List String → List String → List String → Example
example t ws ls ps = record { of = t; words = ws; input = ls; stated = ps }

-- P1 and P2's tree, and its arguments with this sink
unfoldable pub balanced_list : List String
balanced_list = "NODE PARENT BURST RATE" ∷ "1 0 0 0" ∷ "2 1 0 0" ∷ "3 1 0 0" ∷ "4 1 1 1" ∷ "5 2 1 1" ∷ "6 3 1 1" ∷ []

unfoldable pub common : String → List String
common sink = "8" ∷ "4" ∷ "19" ∷ "7" ∷ "0" ∷ sink ∷ []

unfoldable pub broken_list : List String
broken_list = "NODE PARENT BURST RATE" ∷ "1 0 1 1" ∷ "2 2 1 1" ∷ []

unfoldable pub examples : List Example
examples =
    example "P1" (common "1") balanced_list
    ("KIND DEPTH RATE BURST SLOTS FRAMES LATENCY BUFFER DELAY ROUTE"
    ∷ "S 0 3 1962440 0 0 0 8 0 0"
    ∷ "U 1 1 490792 1 9 245032 3 299565 299565"
    ∷ "U 1 1 490792 1 9 245032 3 299565 299565"
    ∷ "E 1 1 245760 1 9 245032 2 272339 272339"
    ∷ "E 2 1 245760 1 9 245032 2 272339 571904"
    ∷ "E 2 1 245760 1 9 245032 2 272339 571904"
    ∷ [])
    ∷ example "P2: the sink is node 2" (common "2") balanced_list
    ("KIND DEPTH RATE BURST SLOTS FRAMES LATENCY BUFFER DELAY ROUTE"
    ∷ "D 0 2 1226616 1 9 245032 7 381323 381323"
    ∷ "S 1 3 2207472 0 0 0 9 0 0"
    ∷ "U 1 1 490792 1 9 245032 3 299565 680888"
    ∷ "E 1 1 245760 1 9 245032 2 272339 653662"
    ∷ "E 2 1 245760 1 9 245032 2 272339 272339"
    ∷ "E 2 1 245760 1 9 245032 2 272339 953227"
    ∷ [])
    ∷ example "P1 acknowledged, LOSS 2: exchanges of 138 + 2 × 158 = 454" ("8" ∷ "4" ∷ "19" ∷ "7" ∷ "1" ∷ "1" ∷ "2" ∷ []) balanced_list
    ("KIND DEPTH RATE BURST SLOTS FRAMES LATENCY BUFFER DELAY ROUTE"
    ∷ "S 0 3 1966080 0 0 0 8 0 0"
    ∷ "U 1 1 491520 1 2 245760 3 491520 491520"
    ∷ "U 1 1 491520 1 2 245760 3 491520 491520"
    ∷ "E 1 1 245760 1 2 245760 2 368640 368640"
    ∷ "E 2 1 245760 1 2 245760 2 368640 860160"
    ∷ "E 2 1 245760 1 2 245760 2 368640 860160"
    ∷ [])
    ∷ example "10 before 2: node 2's line, and no argument" [] broken_list ("R 10 2" ∷ [])
    ∷ example "10: no sink, before 2 of BO" [] balanced_list ("R 10 0" ∷ [])
    ∷ example "10: a sink that is no number" (common "x") balanced_list ("R 10 0" ∷ [])
    ∷ example "10: a sink that is no router" (common "4") balanced_list ("R 10 0" ∷ [])
    ∷ example "2: BO, before 3 of SO" ("" ∷ "15" ∷ "19" ∷ "7" ∷ "0" ∷ "1" ∷ []) balanced_list ("R 2 1" ∷ [])
    ∷ example "2: SO with a leading zero" ("8" ∷ "04" ∷ "19" ∷ "7" ∷ "0" ∷ "1" ∷ []) balanced_list ("R 2 2" ∷ [])
    ∷ example "2: HEAD below zero" ("8" ∷ "4" ∷ "-1" ∷ "7" ∷ "0" ∷ "1" ∷ []) balanced_list ("R 2 10" ∷ [])
    ∷ example "2: DATA of five digits" ("8" ∷ "4" ∷ "19" ∷ "10000" ∷ "0" ∷ "1" ∷ []) balanced_list ("R 2 11" ∷ [])
    ∷ example "2: ACK in two parts" ("8" ∷ "4" ∷ "19" ∷ "7" ∷ "0 " ∷ "1" ∷ []) balanced_list ("R 2 12" ∷ [])
    ∷ example "2: LOSS empty, before 3 of BO" ("15" ∷ "4" ∷ "19" ∷ "7" ∷ "0" ∷ "1" ∷ "" ∷ []) balanced_list ("R 2 13" ∷ [])
    ∷ example "2: one argument more, before 3 of BO" ("15" ∷ "4" ∷ "19" ∷ "7" ∷ "0" ∷ "1" ∷ "0" ∷ "0" ∷ []) balanced_list ("R 2 14" ∷ [])
    ∷ example "2: LOSS before one argument more" ("15" ∷ "4" ∷ "19" ∷ "7" ∷ "0" ∷ "1" ∷ "x" ∷ "0" ∷ []) balanced_list ("R 2 13" ∷ [])
    ∷ example "3: LOSS" ("8" ∷ "4" ∷ "19" ∷ "7" ∷ "1" ∷ "1" ∷ "8" ∷ []) balanced_list ("R 3 13" ∷ [])
    ∷ example "4: LOSS without ACK" ("8" ∷ "4" ∷ "19" ∷ "7" ∷ "0" ∷ "1" ∷ "1" ∷ []) balanced_list ("R 4 13" ∷ [])
    ∷ example "4: DATA before LOSS" ("8" ∷ "4" ∷ "126" ∷ "2" ∷ "0" ∷ "1" ∷ "1" ∷ []) balanced_list ("R 4 11" ∷ [])
    ∷ example "3: BO" ("15" ∷ "4" ∷ "19" ∷ "7" ∷ "0" ∷ "1" ∷ []) balanced_list ("R 3 1" ∷ [])
    ∷ example "4: SO above BO" ("4" ∷ "8" ∷ "19" ∷ "7" ∷ "0" ∷ "1" ∷ []) balanced_list ("R 4 2" ∷ [])
    ∷ example "6: three routers, two superframes" ("5" ∷ "4" ∷ "19" ∷ "7" ∷ "0" ∷ "1" ∷ []) balanced_list ("R 6 0" ∷ [])
    ∷ []

-- what is printed for it
unfoldable pub ours : Example → List ℕ
ours e = tree_output (arguments_in e.words) (ended (map ascii e.input))

-- the theorem; proofs/ExamplesHold proves it by computing both sides
unfoldable pub ExamplesHold : Type 0
ExamplesHold = map ours examples ≡ map (λ e. ended (map ascii e.stated)) examples
