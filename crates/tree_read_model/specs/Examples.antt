-- Texts of node lists and what they come to, from the bytes to number and place or to the lines, computed in small tables. Assumes nothing:
-- these are definitions and statements; proofs/ExamplesHold proves them.
use Rattle.std.specs.Prelude.{◌≡◌, List, [], ◌∷◌, ◌++◌, map, ℕ, zero, suc, Some, None}
use Prim.Native.String.{String}
use Rattle.decimal_model.specs.Ascii.{ascii}
use Rattle.decimal_model.specs.Decimal.{decimal}
use Rattle.lines.specs.Text.{joined, ended}
use Rattle.refusals.specs.Refusals.{number_of, place_of}
use Rattle.settings_model.specs.declared.Radio.{Radio}
use Rattle.settings_model.specs.Checks.{radio}
use Rattle.refusals.specs.Outcome.{Planned, Refused}
use Rattle.tree_model.specs.Outcome.{TreeOutcome}
use Rattle.tree_model.specs.Examples.{node_columns, common}
use Rattle.tree_read_model.specs.Entries.{name_line, entry_in}
use Rattle.tree_read_model.specs.Survey.{outcome_in}

-- number and place of a refusal; 0 and 0 where the tree is planned
unfoldable pub answered : TreeOutcome → List ℕ
answered (Planned p) = 0 ∷ 0 ∷ []
answered (Refused r) = number_of r ∷ place_of r ∷ []

abbrev pub of : ℕ → ℕ → List ℕ
of number place = number ∷ place ∷ []

-- the line of names and these lines, each with its LF
unfoldable pub listing : List String → List ℕ
listing ls = ended (map ascii ("NODE PARENT BURST RATE" ∷ ls))

-- the answer to a list with document 01's settings of P1 beside, and this sink
unfoldable pub asked : List String → ℕ → List ℕ
asked ls sink = answered (outcome_in (listing ls) common sink)

-- the answer to any bytes, with the root as the sink
unfoldable pub bytes : List ℕ → List ℕ
bytes input = answered (outcome_in input common 1)

-- the answer to a list of a root that senses and this line of node 2
unfoldable pub second : String → List ℕ
second line = asked ("1 0 1 1" ∷ line ∷ []) 1

-- ---- the line of names

pub record Names : Type 0 where
  pub names : name_line ≡ ascii "NODE PARENT BURST RATE"
  pub nothing : bytes [] ≡ of 10 0
  pub blank : bytes (10 ∷ []) ≡ of 10 0
  pub missing : bytes (ended (map ascii ("1 0 1 1" ∷ []))) ≡ of 10 0
  pub lower_case : bytes (ended (map ascii ("node parent burst rate" ∷ "1 0 1 1" ∷ []))) ≡ of 10 0
  pub other_order : bytes (ended (map ascii ("NODE PARENT RATE BURST" ∷ "1 0 1 1" ∷ []))) ≡ of 10 0
  pub space_behind : bytes (ended (map ascii ("NODE PARENT BURST RATE " ∷ "1 0 1 1" ∷ []))) ≡ of 10 0
  pub return_behind : bytes (ascii "NODE PARENT BURST RATE" ++ 13 ∷ 10 ∷ ended (map ascii ("1 0 1 1" ∷ []))) ≡ of 10 0
  -- names first, before a broken line
  pub names_first : bytes (ended (map ascii ("NODES" ∷ "1 1 1 1" ∷ []))) ≡ of 10 0
  -- node 1's line missing, with and without an LF behind the names
  pub names_alone : asked [] 1 ≡ of 10 1
  pub names_without_feed : bytes (ascii "NODE PARENT BURST RATE") ≡ of 10 1

-- ---- node lines

-- the line of node k of a star in which nothing senses: `k 1 0 0`
unfoldable pub leaf_line : ℕ → List ℕ
leaf_line k = joined (decimal k ∷ decimal 1 ∷ decimal 0 ∷ decimal 0 ∷ [])

-- n such lines, from node k on
unfoldable pub leaf_lines : ℕ → ℕ → List (List ℕ)
leaf_lines zero k = []
leaf_lines (suc n) k = leaf_line k ∷ leaf_lines n (suc k)

-- the list of a root and n end nodes
unfoldable pub wide : ℕ → List ℕ
wide n = ended (ascii "NODE PARENT BURST RATE" ∷ ascii "1 0 0 0" ∷ leaf_lines n 2)

pub record NodeLines : Type 0 where
  -- what a line says; its values are read as document 01's are, whatever their ranges
  pub four_values : entry_in (ascii "3 1 2 7") ≡ Some (record { node = 3; parent = 1; burst = 2; rate = 7 })
  pub large_values : entry_in (ascii "0 9999 256 4096") ≡ Some (record { node = 0; parent = 9999; burst = 256; rate = 4096 })
  pub five_digits : entry_in (ascii "3 1 2 10000") ≡ None
  pub no_values : entry_in [] ≡ None
  pub letters : entry_in (ascii "3 1 x 7") ≡ None
  -- a list that is planned
  pub right : second "2 1 1 1" ≡ of 0 0
  pub silent : second "2 1 0 0" ≡ of 0 0
  -- "the nodes 1, 2, .. in order"
  pub too_high : second "3 1 1 1" ≡ of 10 2
  pub twice : second "1 1 1 1" ≡ of 10 2
  pub from_zero : asked ("0 0 1 1" ∷ "1 0 1 1" ∷ []) 1 ≡ of 10 1
  -- "Node 1 is the root with PARENT 0; any other parent has a smaller number."
  pub roots_parent : asked ("1 1 1 1" ∷ []) 1 ≡ of 10 1
  pub second_root : second "2 0 1 1" ≡ of 10 2
  pub own_parent : second "2 2 1 1" ≡ of 10 2
  pub later_parent : asked ("1 0 1 1" ∷ "2 3 1 1" ∷ "3 1 1 1" ∷ []) 1 ≡ of 10 2
  -- "BURST and RATE are both in range or both 0"; 255 and 4095 are, and then come to number 7
  pub rate_alone : second "2 1 0 1" ≡ of 10 2
  pub burst_alone : second "2 1 1 0" ≡ of 10 2
  pub burst_over : second "2 1 256 1" ≡ of 10 2
  pub rate_over : second "2 1 1 4096" ≡ of 10 2
  pub largest : second "2 1 255 4095" ≡ of 7 1
  -- four values, one space between, no leading zero
  pub three_values : second "2 1 1" ≡ of 10 2
  pub five_values : second "2 1 1 1 1" ≡ of 10 2
  pub two_spaces : second "2  1 1 1" ≡ of 10 2
  pub leading_space : second " 2 1 1 1" ≡ of 10 2
  pub trailing_space : second "2 1 1 1 " ≡ of 10 2
  pub leading_zero : second "02 1 1 1" ≡ of 10 2
  pub two_zeros : second "2 1 00 00" ≡ of 10 2
  pub return_behind : bytes (listing ("1 0 1 1" ∷ []) ++ ascii "2 1 1 1" ++ 13 ∷ 10 ∷ []) ≡ of 10 2
  -- a blank line breaks the rules as any other
  pub blank_first : asked ("" ∷ "1 0 1 1" ∷ []) 1 ≡ of 10 1
  pub blank_between : asked ("1 0 1 1" ∷ "" ∷ "2 1 1 1" ∷ []) 1 ≡ of 10 2
  pub blank_last : asked ("1 0 1 1" ∷ "2 1 1 1" ∷ "" ∷ []) 1 ≡ of 10 3
  -- the first broken line answers
  pub first_broken : asked ("1 0 1 1" ∷ "2 1 1 1" ∷ "3 3 1 1" ∷ "4 4 1 1" ∷ []) 1 ≡ of 10 3
  -- "up to 254": a 255th line is one too many; 254 pass number 10, and so come to number 3 of the settings beside
  pub too_many : answered (outcome_in (wide 254) (radio 15 4 19 7 0 0) 1) ≡ of 10 255
  pub most : answered (outcome_in (wide 253) (radio 15 4 19 7 0 0) 1) ≡ of 3 1

-- ---- the sink, and the order of numbers

-- P1 and P2 as a node list
unfoldable pub balanced_list : List String
balanced_list = "1 0 0 0" ∷ "2 1 0 0" ∷ "3 1 0 0" ∷ "4 1 1 1" ∷ "5 2 1 1" ∷ "6 3 1 1" ∷ []

-- the answer to it with these settings beside
unfoldable pub beside_it : Radio → ℕ → List ℕ
beside_it b sink = answered (outcome_in (listing balanced_list) b sink)

-- a broken second line
unfoldable pub broken_list : List String
broken_list = "1 0 1 1" ∷ "2 2 1 1" ∷ []

-- a root with eight end nodes
unfoldable pub eight_leaves : List String
eight_leaves = "1 0 0 0" ∷ "2 1 1 1" ∷ "3 1 1 1" ∷ "4 1 1 1" ∷ "5 1 1 1" ∷ "6 1 1 1" ∷ "7 1 1 1" ∷ "8 1 1 1" ∷ "9 1 1 1" ∷ []

pub record Order : Type 0 where
  -- the sink must be a router of the list; the root is one, also alone
  pub sink_zero : asked balanced_list 0 ≡ of 10 0
  pub sink_above : asked balanced_list 7 ≡ of 10 0
  pub sink_leaf : asked balanced_list 4 ≡ of 10 0
  pub sink_router : asked balanced_list 3 ≡ of 0 0
  pub sink_alone : asked ("1 0 1 1" ∷ []) 1 ≡ of 0 0
  -- lines before the sink, and both before 3
  pub line_before_sink : asked broken_list 0 ≡ of 10 2
  pub line_before_three : answered (outcome_in (listing broken_list) (radio 15 4 19 7 0 0) 1) ≡ of 10 2
  pub sink_before_three : beside_it (radio 15 4 19 7 0 0) 0 ≡ of 10 0
  -- then 3, 4, 6, 5 and 7
  pub three : beside_it (radio 15 4 19 7 0 0) 1 ≡ of 3 1
  pub four : beside_it (radio 4 8 19 7 0 0) 1 ≡ of 4 2
  pub six : beside_it (radio 5 4 19 7 0 0) 1 ≡ of 6 0
  pub five : asked eight_leaves 1 ≡ of 5 1
  pub seven : answered (outcome_in (listing ("1 0 0 0" ∷ "2 1 0 0" ∷ "3 2 1 8" ∷ [])) (radio 3 0 17 1 0 0) 2) ≡ of 7 2

-- ---- plans

-- the lines' columns where the tree is planned
unfoldable pub columns_of : TreeOutcome → List (List ℕ)
columns_of (Planned p) = map node_columns p
columns_of (Refused r) = []

pub record Plans : Type 0 where
  -- P1: KIND's letter, DEPTH, RATE, BURST, SLOTS, FRAMES, LATENCY, BUFFER, DELAY, ROUTE
  pub first : columns_of (outcome_in (listing balanced_list) common 1)
      ≡ (83 ∷ 0 ∷ 3 ∷ 1962440 ∷ 0 ∷ 0 ∷ 0 ∷ 8 ∷ 0 ∷ 0 ∷ [])
      ∷ (85 ∷ 1 ∷ 1 ∷ 490792 ∷ 1 ∷ 9 ∷ 245032 ∷ 3 ∷ 299565 ∷ 299565 ∷ [])
      ∷ (85 ∷ 1 ∷ 1 ∷ 490792 ∷ 1 ∷ 9 ∷ 245032 ∷ 3 ∷ 299565 ∷ 299565 ∷ [])
      ∷ (69 ∷ 1 ∷ 1 ∷ 245760 ∷ 1 ∷ 9 ∷ 245032 ∷ 2 ∷ 272339 ∷ 272339 ∷ [])
      ∷ (69 ∷ 2 ∷ 1 ∷ 245760 ∷ 1 ∷ 9 ∷ 245032 ∷ 2 ∷ 272339 ∷ 571904 ∷ [])
      ∷ (69 ∷ 2 ∷ 1 ∷ 245760 ∷ 1 ∷ 9 ∷ 245032 ∷ 2 ∷ 272339 ∷ 571904 ∷ [])
      ∷ []
  -- P2
  pub below : columns_of (outcome_in (listing balanced_list) common 2)
      ≡ (68 ∷ 0 ∷ 2 ∷ 1226616 ∷ 1 ∷ 9 ∷ 245032 ∷ 7 ∷ 381323 ∷ 381323 ∷ [])
      ∷ (83 ∷ 1 ∷ 3 ∷ 2207472 ∷ 0 ∷ 0 ∷ 0 ∷ 9 ∷ 0 ∷ 0 ∷ [])
      ∷ (85 ∷ 1 ∷ 1 ∷ 490792 ∷ 1 ∷ 9 ∷ 245032 ∷ 3 ∷ 299565 ∷ 680888 ∷ [])
      ∷ (69 ∷ 1 ∷ 1 ∷ 245760 ∷ 1 ∷ 9 ∷ 245032 ∷ 2 ∷ 272339 ∷ 653662 ∷ [])
      ∷ (69 ∷ 2 ∷ 1 ∷ 245760 ∷ 1 ∷ 9 ∷ 245032 ∷ 2 ∷ 272339 ∷ 272339 ∷ [])
      ∷ (69 ∷ 2 ∷ 1 ∷ 245760 ∷ 1 ∷ 9 ∷ 245032 ∷ 2 ∷ 272339 ∷ 953227 ∷ [])
      ∷ []
  -- the last line may lack its LF
  pub without_feed : columns_of (outcome_in (listing ("1 0 2 3" ∷ []) ++ ascii "2 1 1 1") common 1)
      ≡ (83 ∷ 0 ∷ 4 ∷ 982312 ∷ 0 ∷ 0 ∷ 0 ∷ 4 ∷ 0 ∷ 0 ∷ []) ∷ (69 ∷ 1 ∷ 1 ∷ 245760 ∷ 1 ∷ 9 ∷ 245032 ∷ 2 ∷ 272339 ∷ 272339 ∷ []) ∷ []
