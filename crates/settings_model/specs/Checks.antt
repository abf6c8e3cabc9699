-- The conditions of numbers 3 and 4 on the settings of a row, and on those that come beside a node list, in their order (document 01, 'Rows
-- of settings'; document 02, E3 and E5). Assumes nothing: these are definitions.
use Rattle.std.specs.Prelude.{ℕ, suc, ◌+◌, not, ◌&&◌, List, [], ◌∷◌, ◌++◌, ltb, eqb}
use Rattle.refusals.specs.declared.Refusal.{Refusal}
use Rattle.refusals.specs.declared.Refusal.TheVariants.{OutOfRange, AtOdds}
use Rattle.refusals.specs.declared.Conflict.TheVariants.{Orders, Routers, Sensors, SinkDepth, SinkBranches, FrameLength, Unacknowledged}
use Rattle.refusals.specs.Conditions.{Condition, condition}
use Rattle.settings_model.specs.declared.Settings.{Settings}
use Rattle.settings_model.specs.declared.Radio.{Radio}
use Rattle.settings_model.specs.Columns.{column_at, in_range}

-- in the order in which they come beside a node list
abbrev pub radio : ℕ → ℕ → ℕ → ℕ → ℕ → ℕ → Radio
radio bo so head payload ack loss = record { bo = bo; so = so; head = head; payload = payload; ack = ack; loss = loss }

-- what a row sets on every radio
abbrev pub radio_of : Settings → Radio
radio_of s = radio s.bo s.so s.head s.payload s.ack s.loss

-- ---- number 3

-- of these values, which stand in the columns behind the first k: "value outside its range", place "its column"
unfoldable pub ranged : ℕ → List ℕ → List (Condition Refusal)
ranged k [] = []
ranged k (v ∷ vs) = condition (not (in_range (column_at k) v)) (OutOfRange (suc k) v) ∷ ranged (suc k) vs

-- the values of a row in the columns' order
unfoldable pub values_of : Settings → List ℕ
values_of s =
    s.bo ∷ s.so ∷ s.h ∷ s.nr ∷ s.ne ∷ s.own ∷ s.sink ∷ s.burst ∷ s.rate ∷ s.head ∷ s.payload ∷ s.ack ∷ s.loss ∷ []

-- beside a node list, "at document 01's columns": 1 and 2, and 10 to 13
unfoldable pub radio_ranged : Radio → List (Condition Refusal)
radio_ranged b = ranged 0 (b.bo ∷ b.so ∷ []) ++ ranged 9 (b.head ∷ b.payload ∷ b.ack ∷ b.loss ∷ [])

-- ---- number 4: "values at odds: SO > BO (place 2); NR = 0 with H > 0, or NR > 0 with H = 0 (4); NE = OWN = 0 (5); SINK > H, or SINK > 0
-- with NR < 2 (7); HEAD + DATA > 127 (11); in that order". E5: "LOSS > 0 with ACK 0 is 4, place 13, the last of that number's conditions"

unfoldable pub orders_at_odds : Radio → List (Condition Refusal)
orders_at_odds b = condition (ltb b.bo b.so) (AtOdds (Orders b.so b.bo)) ∷ []

unfoldable pub shape_at_odds : Settings → List (Condition Refusal)
shape_at_odds s =
    condition (eqb s.nr 0 && ltb 0 s.h) (AtOdds (Routers s.nr s.h))
    ∷ condition (ltb 0 s.nr && eqb s.h 0) (AtOdds (Routers s.nr s.h))
    ∷ condition (eqb s.ne 0 && eqb s.own 0) (AtOdds (Sensors s.ne s.own))
    ∷ condition (ltb s.h s.sink) (AtOdds (SinkDepth s.sink s.h))
    ∷ condition (ltb 0 s.sink && ltb s.nr 2) (AtOdds (SinkBranches s.sink s.nr))
    ∷ []

unfoldable pub frame_at_odds : Radio → List (Condition Refusal)
frame_at_odds b =
    condition (ltb 127 (b.head + b.payload)) (AtOdds (FrameLength b.head b.payload))
    ∷ condition (ltb 0 b.loss && eqb b.ack 0) (AtOdds (Unacknowledged b.loss b.ack))
    ∷ []

-- those of a row, and those that come beside a node list
unfoldable pub at_odds : Settings → List (Condition Refusal)
at_odds s = orders_at_odds (radio_of s) ++ shape_at_odds s ++ frame_at_odds (radio_of s)

unfoldable pub radio_at_odds : Radio → List (Condition Refusal)
radio_at_odds b = orders_at_odds b ++ frame_at_odds b

-- ---- numbers 3 and 4, in their order

unfoldable pub checks : Settings → List (Condition Refusal)
checks s = ranged 0 (values_of s) ++ at_odds s

unfoldable pub radio_checks : Radio → List (Condition Refusal)
radio_checks b = radio_ranged b ++ radio_at_odds b
