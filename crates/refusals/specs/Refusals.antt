-- Number and place of each refusal: what its row of the table says, with the place and the values that it carries. Assumes nothing: these are
-- definitions.
use Rattle.std.specs.Prelude.{ℕ}
use Rattle.refusals.specs.declared.Facts.{Facts}
use Rattle.refusals.specs.declared.Refusal.{Refusal}
use Rattle.refusals.specs.declared.Refusal.TheVariants.{Names, Unreadable, TextAfter, OutOfRange, AtOdds, Reservations, Superframes, SlotsUsed, LentTooShort, InputTooLong, InTree}
use Rattle.refusals.specs.declared.TreeRefusal.{TreeRefusal}
use Rattle.refusals.specs.declared.TreeRefusal.TheVariants.{NodeNames, NodeLine, SinkNode, RouterReservations, RouterSlots}
use Rattle.refusals.specs.declared.Conflict.{Conflict}
use Rattle.refusals.specs.declared.Conflict.TheVariants.{Orders, Routers, Sensors, SinkDepth, SinkBranches, FrameLength, Unacknowledged}
use Rattle.refusals.specs.Table.{sort_at, place_said}

-- of row k, at its own place p, with these values
abbrev pub placed : ℕ → ℕ → ℕ → ℕ → Facts
placed k p a b = record { sort = k; place = p; first = a; second = b }

-- of row k, at the place that the row says
abbrev pub fixed : ℕ → ℕ → ℕ → Facts
fixed k a b = placed k (place_said (sort_at k).place) a b

-- The row of each refusal, counted from 0, and the values concerned: "in 3 the column's, in 4 to 7 those compared, else none" (E1), as the
-- condition that was broken compared them; 0 where there is none, and the row's phrase has no gap for it.
unfoldable pub conflict_facts : Conflict → Facts
conflict_facts (Orders so bo) = fixed 4 so bo
conflict_facts (Routers nr h) = fixed 5 nr h
conflict_facts (Sensors ne own) = fixed 6 ne own
conflict_facts (SinkDepth sink h) = fixed 7 sink h
conflict_facts (SinkBranches sink nr) = fixed 8 sink nr
conflict_facts (FrameLength head payload) = fixed 9 head payload
conflict_facts (Unacknowledged loss ack) = fixed 10 loss ack

unfoldable pub tree_facts : TreeRefusal → Facts
tree_facts NodeNames = fixed 16 0 0
tree_facts (NodeLine line) = placed 17 line 0 0
tree_facts SinkNode = fixed 18 0 0
tree_facts (RouterReservations router reservations) = placed 19 router reservations 0
tree_facts (RouterSlots router used reservable) = placed 20 router used.0 reservable.0

unfoldable pub facts_of : Refusal → Facts
facts_of Names = fixed 0 0 0
facts_of (Unreadable column) = placed 1 column 0 0
facts_of (TextAfter column) = placed 2 column 0 0
facts_of (OutOfRange column value) = placed 3 column value 0
facts_of (AtOdds conflict) = conflict_facts conflict
facts_of (Reservations ne nr) = fixed 11 ne nr
facts_of (Superframes routers superframes) = fixed 12 routers superframes
facts_of (SlotsUsed depth used reservable) = placed 13 depth used.0 reservable.0
facts_of LentTooShort = fixed 14 0 0
facts_of InputTooLong = fixed 15 0 0
facts_of (InTree refusal) = tree_facts refusal

-- the number of a refusal
unfoldable pub number_of : Refusal → ℕ
number_of r = (sort_at (facts_of r).sort).number

-- the place of a refusal
unfoldable pub place_of : Refusal → ℕ
place_of r = (facts_of r).place
