-- The table of refusals: number, place and phrase of every sort of refusal, and nothing of them is said elsewhere (document 01, 'Rows of
-- settings'; document 02, E1, E3 and E5). Assumes nothing: these are definitions.
use Rattle.std.specs.Prelude.{ℕ, List, [], ◌∷◌, get_or}
use Prim.Native.String.{String}

-- the place of a sort's refusals: one for all of them, or each its own, which its phrase then says
pub data Placing : Type 0 where
  Always : ℕ → Placing
  Own : Placing

-- a row of the table. In a phrase `@` stands for the place as a column's name, `%` for the place as a number, and each `#` for the next of
-- the values concerned.
pub record Sort : Type 0 where
  pub number : ℕ
  pub place : Placing
  pub phrase : String

abbrev pub sort : ℕ → Placing → String → Sort
sort n p s = record { number = n; place = p; phrase = s }

-- 1: 0. 2: "its column, 13 for text after" (E5: "text after the 13th value has place 14"). 3: "its column". 4: "SO > BO (place 2); NR = 0
-- with H > 0, or NR > 0 with H = 0 (4); NE = OWN = 0 (5); SINK > H, or SINK > 0 with NR < 2 (7); HEAD + DATA > 127 (11)"; E5: "LOSS > 0
-- with ACK 0 is 4, place 13". 5, 6: 0. 7: "first such depth". 8, 9: 0. E3: "10, a node line, the sink or the text breaks a rule here, place
-- its line (node 1's is 1, also if missing) or 0 for names and sink"; "router by router from the lowest number, 5 and 7 with that number as
-- place". The phrases are ours: E1 asks for "the number's phrase, the column's name or the depth, and the values concerned", of later
-- refusals "with their places as numbers".
unfoldable pub table : List Sort
table =
    sort 1 (Always 0) "The line of names differs or is missing."
    ∷ sort 2 Own "The value of @ is unreadable or missing."
    ∷ sort 2 Own "There is text after the last value, where column % would be."
    ∷ sort 3 Own "The value of @ is outside its range: it is #."
    ∷ sort 4 (Always 2) "Values are at odds at SO, which may not be above BO: SO is # and BO is #."
    ∷ sort 4 (Always 4) "Values are at odds at NR, which is 0 exactly where H is 0: NR is # and H is #."
    ∷ sort 4 (Always 5) "Values are at odds at NE, since nothing senses: NE is # and OWN is #."
    ∷ sort 4 (Always 7) "Values are at odds at SINK, which may not be above H: SINK is # and H is #."
    ∷ sort 4 (Always 7) "Values are at odds at SINK, which is 0 where NR is below 2: SINK is # and NR is #."
    ∷ sort 4 (Always 11) "Values are at odds at DATA, which with HEAD may not be above 127: HEAD is # and DATA is #."
    ∷ sort 4 (Always 13) "Values are at odds at LOSS, which is 0 where ACK is 0: LOSS is # and ACK is #."
    ∷ sort 5 (Always 0) "A router would have more than 7 reservations: NE is # and NR is #."
    ∷ sort 6 (Always 0) "There are more routers than superframes that fit a beacon interval: # against #."
    ∷ sort 7 Own "The slots used at depth % are more than can be reserved: # used and # reservable."
    ∷ sort 8 (Always 0) "The lent buffer is shorter than the text to be written."
    ∷ sort 9 (Always 0) "The input is over 65,536 bytes."
    ∷ sort 10 (Always 0) "The line of names of the node list differs or is missing."
    ∷ sort 10 Own "Line % of the node list breaks a rule or is missing."
    ∷ sort 10 (Always 0) "The sink is no router of the tree."
    ∷ sort 5 Own "Router % would have more than 7 reservations: it would have #."
    ∷ sort 7 Own "The slots used at router % are more than can be reserved: # used and # reservable."
    ∷ []

-- the row behind the first k; one of zeros, without a phrase, where the table ends
unfoldable pub sort_at : ℕ → Sort
sort_at k = get_or table k (sort 0 (Always 0) "")

-- the place that a row says for all its refusals; 0 where each has its own
unfoldable pub place_said : Placing → ℕ
place_said (Always n) = n
place_said Own = 0
