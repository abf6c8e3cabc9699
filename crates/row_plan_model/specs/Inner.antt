-- What the inner functions presume and answer. Nobody has to believe this: the contract of the entry does not use it. Assumes nothing:
-- these are definitions.
use Rattle.std.specs.Prelude.{◌≡◌, List, ◌++◌, ℕ, zero, suc, ◌≤◌, ◌<◌, slice_index_or, length, Option, Some, None, Result, Ok, Err, IfOk, MatchOption}
use Rattle.measure.specs.Measures.{symbols, slots, frames}
use Rattle.links.specs.declared.Load.{Load}
use Rattle.links.specs.declared.Timing.{Timing}
use Rattle.links.specs.Link.{load, no_load, plus, times, after_link, reservation_of}
use Rattle.refusals.specs.declared.Refusal.{Refusal}
use Rattle.refusals.specs.Conditions.{Condition, verdict}
use Rattle.settings_model.specs.declared.Settings.{Settings}
use Rattle.settings_model.specs.Checks.{checks}
use Rattle.row_plan_model.specs.declared.Link.{Link}
use Rattle.row_plan_model.specs.declared.Links.{Links}
use Rattle.row_plan_model.specs.declared.RefusedRow.{RefusedRow}
use Rattle.row_plan_model.specs.declared.Row.{Row}
use Rattle.row_model.specs.Times.{row_timing}
use Rattle.row_model.specs.Loads.{left, upward, downward, sensor, at_sink}
use Rattle.row_model.specs.Bounds.{Sound}
use Rattle.row_model.specs.Checks.{reservations, routers_fit}

-- ---- links

-- the link that a load enters
unfoldable pub link_of : Timing → Load → Link
link_of t a = record { load = a; reservation = reservation_of t a.rate }

-- the load that has left it
abbrev pub left_by : Link → Load
left_by v = after_link v.load v.reservation

-- the links of the depths, upward and downward
unfoldable pub link_up : Settings → ℕ → Link
link_up s i = link_of (row_timing s) (upward s i)

unfoldable pub link_down : Settings → ℕ → Link
link_down s i = link_of (row_timing s) (downward s i)

-- ---- tables of links, one for each depth

-- no link: no load enters it, and nothing is reserved
abbrev pub no_link : Link
no_link = record { load = load 0 0; reservation = record { slots = slots 0; frames = frames 0; latency = symbols 0 } }

-- a table holds f from depth i to depth h
pub record HeldFrom (f : ℕ → Link) (i h : ℕ) (ls : List Link) : Type 0 where
  pub size : length ls ≡ 13
  pub held : (j : ℕ) → i ≤ j → j ≤ h → slice_index_or ls j no_link ≡ f j

-- and below depth n
pub record HeldBelow (f : ℕ → Link) (n : ℕ) (ls : List Link) : Type 0 where
  pub size : length ls ≡ 13
  pub held : (j : ℕ) → j < n → slice_index_or ls j no_link ≡ f j

-- two tables hold a sound row's links: the upward ones to depth H, and the downward ones above SINK
pub record TablesHeld (s : Settings) (up down : List Link) : Type 0 where
  pub sound : Sound s
  pub upward : HeldFrom (link_up s) 0 s.h up
  pub downward : HeldBelow (link_down s) s.sink down

-- and the values beside them are the row's: BI, the end nodes' link, and the load that comes to the sink
pub record LinksOf (s : Settings) (l : Links) : Type 0 where
  pub interval : l.interval ≡ (row_timing s).interval
  pub end : l.end ≡ link_of (row_timing s) (sensor s)
  pub arriving : l.arriving ≡ at_sink s

-- both of a row
pub record RowHeld (r : Row) : Type 0 where
  pub tables : TablesHeld r.s r.up.now r.down.now
  pub links : LinksOf r.s r.links

-- ---- loads

-- what comes down to the router of depth i on the sink's path: nothing to the root, else what left the router above it
unfoldable pub coming : Settings → ℕ → Load
coming s zero = no_load
coming s (suc i) = left s (downward s i)

-- what enters a router: what enters every router, n loads from below, and what comes down
abbrev pub joined : Load → Load → ℕ → Load → Load
joined near below n down = plus (plus near (times n below)) down

-- ---- conditions

-- numbers 3 to 6
unfoldable pub checks_before_slots : Settings → List (Condition Refusal)
checks_before_slots s = checks s ++ reservations s ++ routers_fit s

-- ---- what is answered and left in two lent tables

-- a row that is not refused, or its refusal without the links beside it
abbrev pub told : Result Links RefusedRow → Result Links Refusal
told (Ok l) = Ok l
told (Err e) = Err e.refusal

-- the links of a row, or those beside its refusal
abbrev pub links_in : Result Links RefusedRow → Option Links
links_in (Ok l) = Some l
links_in (Err e) = e.links

-- by the verdict on numbers 3 to 6: where they are kept, the tables hold the row's links, also where number 7 refuses it; else both tables are
-- as they were. Where there are links beside them, they are the row's.
pub record LinksLeft (s : Settings) (l : Result Links Refusal) (up up' down down' : List Link) : Type 0 where
  pub kept : verdict (checks_before_slots s) ≡ Ok tt → TablesHeld s up' down'
  pub refused : (r : Refusal) → verdict (checks_before_slots s) ≡ Err r → (up' ≡ up) × (down' ≡ down)
  pub links : IfOk l (LinksOf s)

-- and beside the tables, by the same verdict: where they are kept, the row's links are there, also where number 7 refuses it; else there are
-- none
pub record LinksThere (s : Settings) (l : Result Links RefusedRow) : Type 0 where
  pub kept : verdict (checks_before_slots s) ≡ Ok tt → MatchOption (links_in l) ⊥ (LinksOf s)
  pub refused : (r : Refusal) → verdict (checks_before_slots s) ≡ Err r → links_in l ≡ None
