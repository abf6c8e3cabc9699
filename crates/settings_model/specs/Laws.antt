-- What holds of settings, for the layers above. Assumes nothing: these are statements; proofs/LawsHold proves them.
use Rattle.std.specs.Prelude.{◌≡◌, ◌↔◌, ◌+◌, ◌≤◌, ◌<◌, Ok}
use Rattle.refusals.specs.Conditions.{Unbroken, verdict}
use Rattle.settings_model.specs.declared.Settings.{Settings}
use Rattle.settings_model.specs.declared.Radio.{Radio}
use Rattle.settings_model.specs.Checks.{radio_of, checks, radio_checks}

-- numbers 3 and 4 as propositions: of what is set on every radio,
pub record CheckedRadio (b : Radio) : Type 0 where
  pub bo : b.bo ≤ 14
  pub so : b.so ≤ 14
  pub head : (5 ≤ b.head) × (b.head ≤ 126)
  pub payload : (1 ≤ b.payload) × (b.payload ≤ 122)
  pub ack : b.ack ≤ 1
  pub loss : b.loss ≤ 7
  -- a superframe is no longer than the beacon interval
  pub orders : b.so ≤ b.bo
  -- a frame has at most 127 octets
  pub frame : b.head + b.payload ≤ 127
  -- tries may fail only where an acknowledgement tells
  pub acknowledged : 0 < b.loss → 0 < b.ack

-- and of a row: every value is in its range, and none at odds with another
pub record Checked (s : Settings) : Type 0 where
  pub radio : CheckedRadio (radio_of s)
  pub h : s.h ≤ 12
  pub nr : s.nr ≤ 7
  pub ne : s.ne ≤ 7
  pub own : s.own ≤ 1
  pub sink : s.sink ≤ 12
  pub burst : (1 ≤ s.burst) × (s.burst ≤ 255)
  pub rate : (1 ≤ s.rate) × (s.rate ≤ 4095)
  -- routers have child routers where there is a depth below the root, and only there
  pub children : 0 < s.h → 0 < s.nr
  pub depth : 0 < s.nr → 0 < s.h
  -- something senses
  pub sensors : 0 < s.ne + s.own
  -- the sink stands in the tree, and below the root only where routers may have two child routers
  pub sink_depth : s.sink ≤ s.h
  pub sink_branches : 0 < s.sink → 2 ≤ s.nr

-- no condition of numbers 3 and 4 is broken exactly where settings are checked
abbrev pub UnbrokenWhereChecked : Type 0
UnbrokenWhereChecked = (s : Settings) → Unbroken (checks s) ↔ Checked s

-- and so the answer is that all is kept exactly there
abbrev pub KeptWhereChecked : Type 0
KeptWhereChecked = (s : Settings) → (verdict (checks s) ≡ Ok tt) ↔ Checked s

-- both for what comes beside a node list
abbrev pub UnbrokenWhereRadioChecked : Type 0
UnbrokenWhereRadioChecked = (b : Radio) → Unbroken (radio_checks b) ↔ CheckedRadio b

abbrev pub KeptWhereRadioChecked : Type 0
KeptWhereRadioChecked = (b : Radio) → (verdict (radio_checks b) ≡ Ok tt) ↔ CheckedRadio b
