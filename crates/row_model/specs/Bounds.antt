-- What rows have of which numbers 3 to 6 are kept: every sum of theirs fits 64 bits. Assumes nothing: these are definitions.
use Rattle.std.specs.Prelude.{◌≤◌, ◌<◌, ◌^◌}
use Rattle.links.specs.declared.Load.{Load}
use Rattle.settings_model.specs.declared.Settings.{Settings}
use Rattle.settings_model.specs.Laws.{Checked}
use Rattle.row_model.specs.Checks.{routers}

-- checked settings, and no more routers than superframes fit the longest interval
pub record Sound (s : Settings) : Type 0 where
  pub checked : Checked s
  pub few : routers s ≤ 16384

-- a load whose sums fit 64 bits with room: the bound on every load of a sound row (proofs/LoadBounds)
pub record Bounded (a : Load) : Type 0 where
  pub rate : a.rate.0 < 2 ^ 30
  pub burst : a.burst.0 < 2 ^ 58
