-- What a node line says that keeps the rules. Assumes nothing.
use Rattle.std.specs.Prelude.{Some, None}
use mathlib.Core.Path.{◌≡◌, refl}
use mathlib.Core.Bool.{true, false}
use Prim.Native.Nat.{ℕ, ◌≤◌, ◌<◌}
use native.Mathlib.Decide.{ℕ_discrete}
use native.Mathlib.Omega.{arith}
use Rattle.tree_read_model.specs.declared.Entry.{Entry}
use Rattle.tree_read_model.specs.Entries.{entry_right}
use Rattle.tree_read_model.specs.Survey.{parent_in, burst_in, rate_in}
use Rattle.tree_read_model.proofs.Listed.{Says, says, parent-root, parent-below, sensor-is}

-- a line that cannot be read breaks them
pub unread : (k : ℕ) → entry_right k None ≡ false
unfolding entry_right
unread k = refl

-- A node that keeps the rules fits its place and its bytes. The first part says nothing: it shows a tactic the call to match.
pub kept_small : (k : ℕ) (e : Entry) → entry_right k (Some e) ≡ true
    → (entry_right k (Some e) ≡ entry_right k (Some e)) × (k ≤ 254) × (e.parent < 256) × (e.burst < 256) × (e.rate ≤ 4095)
unfolding parent_in burst_in rate_in
kept_small k e w = by (says k (Some e) w) (ℕ_discrete k 1)
  where
    by : Says k (Some e) → Dec (k ≡ 1) → (entry_right k (Some e) ≡ entry_right k (Some e)) × (k ≤ 254) × (e.parent < 256) × (e.burst < 256) × (e.rate ≤ 4095)
    by s (yes q) = let t = sensor-is e.burst e.rate s.sensor in (refl, s.few, omega (arith, parent-root e.parent (rw q at s.parent)), omega (arith, t.burst), t.rate)
    by s (no n) = let t = sensor-is e.burst e.rate s.sensor in (refl, s.few, omega (arith, s.few, (parent-below k e.parent n s.parent).1), omega (arith, t.burst), t.rate)
