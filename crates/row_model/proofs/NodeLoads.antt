-- The load that enters each node of a tree within a row, and that the line of its link has the figures of that load. Assumes nothing.
use mathlib.Core.Path.{◌≡◌, refl, ap}
use mathlib.Core.Logic.{◌≢◌}
use mathlib.Core.Bool.{Bool, true, false, cond}
use Prim.Native.Nat.{ℕ, zero, suc, ◌≤◌, ◌<◌}
use native.Mathlib.Omega.{arith}
use lib.Dec.{eqb}
use borrow.Author.Tests.{eq-eqb, ne_eqb}
use Rattle.links.specs.declared.Load.{Load}
use Rattle.links.specs.declared.Figures.{Figures}
use Rattle.links.specs.Link.{slots_of, reservation_of, figures_by, figures_of}
use Rattle.settings_model.specs.declared.Settings.{Settings}
use Rattle.settings_model.specs.Laws.{Checked}
use Rattle.row_model.specs.Times.{row_timing}
use Rattle.row_model.specs.Loads.{sensor, upward, downward, at_sink}
use Rattle.row_model.specs.Lines.{link_for, end_link, up_link, down_link, lines}
use Rattle.row_model.specs.Tree.{Tree, Within, sink_below, line_of}
use Rattle.row_model.proofs.Recurrences.{sensor-some, upward-some, downward-some}
use Rattle.row_model.proofs.ReadOff.{reads_end, reads_up, reads-down}
use Rattle.row_model.proofs.Ways.{sink-under, off-path-deep}
use Rattle.row_model.proofs.Feeders.{end-nodes-some}

-- the load that enters a node's link: chosen as its line is
unfoldable pub link_load : Settings → Tree → ℕ → Load
link_load s T v = cond (T.is_router v) (cond (sink_below T v) (downward s (T.depth v)) (upward s (T.depth v))) (sensor s)

-- the load that enters a node, the sink too
unfoldable pub entering : Settings → Tree → ℕ → Load
entering s T v = cond (eqb v T.sink) (at_sink s) (link_load s T v)

-- at a node with a link that is the load which enters the link
pub entering-link : (s : Settings) (T : Tree) (v : ℕ) → v ≢ T.sink → entering s T v ≡ link_load s T v
unfolding entering
entering-link s T v ns = rw (ne_eqb v T.sink ns)

pub entering-sink : (s : Settings) (T : Tree) → entering s T T.sink ≡ at_sink s
unfolding entering
entering-sink s T = rw (eq-eqb T.sink T.sink refl)

-- the nodes that have a link: end nodes, routers that send up to their parent, routers on the sink's path that send down
pub data Sort (s : Settings) (T : Tree) (v : ℕ) : Type 0 where
  end_node : T.is_router v ≡ false → 0 < s.ne → Sort s T v
  up_router : T.is_router v ≡ true → sink_below T v ≡ false → (i : ℕ) → T.depth v ≡ suc i → i < s.h → Sort s T v
  down_router : T.is_router v ≡ true → sink_below T v ≡ true → T.depth v < s.sink → Sort s T v

module _ (s : Settings) (T : Tree) (W : Within s T) where
  -- every node but the sink is of one sort
  pub sort : (v : ℕ) → v < T.nodes → v ≢ T.sink → Sort s T v
  sort v hv ns = by (T.is_router v) refl
    where
      up : T.is_router v ≡ true → sink_below T v ≡ false → (d : ℕ) → T.depth v ≡ d → Sort s T v
      up x e zero d = absurd (omega (arith, off-path-deep s T W v hv ns e))
      up x e (suc i) d = up_router x e i d (omega (arith, W.deepest v hv x))

      path : T.is_router v ≡ true → (b : Bool) → sink_below T v ≡ b → Sort s T v
      path x true e = down_router x e (omega (arith, (sink-under s T W v e).higher, W.sink_depth))
      path x false e = up x e (T.depth v) refl

      by : (b : Bool) → T.is_router v ≡ b → Sort s T v
      by true x = path x (sink_below T v) refl
      by false x = end_node x (end-nodes-some s T W v hv x)

  -- the line of a node's link is that of the load which enters it
  pub line-is : (v : ℕ) → v < T.nodes → v ≢ T.sink → line_of T (lines s) v ≡ link_for s (link_load s T v)
  unfolding line_of link_load end_link up_link down_link
  line-is v hv ns = by (sort v hv ns)
    where
      by : Sort s T v → line_of T (lines s) v ≡ link_for s (link_load s T v)
      by (end_node x n) = rw x (reads_end s n)
      by (up_router x e i d h) = rw (x, e, d) (reads_up s (suc i) (omega arith) h)
      by (down_router x e h) = rw (x, e) (reads-down s (T.depth v) h)

  pub line-slots : (v : ℕ) → v < T.nodes → v ≢ T.sink → (line_of T (lines s) v).slots ≡ slots_of (row_timing s) (link_load s T v).rate
  unfolding link_for figures_of figures_by reservation_of
  line-slots v hv ns = ap (λ (f : Figures). f.slots) (line-is v hv ns)

  -- each brings a frame or more in every interval
  pub link-rate-some : Checked s → (v : ℕ) → 1 ≤ (link_load s T v).rate.0
  unfolding link_load
  link-rate-some C v = by (T.is_router v) (sink_below T v)
    where
      by : (b c : Bool) → 1 ≤ (cond b (cond c (downward s (T.depth v)) (upward s (T.depth v))) (sensor s)).rate.0
      by true true = downward-some s C (T.depth v)
      by true false = upward-some s C (T.depth v)
      by false c = sensor-some s C
