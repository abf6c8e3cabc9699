-- Demand 3: the lines of checked settings hold in every run of every tree within the row. Assumes nothing.
use mathlib.Core.Path.{◌≡◌, ap}
use mathlib.Core.Bool.{Bool, true, false, cond, not, ◌||◌}
use Prim.Native.Nat.{ℕ, zero, suc, ◌*◌, ◌≤◌}
use native.Mathlib.Omega.{arith}
use lib.Dec.{eqb}
use Rattle.links.specs.declared.Load.{Load}
use Rattle.links.proofs.LinkLaws.{buffer-holds}
use Rattle.promise_model.specs.Laws.{Covered}
use Rattle.promise_model.proofs.LawsHold.{covered-is-kept}
use Rattle.settings_model.specs.declared.Settings.{Settings}
use Rattle.settings_model.specs.Checks.{radio_of}
use Rattle.settings_model.specs.Laws.{Checked}
use Rattle.plan_model.proofs.TimeLaws.{interval-positive}
use Rattle.row_model.specs.Times.{row_timing}
use Rattle.row_model.specs.Loads.{left}
use Rattle.row_model.specs.Lines.{link_for, sink_figures, lines}
use Rattle.row_model.specs.Tree.{Tree, Within}
use Rattle.row_model.specs.Promise.{senses, site_of, sink_line, printed_of, Keeps}
use Rattle.row_model.proofs.ReadOff.{reads-sink}
use Rattle.row_model.proofs.LoadLaws.{sensor-rate, sensor-burst}
use Rattle.row_model.proofs.NodeLoads.{link_load, entering-sink, line-is}
use Rattle.row_model.proofs.RouteDelays.{route-within-total}
use Rattle.row_model.proofs.Provisions.{tree_figures, tree-burst-after, provisioned}

-- line S of the plan has the load that enters the sink and the total delay
sink-line-is : (s : Settings) → sink_line s (lines s) ≡ sink_figures s
unfolding sink_line
sink-line-is s = reads-sink s

-- a router's sensor counts where OWN is 1, an end node's always
counted : (s : Settings) → Checked s → (q : ℕ) (b : Bool) → cond (not b || eqb s.own 1) q 0 ≤ cond b (s.own * q) q
counted s C q false = omega arith
counted s C q true = by s.own C.own
  where
    by : (o : ℕ) → o ≤ 1 → cond (eqb o 1) q 0 ≤ o * q
    by zero h = omega arith
    by (suc zero) h = omega arith
    by (suc (suc o)) h = absurd (omega (arith, h))

-- the printed figures cover those of the network
covered : (s : Settings) → Checked s → (T : Tree) → Within s T → Covered (row_timing s) (site_of s T) (printed_of s (lines s) T) (tree_figures s T)
unfolding site_of senses printed_of tree_figures sink_figures link_for left
covered s C T W = record {
  own_burst = λ v h. rw (sensor-burst s) (own-burst (T.is_router v));
  own_rate = λ v h. rw (sensor-rate s) (counted s C s.rate (T.is_router v));
  buffer = λ v h ns n k.
      rw (line-is s T W v h ns)
      (buffer-holds (row_timing s) (link_load s T v) n (interval-positive (radio_of s)) (rw (tree-burst-after s T v ns) at k));
  delay = λ v h k. rw (sink-line-is s) (route-within-total s T v);
  sink_burst = rw (sink-line-is s) (omega (arith, ap (λ (a : Load). a.burst.0) (entering-sink s T)));
  sink_rate = rw (sink-line-is s) (omega (arith, ap (λ (a : Load). a.rate.0) (entering-sink s T)));
}
  where
    own-burst : (b : Bool) → cond (not b || eqb s.own 1) s.burst 0 * (row_timing s).interval.0
        ≤ cond b (s.own * (s.burst * (row_timing s).interval.0)) (s.burst * (row_timing s).interval.0)
    own-burst false = omega arith
    own-burst true = by s.own C.own
      where
        by : (o : ℕ) → o ≤ 1 → cond (eqb o 1) s.burst 0 * (row_timing s).interval.0 ≤ o * (s.burst * (row_timing s).interval.0)
        by zero h = omega arith
        by (suc zero) h = omega arith
        by (suc (suc o)) h = absurd (omega (arith, h))

-- For all checked settings, with the lines of their plan: also where numbers 5 to 7 refuse the row, if there are windows for the tree.
pub keeps : (s : Settings) → Checked s → Keeps s (lines s)
keeps s C T W =
    covered-is-kept (row_timing s) (site_of s T) (printed_of s (lines s) T) (tree_figures s T) (interval-positive (radio_of s)) (covered s C T W)
    (λ offset O. provisioned s C T W offset O)
