-- To unfold `trees` is to unfold all that a surveyed tree's plan is computed with, and to unfold `runs` all that a run is. Assumes nothing.
use Prim.Native.Nat.{ℕ}
use Rattle.measure.specs.Measures.{symbols, slots, frames, frame_symbols, per_interval}
use Rattle.network.specs.Counting.{total, join, bit, keep}
use Rattle.network.specs.Model.{queue}
use Rattle.network.specs.Readings.{made}
use Rattle.network.specs.Run.{deliver, feeds, ends, arrived, arrivals, end_exchanges, fresh, make_readings}
use Rattle.network.specs.Oracle.{is_start, idle, behind, take_oldest, serve, begun, serve_all, symbol, run}
use Rattle.network.specs.Examples.{reading, first, as_numbers, received, lengths_at}
use Rattle.plan_model.specs.declared.Kind.{Kind}
use Rattle.plan_model.proofs.Computing.{links}
use Rattle.plan_model.specs.declared.NodeLine.{NodeLine}
use Rattle.tree_model.specs.Tree.{sum_to, some_to, is_number, is_router, routers, is_listed}
use Rattle.tree_model.specs.Ways.{child_by, child_towards, next, superframe_of, kind_of, depth_by, depth_of}
use Rattle.tree_model.specs.Loads.{gather, input_by, output_by, entering}
use Rattle.tree_model.specs.Lines.{load_at, link_at, sink_figures, figures_at, way_delay, route_at, line_at, lines}
use Rattle.tree_model.specs.Checks.{routers_fit, reserves, reservations_at, used_at, reservable_at, router_at, routers_from, conditions}
use Rattle.tree_model.specs.Outcome.{outcome_of}
use Rattle.tree_model.specs.Promise.{no_line, figures_in, route_in, longest, site_of, printed_of}
use Rattle.promise_model.specs.Promise as promise

unfoldable pub trees : Type 0
unfolding links total join bit sum_to some_to is_number is_router routers is_listed child_by child_towards next superframe_of kind_of depth_by depth_of gather input_by output_by entering load_at link_at sink_figures figures_at way_delay route_at line_at lines routers_fit reserves reservations_at used_at reservable_at router_at routers_from conditions outcome_of
trees = Unit

unfoldable pub runs : Type 0
unfolding Rattle.network.specs.Counting.some_below no_line figures_in route_in longest promise.network_of site_of printed_of reading received as_numbers first run symbol serve_all begun serve take_oldest behind idle is_start make_readings fresh end_exchanges arrivals arrived ends feeds deliver made queue keep lengths_at
runs = Unit

-- A printed line as it stands: KIND, DEPTH and the nine numbers. Over lines that stand there a run computes no line anew in each symbol.
unfoldable pub printed-line : Kind → ℕ → ℕ → ℕ → ℕ → ℕ → ℕ → ℕ → ℕ → ℕ → NodeLine
printed-line k d ρ β s m T b w r = record {
  line = record {
    kind = k;
    depth = d;
    figures = record { rate = per_interval ρ; burst = frame_symbols β; slots = slots s; frames = frames m; latency = symbols T; buffer = frames b; delay = symbols w };
  };
  route = symbols r;
}
