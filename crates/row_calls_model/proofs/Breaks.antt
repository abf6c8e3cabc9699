-- The statement of specs/Broken. Assumes nothing.
use mathlib.Core.Path.{◌≡◌, refl}
use mathlib.Core.List.{List, [], ◌∷◌}
use Prim.Native.Nat.{zero, suc, ◌≤◌}
use native.Mathlib.Omega.{arith}
use lib.Dec.{lit<, lit≤}
use lib.ListN.{length}
use Rattle.decimal_model.specs.Decimal.{digits_by, decimal}
use Rattle.lines.specs.Text.{ended}
use Rattle.measure.specs.Measures.{symbols, slots, frames, frame_symbols, per_interval}
use Rattle.network.specs.Counting.{bit, some_below, keep}
use Rattle.network.specs.Model.{Network, queue}
use Rattle.network.specs.Readings.{made}
use Rattle.network.specs.Run.{deliver, feeds, ends, arrived, end_exchanges, fresh, make_readings}
use Rattle.network.specs.Oracle.{is_start, idle, behind, take_oldest, serve, begun, serve_all, symbol, run}
use Rattle.network.specs.Examples.{reading, first, soon_from}
use Rattle.network.proofs.Oracles.{every-choice-is-a-run}
use Rattle.plan_model.specs.declared.Kind.TheVariants.{EndNode, Sink}
use Rattle.plan_model.specs.declared.Line.{Line}
use Rattle.plan_model.specs.Lines.{line}
use Rattle.row_model.specs.Tree.{is_child, ancestor, sink_below, towards, line_of}
use Rattle.row_model.specs.Promise.{network_of, Windows, site_of, printed_of}
use Rattle.row_model.specs.Witness.{lossy_settings, small_settings, small_row, small_tree, full_readings}
use Rattle.row_model.proofs.Witnesses.{filled}
use Rattle.row_answer_model.proofs.Computing.{answered}
use Rattle.report_model.specs.Text.{header, numbers, line_text, text}
use Rattle.row_calls_model.specs.Broken.{row, lowered, LoweredBreaks}
use Rattle.promise_model.specs.Promise as promise

-- the lines of that text
unfoldable lowered_lines : List Line
lowered_lines =
    line EndNode 0 (record {
      rate = per_interval 2;
      burst = frame_symbols 960;
      slots = slots 2;
      frames = frames 2;
      latency = symbols 960;
      buffer = frames 2;
      delay = symbols 1440;
    })
    ∷ line Sink 0 (record {
      rate = per_interval 2;
      burst = frame_symbols 2880;
      slots = slots 0;
      frames = frames 0;
      latency = symbols 0;
      buffer = frames 3;
      delay = symbols 1440;
    })
    ∷ []

network : Network
network = network_of small_row lowered_lines small_tree (λ v. 0)

windows : Windows small_row lowered_lines small_tree (λ v. 0)
unfolding answered lossy_settings small_settings small_row small_tree lowered_lines is_child ancestor sink_below towards line_of promise.network_of site_of printed_of
windows zero L = lit≤ tt
windows (suc zero) L = lit≤ tt
windows (suc (suc v)) L = absurd (omega (arith, L.node))

full : length (queue (run network full_readings first 1020) 1) ≡ 3
unfolding network answered lossy_settings small_settings small_row small_tree lowered_lines is_child ancestor sink_below towards line_of promise.network_of site_of printed_of bit some_below soon_from full_readings reading first run symbol serve_all begun serve take_oldest behind idle is_start make_readings fresh end_exchanges Rattle.network.specs.Run.arrivals arrived ends feeds deliver made queue keep
full = refl

pub lowered-breaks : LoweredBreaks
unfolding answered lossy_settings small_settings small_row small_tree lowered_lines row lowered digits_by decimal ended header numbers line_text text sink_below line_of network promise.network_of site_of printed_of
lowered-breaks promised =
    let keeps = promised refl lowered_lines refl in
    let held = keeps small_tree filled.within_row (λ v. 0) windows full_readings filled.keep_buckets (run network full_readings first) (every-choice-is-a-run network full_readings first) 1019 in
    let few : length (queue (run network full_readings first 1020) 1) ≤ 2 = held.queues 1 (record { node = lit< tt; not_sink = λ e. absurd (omega (arith, e)) }) in
    omega (arith, few, full)
