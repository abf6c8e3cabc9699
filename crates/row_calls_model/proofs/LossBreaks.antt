-- A plan that was made without LOSS breaks the promise of a row with LOSS (specs/Broken). Assumes nothing.
use mathlib.Core.Path.{◌≡◌, refl}
use mathlib.Core.List.{List, [], ◌∷◌}
use Prim.Native.Nat.{zero, suc, ◌+◌, ◌≤◌}
use native.Mathlib.Omega.{arith}
use lib.Dec.{lit<, lit≤}
use Rattle.decimal_model.specs.Decimal.{digits_by, decimal}
use Rattle.lines.specs.Text.{ended}
use Rattle.measure.specs.Measures.{symbols, slots, frames, frame_symbols, per_interval}
use Rattle.network.specs.Counting.{bit, some_below, keep, All}
use Rattle.network.specs.Model.{Network, queue}
use Rattle.network.specs.Readings.{made}
use Rattle.network.specs.Run.{deliver, feeds, ends, arrived, end_exchanges, fresh, make_readings}
use Rattle.network.specs.Oracle.{is_start, idle, behind, take_oldest, serve, begun, serve_all, symbol, run}
use Rattle.network.specs.Examples.{reading, first, soon_from}
use Rattle.network.proofs.Oracles.{every-choice-is-a-run}
use Rattle.plan_model.specs.declared.Kind.TheVariants.{EndNode, Sink}
use Rattle.plan_model.specs.declared.Line.{Line}
use Rattle.plan_model.specs.Lines.{line}
use Rattle.row_model.specs.Tree.{is_child, ancestor, sink_below, towards, line_of}
use Rattle.row_model.specs.Promise.{network_of, Windows, sink_line, site_of, printed_of}
use Rattle.row_model.specs.Witness.{lossy_settings, small_settings, small_tree, lossy_row}
use Rattle.row_model.proofs.Witnesses.{small-within, small-readings}
use Rattle.row_answer_model.proofs.Computing.{answered}
use Rattle.report_model.specs.Text.{header, numbers, line_text, text}
use Rattle.row_calls_model.specs.Broken.{lossy, lossless, LosslessBreaks}
use Rattle.promise_model.specs.Promise as promise
use Rattle.network.proofs.Stretches.{third-frame, too-late}

-- the lines of that text
unfoldable lossless_lines : List Line
lossless_lines =
    line EndNode 0 (record {
      rate = per_interval 2;
      burst = frame_symbols 960;
      slots = slots 3;
      frames = frames 2;
      latency = symbols 960;
      buffer = frames 3;
      delay = symbols 1440;
    })
    ∷ line Sink 0 (record {
      rate = per_interval 2;
      burst = frame_symbols 2880;
      slots = slots 0;
      frames = frames 0;
      latency = symbols 0;
      buffer = frames 3;
      delay = symbols 1440;
    })
    ∷ []

-- one start in every interval
network : Network
network = network_of lossy_row lossless_lines small_tree (λ v. 0)

windows : Windows lossy_row lossless_lines small_tree (λ v. 0)
unfolding answered lossy_settings small_settings lossy_row small_tree lossless_lines is_child ancestor sink_below towards line_of promise.network_of site_of printed_of
windows zero L = lit≤ tt
windows (suc zero) L = lit≤ tt
windows (suc (suc v)) L = absurd (omega (arith, L.node))

third : queue (run network (soon_from 0) first 2401) 1 ≡ third-frame ∷ []
unfolding third-frame network answered lossy_settings small_settings lossy_row small_tree lossless_lines is_child ancestor sink_below towards line_of promise.network_of site_of printed_of bit some_below soon_from reading first run symbol serve_all begun serve take_oldest behind idle is_start make_readings fresh end_exchanges Rattle.network.specs.Run.arrivals arrived ends feeds deliver made queue keep
third = refl

pub lossless-breaks : LosslessBreaks
unfolding answered lossy_settings small_settings lossy_row small_tree lossless_lines lossy lossless digits_by decimal ended header numbers line_text text sink_below line_of sink_line network promise.network_of site_of printed_of
lossless-breaks promised =
    let keeps = promised refl lossless_lines refl in
    let held = keeps small_tree (small-within 5 1 1 1) (λ v. 0) windows (soon_from 0) (small-readings 5 1 1 1 0) (run network (soon_from 0) first) (every-choice-is-a-run network (soon_from 0) first) 2400 in
    let waits : All (λ f. 2400 ≤ f.made + 1440) (queue (run network (soon_from 0) first 2401) 1) = held.under_way 1 (lit< tt) in
    too-late (rw third at waits)
