-- The computed examples (specs/Examples). Assumes nothing.
use mathlib.Core.Path.{refl}
use Rattle.network.specs.Counting.{total, bit, some_below, count, keep, join}
use Rattle.network.specs.Model.{queue}
use Rattle.network.specs.Readings.{made}
use Rattle.network.specs.Run.{deliver, feeds, ends, arrived, arrivals, end_exchanges, fresh, make_readings}
use Rattle.network.specs.Oracle.{is_start, idle, behind, take_oldest, serve, begun, serve_all, symbol, run}
use Rattle.network.specs.Claim.{came_in, tagged, present}
use Rattle.network.specs.Examples.{link, per_node, hops, fork, reading, one, first, second, before, starts, as_numbers, received, lengths, on_air, three, tie, twos, ExamplesHold}

pub examples-hold : ExamplesHold
unfolding three tie twos came_in tagged present total bit count starts received lengths on_air as_numbers before first second one reading fork hops per_node link run symbol serve_all begun serve take_oldest behind idle is_start make_readings fresh end_exchanges arrivals arrived ends feeds deliver made queue keep join some_below
examples-hold = record {
  two_starts = refl;
  one_link = refl;
  its_queue = refl;
  end_meets_start = refl;
  in_a_symbol_of_a_start = refl;
  in_that_of_the_last = refl;
  over_the_border = refl;
  two_hops = refl;
  comes_in_a_symbol_of_a_start = refl;
  tie_one_way = refl;
  tie_the_other = refl;
  sinks_own = refl;
  no_sink_queue = refl;
  readings_add_up = refl;
  in_stretches = refl;
  accounted_for = refl;
  delay_needs_latency = refl;
  burst_needs_latency = refl;
  rate_needs_service = refl;
}
