-- Every figure of the table is the one that document 01 states. Assumes nothing.
use mathlib.Core.Path.{refl}
use Rattle.measure.specs.Measures.{rounded_up}
use Rattle.superframe_model.specs.Orders.{beacon_interval, superframe, slot, beacon_length, contention, reservable}
use Rattle.superframe_model.specs.Exchange.{air_time, acknowledgement, spacing, exchange}
use Rattle.superframe_model.specs.Loss.{failed_try, with_loss, lossy_exchange}
use Rattle.superframe_model.specs.Reservation.{frames_in, slots_for, latency}
use Rattle.superframe_model.specs.Figures.{orders, given, figures, FiguresHold}

pub figures-hold : FiguresHold
unfolding beacon_interval superframe slot beacon_length contention reservable air_time acknowledgement spacing exchange failed_try with_loss lossy_exchange frames_in slots_for latency rounded_up orders given figures FiguresHold
figures-hold = refl
