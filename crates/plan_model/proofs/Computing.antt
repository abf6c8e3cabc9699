-- To unfold `links` is to unfold all that checked settings and the figures of a link are computed with. Assumes nothing.
use Rattle.measure.specs.Measures.{rounded_up, burst, arrivals, whole_frames, service_time}
use Rattle.superframe_model.specs.Orders.{beacon_interval, slot, beacon_length, contention, reservable}
use Rattle.superframe_model.specs.Exchange.{air_time, acknowledgement, spacing, exchange}
use Rattle.superframe_model.specs.Loss.{failed_try, with_loss, lossy_exchange}
use Rattle.superframe_model.specs.Reservation.{frames_in, rate, slots_for, latency}
use Rattle.links.specs.Link.{slots_of, frames_of, latency_of, reservation_of, after_link, after, buffer, delay, figures_by, figures_of}
use Rattle.settings_model.proofs.Computing.{checking}
use Rattle.plan_model.specs.Times.{timing_of, superframes}
use Rattle.plan_model.specs.Lines.{letter, same_kind, no_figures}

unfoldable pub links : Type 0
unfolding checking rounded_up burst arrivals whole_frames service_time beacon_interval slot beacon_length contention reservable air_time acknowledgement spacing exchange failed_try with_loss lossy_exchange frames_in rate slots_for latency slots_of frames_of latency_of reservation_of after_link after buffer delay figures_by figures_of timing_of superframes letter same_kind no_figures
links = Unit
