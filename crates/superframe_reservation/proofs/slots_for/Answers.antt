-- `superframe_reservation::slots_for` meets its contract. Assumes nothing.
use Rattle.std.proofs.Common.{◌≡◌, rules}
use Rattle.measure.specs.Measures.{slots}
use Rattle.superframe_model.specs.Reservation.{slots_for}
use Rattle.superframe_model.proofs.ReservationLaws.{slots-smallest}
use Rattle.superframe_reservation.proofs.slots_for.Goals as goal

pub returns-in-Some-clause-smallest : goal.returns-in-Some-clause-smallest
unfolding slots_for
returns-in-Some-clause-smallest c = λ ps px fits.
    let a = c.args in
    let e : slots c.rounded_up.result ≡ slots_for a.load a.s a.x = search rules in
    rw e (slots-smallest a.load a.s a.x ps px)
