-- What the loops of `reason_print::filling::put_filled` keep. Assumes nothing.
use Rattle.reason_model.proofs.Putting.{Begun}
use Rattle.reason_print.proofs.filling.put_filled.Given as goal

abbrev pub invariant-loop-part : goal.invariant-loop-part
invariant-loop-part l = Begun l.initial.out l.place l.phrase l.values l.out l.at l.used l.part-index
