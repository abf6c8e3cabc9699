-- What the loop of `reason_read::matching::match_phrase` keeps. Assumes nothing.
use mathlib.Core.Path.{◌≡◌}
use mathlib.Core.List.{map}
use lib.ListN.{drop}
use Rattle.std.specs.Prelude.{Some}
use Rattle.reason_model.specs.Reasons.{part_of}
use Rattle.reason_model.specs.Reading.{matched}
use Rattle.reason_read.proofs.matching.match_phrase.Given as goal

abbrev pub invariant-loop-part : goal.invariant-loop-part
invariant-loop-part l = matched (map part_of (drop l.part-index l.phrase)) (Some l.place) l.rest ≡ matched (map part_of l.phrase) (Some l.fn.place) l.fn.line
