-- What the loop of `row_program::write_output` keeps: the writer has some bytes more, behind which the rest of the output makes all of it. Each
-- step brings the end nearer. Assumes nothing.
use Rattle.std.specs.Io.KnownBytes.{Appends}
use mathlib.Core.Path.{◌≡◌}
use mathlib.Core.List.{List, ◌++◌}
use Prim.Native.Nat.{ℕ}
use Rattle.row_program_model.specs.Output.{output}
use Rattle.row_program_model.specs.Laws.{to_go}
use Rattle.row_program_model.proofs.LawsHold.{remaining}
use Rattle.row_program.proofs.write_output.Given as goal

abbrev pub invariant-loop-piece : goal.invariant-loop-piece
invariant-loop-piece g l =
    (done : List ℕ) × Appends (g.W.Write.contents l.fn.writer) (g.W.Write.contents l.writer) done
    × (done ++ remaining l.style l.input l.progress ≡ output l.style l.input)

abbrev pub decreases-loop-piece : goal.decreases-loop-piece
decreases-loop-piece g l = to_go l.input l.progress
