-- `row_program::run` meets its contract. Assumes nothing.
use Rattle.std.proofs.Common.{◌<◌, length, take, length-take-le, arith}
use Rattle.std.proofs.lemmas.Result.{on_ok_weaker}
use Rattle.std.specs.Io.KnownBytes.{IsAtEnd}
use Rattle.program_model.proofs.Reading.{written_whole}
use Rattle.row_program_model.specs.Output.{output}
use Rattle.row_program_model.proofs.LawsHold.{long-front}
use Rattle.row_program.proofs.run.Goals as goal

pub returns : goal.returns
returns g c =
    let s = c.args.style in
    let r = c.in_ok-n.ensures in
    let front = take c.in_ok-n.n c.read_full.new.space in
    let end : length front < 65537 → IsAtEnd _ = λ h. r.end (omega (arith, length-take-le c.in_ok-n.n c.read_full.new.space r.within)) in
    on_ok_weaker c.write_output.result (written_whole (output s) (long-front s) _ _ front r.bytes end _ _) c.write_output.ensures
