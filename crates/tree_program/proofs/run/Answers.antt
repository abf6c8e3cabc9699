-- `tree_program::run` meets its contract. Assumes nothing.
use Rattle.std.proofs.Common.{◌<◌, length, take, length-take-le, subst, arith}
use Rattle.std.proofs.lemmas.Result.{on_ok_weaker}
use Rattle.std.specs.Io.KnownBytes.{Appends, IsAtEnd}
use Rattle.buffer.proofs.Putting.{put_front}
use Rattle.program_model.proofs.Reading.{written_whole}
use Rattle.tree_program_model.specs.Output.{tree_output}
use Rattle.tree_program_model.proofs.LawsHold.{long-front}
use Rattle.tree_program.proofs.run.Goals as goal

pub returns : goal.returns
returns g c =
    let a = c.args.arguments in
    let r = c.in_ok-n.ensures in
    let front = take c.in_ok-n.n c.read_full.new.space in
    let end : length front < 65537 → IsAtEnd _ = λ h. r.end (omega (arith, length-take-le c.in_ok-n.n c.read_full.new.space r.within)) in
    let put = c.put_tree_output-length.ensures in
    let text = put_front _ _ (tree_output a front) _ put.value (omega arith) put.out_after in
    on_ok_weaker c.write_all.result (λ w. written_whole (tree_output a) (long-front a) _ _ front r.bytes end _ _ (subst (Appends _ _) text w)) c.write_all.ensures.bytes
