-- `row_program::write_output` meets its contract. Assumes nothing.
use Rattle.std.specs.Prelude.{Option}
use Rattle.std.proofs.Common.{◌≡◌, List, [], ◌++◌, ℕ, ap, sym, ◌∙◌, subst, append_assoc, append-nil, arith}
use Rattle.std.proofs.KnownBytes.{Appends-nil, Appends-trans}
use Rattle.std.specs.Io.KnownBytes.{Appends}
use Rattle.buffer.proofs.Putting.{put_front}
use Rattle.row_program_model.specs.Steps.{step, put}
use Rattle.row_program_model.proofs.LawsHold.{remaining-start, piece-answered, no-piece}
use Rattle.row_program.proofs.write_output.Goals as goal

-- what was put first of the rest stands behind what is done
moved : (done bytes rest after all : List ℕ) → rest ≡ bytes ++ after → done ++ rest ≡ all → (done ++ bytes) ++ after ≡ all
moved done bytes rest after all p q = append_assoc done bytes after ∙ ap (λ l. done ++ l) (sym p) ∙ q

-- and where nothing is left that is all
whole : (a b : Option (List ℕ)) (done rest all : List ℕ) → rest ≡ [] → done ++ rest ≡ all → Appends a b done → Appends a b all
whole a b done rest all p q w = subst (Appends a b) (sym (append-nil done) ∙ ap (λ l. done ++ l) (sym p) ∙ q) w

pub loop-piece-init : goal.loop-piece-init
loop-piece-init g c = ([], Appends-nil _, rw c.begin-progress.ensures (remaining-start c.args.style c.args.input.now))

pub loop-piece-smaller : goal.loop-piece-smaller
loop-piece-smaller g c = (piece-answered c.args.style c.args.input.now c.loop-piece.progress c.in-Some.piece c.in-Some.ensures.value).nearer

pub loop-piece-preserved : goal.loop-piece-preserved
loop-piece-preserved g c =
    let i = c.loop-piece.invariant in
    let a = piece-answered c.args.style c.args.input.now c.loop-piece.progress c.in-Some.piece c.in-Some.ensures.value in
    let bytes = put (step c.args.style c.args.input.now c.loop-piece.progress) in (
      i.0 ++ bytes,
      Appends-trans _ _ _ i.0 bytes i.1 (subst (Appends _ _) (put_front c.next_piece.new.out c.loop-piece.out bytes _ (omega (arith, a.counted)) (omega (arith, c.in-Some.ensures.length_bound)) c.in-Some.ensures.out_after) c.in_ok-write_all.ensures.bytes),
      moved i.0 bytes _ _ _ a.prints i.2,
    )

pub returns : goal.returns
returns g c =
    let i = c.loop-piece.invariant in
    let rest = no-piece c.args.style c.args.input.now c.loop-piece.progress c.in_default.ensures.value in
    whole _ _ i.0 _ _ rest i.2 i.1
