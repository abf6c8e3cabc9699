-- `tree_list::lists::read_text` meets its contract. Assumes nothing.
use mathlib.Core.Path.{sym}
use Rattle.tree_list.proofs.Reading.{text-empty, names-differ, names-right}
use Rattle.tree_list.proofs.lists.read_text.Goals as goal

pub returns-in-Some : goal.returns-in-Some
returns-in-Some c =
    let l = c.in-Some.line in
    names-right c.args.input.now l.start l.end l.next (sym c.in-Some.ensures) c.read_nodes.result _ _ _ (sym (rw c.part.ensures at c.if-names_match.ensures)) c.read_nodes.ensures

pub returns-in_default : goal.returns-in_default
returns-in_default c =
    let l = c.in-Some.line in
    names-differ c.args.input.now l.start l.end l.next (sym c.in-Some.ensures) _ _ _ (sym (rw c.part.ensures at c.if-names_match.ensures))

pub returns-in_default-2 : goal.returns-in_default-2
returns-in_default-2 c = text-empty c.args.input.now _ _ _ (sym c.in_default.ensures)
