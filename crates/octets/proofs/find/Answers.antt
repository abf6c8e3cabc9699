-- `octets::find` meets its contract. Assumes nothing.
use Rattle.std.proofs.Common.{◌==◌, rules, refl, arith}
use borrow.Author.Tests.{tests}
use Rattle.std.proofs.lemmas.Grind.{common_steps}
use Rattle.std.proofs.lemmas.Iterator.{YieldsList-from_slice}
use Rattle.std.proofs.lemmas.Iterator.Search.{position_from_yields_List}
use Rattle.octets.proofs.Finding.{rest_of, found}
use Rattle.octets.proofs.find.Goals as goal

pub returns-clause-place : goal.returns-clause-place
returns-clause-place c =
    let a = c.args in
    let rest = rest_of a.text.now a.at c.get.result _ c.unwrap_or-rest.result refl c.get.ensures.lookup c.unwrap_or-rest.ensures in
    let bytes = YieldsList-from_slice c.unwrap_or-rest.result.now cc in
    let p = position_from_yields_List (λ b. b == a.byte) _ _ _ c.position.ensures.ran bytes (λ x b q k. search (rules, tests)) in
    let f = found a.byte c.unwrap_or-rest.result.now in
    grind (arith, common_steps, p, f, rest)
