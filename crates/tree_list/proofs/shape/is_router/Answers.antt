-- `tree_list::shape::is_router` meets its contract. Assumes nothing.
use mathlib.Core.Path.{ap, ◌∙◌}
use lib.Dec.{eqb}
use Rattle.std.specs.Slice.Iter.{iter_rest}
use Rattle.std.proofs.Common.{rules, tests}
use Rattle.std.proofs.lemmas.Iterator.{YieldsList-from_slice}
use Rattle.std.proofs.lemmas.Iterator.Adapters.{YieldsList-from_skip}
use Rattle.std.proofs.lemmas.Iterator.Search.{any_from_yields_List}
use Rattle.tree_list.proofs.Routers.{router-any}
use Rattle.tree_list.proofs.shape.is_router.Goals as goal

pub returns-else-v-eq1 : goal.returns-else-v-eq1
returns-else-v-eq1 c =
    let a = c.args in
    let rest = ap iter_rest c.skip.ensures.source ∙ c.iter.ensures.rest in
    any_from_yields_List (λ p. eqb p a.v) _ _ _ c.any.ensures.ran (YieldsList-from_skip 1 (YieldsList-from_slice a.parents.now rest) c.skip.ensures.count) (λ x b q k. search (rules, tests))
    ∙ router-any a.parents.now a.v c.if-v-eq1.false
