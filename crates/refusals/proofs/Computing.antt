-- To unfold `tabled` is to unfold all that number and place of a refusal are computed with. Assumes nothing.
use Rattle.refusals.specs.Table.{table, sort_at, place_said}
use Rattle.refusals.specs.Refusals.{conflict_facts, tree_facts, facts_of, number_of, place_of}

unfoldable pub tabled : Type 0
unfolding table sort_at place_said conflict_facts tree_facts facts_of number_of place_of
tabled = Unit
