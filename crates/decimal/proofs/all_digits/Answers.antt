-- `decimal::all_digits` meets its contract. Assumes nothing.
use Rattle.std.proofs.Common.{◌≡◌, ◌∙◌, refl, ap, List, [], ◌∷◌, ℕ, ◌&&◌, rules}
use borrow.Author.Tests.{tests}
use Rattle.std.specs.List.{list_all}
use Rattle.std.proofs.lemmas.Iterator.{YieldsList-from_slice}
use Rattle.std.proofs.lemmas.Iterator.Search.{all_from_yields_List}
use Rattle.decimal_model.specs.Number.{digit, digits}
use Rattle.decimal.proofs.all_digits.Goals as goal

-- digits one by one
each : (s : List ℕ) → list_all digit s ≡ digits s
unfolding digits
each [] = refl
each (b ∷ bs) = ap (λ r. digit b && r) (each bs)

pub returns : goal.returns
returns c =
    all_from_yields_List digit _ _ _ c.all.ensures.ran (YieldsList-from_slice c.args.text.now cc) (λ x b q k. search (rules, tests))
    ∙ each c.args.text.now
