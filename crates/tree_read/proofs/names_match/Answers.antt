-- `tree_read::names_match` meets its contract. Assumes nothing.
use mathlib.Core.Path.{◌≡◌, refl, ◌∙◌, ap}
use mathlib.Core.List.{List, [], ◌∷◌}
use Prim.Native.Nat.{ℕ}
use lib.Dec.{eqb}
use lib.Pointwise.{pointwise}
use Rattle.tree_read_model.specs.Entries.{is_name_line, name_line}
use Rattle.decimal_model.specs.Ascii.{ascii}
use Rattle.lines.specs.Text.{same}
use Rattle.tree_read.proofs.names_match.Goals as goal

-- `==` on bytes, byte by byte
bytes-same : (s t : List ℕ) → pointwise eqb s t ≡ same s t
unfolding same
bytes-same [] [] = refl
bytes-same [] (c ∷ cs) = refl
bytes-same (b ∷ bs) [] = refl
bytes-same (b ∷ bs) (c ∷ cs) = rw (bytes-same bs cs)

pub returns : goal.returns
unfolding is_name_line name_line ascii
returns c = c.eq.ensures ∙ ap (pointwise eqb c.args.line.now) c.as_slice.ensures ∙ bytes-same c.args.line.now _
