-- `row_read::is_other` meets its contract. Assumes nothing.
use mathlib.Core.Path.{◌≡◌, refl}
use mathlib.Core.Bool.{false}
use Rattle.row_read_model.specs.declared.Heading.{Heading}
use Rattle.row_read_model.specs.declared.Heading.TheVariants.{Twelve, Thirteen, Other}
use Rattle.row_read_model.specs.Names.{is_other}
use Rattle.row_read.proofs.is_other.Goals as goal

pub returns-in-Other : goal.returns-in-Other
unfolding is_other
returns-in-Other c = rw c.in-Other.is

named : (heading : Heading) → (heading ≡ Other → ⊥) → false ≡ is_other heading
unfolding is_other
named Twelve n = refl
named Thirteen n = refl
named Other n = absurd (n refl)

pub returns-in_default : goal.returns-in_default
returns-in_default c = named c.args.heading c.in_default.not-Other
