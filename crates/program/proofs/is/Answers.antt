-- `program::is` meets its contract. Assumes nothing.
use Rattle.std.proofs.Common.{rules}
use Rattle.lines.proofs.Sameness.{same-decided}
use Rattle.program.proofs.is.Goals as goal

pub returns : goal.returns
returns c = let e = c.eq.ensures in same-decided c.eq.result _ _ (λ h. search rules) (λ h. search rules)
