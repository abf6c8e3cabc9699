-- Demand 3 of the text in the lent buffer. Assumes nothing: these are definitions.
use Rattle.std.specs.Prelude.{ℕ, List}
use Rattle.settings_model.specs.declared.Radio.{Radio}
use Rattle.plan_model.specs.declared.NodeLine.{NodeLine}
use Rattle.tree_model.specs.Promise.{Keeps}
use Rattle.tree_read_model.specs.Survey.{tree_in}
use Rattle.report_model.specs.TreeText.{tree_text}
use Rattle.calls_model.specs.declared.Answer.{Answer}
use Rattle.calls_model.specs.Calls.{IsPlanned, StandsIn}

-- Where a tree is answered as planned, demand 3 holds of the tree that the text lists and of ANY lines whose text stands in the buffer
-- afterwards.
abbrev pub PromisedTree : List ℕ → Radio → ℕ → Answer → List ℕ → Type 0
PromisedTree nodes b sink r after = IsPlanned r → (p : List NodeLine) → StandsIn tree_text p r after → Keeps b (tree_in nodes) sink p
