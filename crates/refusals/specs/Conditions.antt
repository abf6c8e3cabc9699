-- Conditions that are checked in order. Assumes nothing: these are definitions.
use Rattle.std.specs.Prelude.{◌≡◌, Bool, false, cond, List, [], ◌∷◌, Result, Ok, Err, ⊤}
use Rattle.refusals.specs.declared.Refusal.{Refusal}

-- a condition: whether it is broken, and the refusal that it then has
pub record Condition (R : Type 0) : Type 0 where
  pub broken : Bool
  pub refusal : R

abbrev pub condition : {R : Type 0} → Bool → R → Condition R
condition b r = record { broken = b; refusal = r }

-- "Checked in the order of this table, the first failure answering": the answer that `refused` makes of the first broken condition's
-- refusal, or `kept` where none is broken
unfoldable pub first_broken : {R A : Type 0} → (R → A) → A → List (Condition R) → A
first_broken refused kept [] = kept
first_broken refused kept (c ∷ cs) = cond c.broken (refused c.refusal) (first_broken refused kept cs)

-- the verdict on a list of conditions: that all are kept, or the refusal of the first broken one
abbrev pub verdict : List (Condition Refusal) → Result ⊤ Refusal
verdict cs = first_broken Err (Ok tt) cs

-- and the verdict that a result carries, which has more to say where all are kept
abbrev pub verdict_of : {A : Type 0} → Result A Refusal → Result ⊤ Refusal
verdict_of (Ok a) = Ok tt
verdict_of (Err r) = Err r

-- no condition of a list is broken
abbrev pub Unbroken : {R : Type 0} → List (Condition R) → Type 0
Unbroken [] = Unit
Unbroken (c ∷ cs) = (c.broken ≡ false) × Unbroken cs
