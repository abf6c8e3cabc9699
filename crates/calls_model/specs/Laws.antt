-- What holds of what calls leave, for those who call them, whatever is planned. Assumes nothing: these are statements; proofs/LawsHold and
-- ExchangesAsked prove them.
use Rattle.std.specs.Prelude.{ℕ, ◌+◌, ◌-◌, ◌*◌, ◌≤◌, ◌≡◌, List, length}
use Rattle.refusals.specs.declared.Refusal.{Refusal}
use Rattle.refusals.specs.Conditions.{Condition, first_broken}
use Rattle.refusals.specs.Outcome.{Planned, Refused}
use Rattle.superframe_model.specs.ExchangeTable.{entry_for}
use Rattle.calls_model.specs.Exchanges.{exchange_asked}
use Rattle.calls_model.specs.Calls.{answer_to, leaves, IsPlanned, StandsIn}

-- a buffer keeps its length
abbrev pub LengthStays : Type 1
LengthStays = (P : Type 0) (text : P → List ℕ) (p : P) (cs : List (Condition Refusal)) (before : List ℕ) → length (leaves text p cs before).buffer ≡ length before

-- a refusal leaves every byte as it was
abbrev pub RefusalLeaves : Type 1
RefusalLeaves = (P : Type 0) (text : P → List ℕ) (p : P) (cs : List (Condition Refusal)) (before : List ℕ) → ¬ IsPlanned (leaves text p cs before).answer
    → (leaves text p cs before).buffer ≡ before

-- a buffer as long as the entry that writes nothing says is long enough: the answers are the same
abbrev pub AskedFirst : Type 1
AskedFirst = (P : Type 0) (text : P → List ℕ) (p : P) (cs : List (Condition Refusal)) (before : List ℕ)
    → (answer_to text (first_broken Refused (Planned p) cs)).length ≤ length before
    → (leaves text p cs before).answer ≡ answer_to text (first_broken Refused (Planned p) cs)

-- where it is planned, the plan's own text stands in the buffer: the promise is about something
abbrev pub TextStands : Type 1
TextStands = (P : Type 0) (text : P → List ℕ) (p : P) (cs : List (Condition Refusal)) (before : List ℕ) → IsPlanned (leaves text p cs before).answer
    → StandsIn text p (leaves text p cs before).answer (leaves text p cs before).buffer

-- the entry for exchange times hands out the table: of m octets, the entry at 2 × (m − 6), and acknowledged the one behind it
abbrev pub HandsOutTheTable : Type 0
HandsOutTheTable = (m ack : ℕ) → 6 ≤ m → m ≤ 127 → ack ≤ 1 → exchange_asked m ack ≡ (entry_for (2 * (m - 6) + ack)).0
