-- What the entries that speak English leave. Assumes nothing.
use Rattle.std.specs.Prelude.{Result, Err}
use mathlib.Core.Path.{◌≡◌, ap, sym}
use mathlib.Core.Bool.{Bool, true, false, cond}
use mathlib.Core.List.{List, ◌++◌}
use Prim.Native.Nat.{ℕ, ◌^◌, ◌≤◌, ◌<◌}
use native.Mathlib.Omega.{arith}
use lib.Dec.{ltb}
use lib.ListN.{length, take, drop}
use lib.Seq.{take_at}
use Rattle.refusals.specs.declared.Refusal.TheVariants.{LentTooShort}
use Rattle.refusals.proofs.Computing.{tabled}
use Rattle.refusals.specs.Outcome.{Outcome, Planned, Refused}
use Rattle.refusals.specs.declared.Refusal.{Refusal}
use Rattle.plan_model.specs.Plans.{answer}
use Rattle.reason_model.specs.Reasons.{reason}
use Rattle.reason_model.specs.Reading.{read_reason, reason_at}
use Rattle.reason_model.proofs.LawsHold.{read_back}
use Rattle.calls_model.specs.declared.Answer.{Answer}
use Rattle.calls_model.specs.Calls.{answer_to_refusal, answer_to, Left, left}
use Rattle.calls_model.specs.Reasons.{line_left, ReadAgain}

-- ---- number and place can be had again

-- `text` is a plan's text, and `say` the line of what is answered, of a refusal its own
module _ {P : Type 0} (text : P → List ℕ) (say : Result ℕ Refusal → List ℕ) (broken : (r : Refusal) → say (Err r) ≡ reason r) where
  -- from the line of an outcome that is answered so
  outcome-again : (o : Outcome P) (number place : ℕ) → number ≡ (answer_to text o).number → place ≡ (answer_to text o).place → place < 2 ^ 32 → 1 ≤ number
      → read_reason (say (answer text o)) ≡ reason_at number place
  unfolding answer_to_refusal answer_to answer
  outcome-again (Planned p) number place n q h l = absurd (omega arith)
  outcome-again (Refused r) number place n q h l = rw (n, q, broken r) (read_back r (omega arith))

  pub line-again : (o : Outcome P) (before : List ℕ) (a : Answer) (after : List ℕ)
      → left a after ≡ line_left (answer_to text o).number (answer_to text o).place (say (answer text o)) before → a.place < 2 ^ 32 → ReadAgain a after
  unfolding line_left answer_to_refusal tabled
  line-again o before a after e h low high = by (ltb (length before) (length line)) e
    where
      line : List ℕ
      line = say (answer text o)

      by : (b : Bool)
          → left a after
          ≡ cond b (left (answer_to_refusal LentTooShort) before) (left (record { number = (answer_to text o).number; place = (answer_to text o).place; length = length line }) (line ++ drop (length line) before))
          → read_reason (take a.length after) ≡ reason_at a.number a.place
      by true q = absurd (high (ap (λ (l : Left). l.answer.number) q))
      by false q =
          let n = ap (λ (l : Left). l.answer.number) q in
          let p = ap (λ (l : Left). l.answer.place) q in
          let k = ap (λ (l : Left). l.answer.length) q in
          let t = ap (λ (l : Left). l.buffer) q in
          rw (t, take_at line (drop (length line) before) a.length (sym k)) (outcome-again o a.number a.place n p h low)
