-- What is decided and printed, for any sort of line: the table holds the plan's lines. Assumes nothing.
use Rattle.std.specs.Prelude.{Result, Ok, Err}
use mathlib.Core.Path.{◌≡◌, refl, sym, ap, ◌∙◌}
use mathlib.Core.Bool.{Bool, true, false, cond}
use mathlib.Core.List.{List}
use Prim.Native.Nat.{ℕ, ◌*◌, ◌≤◌, ◌<◌}
use native.Mathlib.Omega.{arith}
use lib.Dec.{leb}
use lib.ListN.{length}
use lib.Seq.{sets}
use borrow.Author.Tests.{le-leb, lt-leb}
use Rattle.refusals.specs.declared.Refusal.{Refusal}
use Rattle.refusals.specs.Outcome.{Outcome, Planned, Refused}
use Rattle.plan_model.specs.Plans.{answer, written}
use Rattle.plan_model.proofs.Answered.{answer-planned, answer-refused, refused-put, planned-put}

-- Lines of a sort stand in a table, `width` numbers for each; `read` has them back, and `count` says how many there are.
module _ {A : Type 0} (width most : ℕ) (table : List A → List ℕ) (read : List ℕ → ℕ → List A) (count : ℕ → ℕ)
    (long : (p : List A) → length (table p) ≡ width * length p)
    (again : (p : List A) (e : List ℕ) → length (table p) ≤ length e → read (sets e 0 (table p)) (length p) ≡ p)
    (counted : (n : ℕ) → width * n ≤ most → count (width * n) ≡ n)
    (o : Outcome (List A)) where
  -- refused by the decision, refused by the plan
  pub decided-refused : (r : Refusal) → Err r ≡ answer table o → Refused r ≡ o
  decided-refused r e = sym (answer-refused table o r (sym e))

  -- planned, with n numbers: the table holds the lines
  pub record Back (n : ℕ) (ns : List ℕ) : Type 0 where
    pub lines : List A
    pub planned : Planned lines ≡ o
    pub back : read ns (count n) ≡ lines

  pub decided-back : (n : ℕ) (e ns : List ℕ) → Ok n ≡ answer table o → n ≤ most → most ≤ length e → ns ≡ sets e 0 (written table o) → Back n ns
  unfolding answer written
  decided-back n e ns a low room en =
      let q = answer-planned table o n (sym a) in
      let p : List A = q.0 in
      let a' : (λ (x : Result ℕ Refusal). x ≡ Ok (length (table p))) (Ok n) = a ∙ ap (answer table) q.1 in
      let l : n ≡ length (table p) = cc in
      let w : n ≡ width * length p = l ∙ long p in
      let m : count n ≡ length p = ap count w ∙ counted (length p) (omega (arith, w, low)) in
      let t : ns ≡ sets e 0 (table p) = en ∙ ap (λ (x : Outcome (List A)). sets e 0 (written table x)) q.1 in
      record { lines = p; planned = sym q.1; back = rw (m, t) (again p e (omega (arith, l, low, room))) }

-- ---- the text, where there is room for all of it

module _ (e text : List ℕ) (n : ℕ) where
  pub whole-put : n ≤ length e → sets e 0 text ≡ cond (leb n (length e)) (sets e 0 text) e
  whole-put h = rw (le-leb n (length e) h)

  pub none-put : length e < n → e ≡ cond (leb n (length e)) (sets e 0 text) e
  none-put h = rw (lt-leb n (length e) h)

-- nothing is put for what is refused
pub refused-within : {P : Type 0} (text : P → List ℕ) (o : Outcome P) (r : Refusal) (e : List ℕ) (b : Bool) → Refused r ≡ o → e ≡ cond b (sets e 0 (written text o)) e
refused-within text o r e true q = refused-put text o r e q
refused-within text o r e false q = refl

-- the text that was put is the plan's
pub planned-within : {P : Type 0} (text : P → List ℕ) (o : Outcome P) (p q : P) (e : List ℕ) (n m : ℕ) → Planned p ≡ o → q ≡ p → m ≡ n
    → cond (leb n (length e)) (sets e 0 (text q)) e ≡ cond (leb m (length e)) (sets e 0 (written text o)) e
planned-within text o p q e n m ep eq em = let w = planned-put text o p e (sets e 0 (text p)) ep refl in rw (em, eq, ← w) refl
