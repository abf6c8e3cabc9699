-- The rule at a start, between the relation `Turn` (specs/Run) and the function `serve` (specs/Oracle): what the function does is allowed,
-- and whatever is allowed the function does with some oracle. Assumes nothing.
use mathlib.Core.Path.{◌≡◌, refl, sym, ap, ◌∙◌, subst}
use mathlib.Core.Bool.{Bool, true, false, cond, false≢true}
use mathlib.Core.List.{List, [], ◌∷◌, ◌++◌, map, append-nil}
use Prim.Native.Nat.{ℕ, zero, suc, ◌≤◌, ◌<◌}
use native.Mathlib.Nat.{le_refl}
use native.Mathlib.Omega.{arith}
use lib.Dec.{eqb, ltb}
use lib.ListN.{length}
use borrow.Author.Tests.{lt-ltb, le-ltb, ltb-true, ltb-false, eqb-true, eq-eqb}
use Rattle.network.specs.Counting.{All, none, each}
use Rattle.network.specs.Model.{Network, Frame, State}
use Rattle.network.specs.Run.{Turn, no_start, unused, sends}
use Rattle.network.specs.Oracle.{Served, idle, behind, take_oldest, serve, is_start, begun, serve_all}
use Rattle.network.proofs.Lists.{All-imp}
use Rattle.network.proofs.Serving.{Ordered, first}
use Rattle.network.proofs.StartTest.{test-start, start_test, no-start-test, test-no-start}

-- what a link may do in symbol t with the waiting frames q, at a start or not
data Rule (t : ℕ) (q : List Frame) (r : Served) : Bool → Type 0 where
  nothing : r ≡ idle q → Rule t q r false
  waste : All (λ f. t ≤ f.came) q → r ≡ idle q → Rule t q r true
  send : (front : List Frame) (f : Frame) (back : List Frame) → q ≡ front ++ f ∷ back → f.came < t → All (λ g. f.came ≤ g.came) q
      → r ≡ record { sent = f ∷ []; kept = front ++ back } → Rule t q r true

-- ---- whatever is allowed the function does

-- the frame h, before which only frames stand that came in the same symbol
take-any : (x : Frame) (xs : List Frame) (h : Frame) (ys : List Frame) → x.came ≡ h.came → All (λ g. g.came ≡ h.came) xs
    → take_oldest (suc (length xs)) x (xs ++ h ∷ ys) ≡ record { sent = h ∷ []; kept = x ∷ (xs ++ ys) }
unfolding take_oldest behind
take-any x [] h ys e none = rw (eq-eqb h.came x.came (sym e))
take-any x (y ∷ xs) h ys e (each d a) = rw (eq-eqb y.came x.came (d ∙ sym e), take-any y xs h ys d a)

any-oldest : (t : ℕ) (xs : List Frame) (h : Frame) (ys : List Frame) → All (λ g. g.came ≡ h.came) xs → h.came < t
    → serve true (length xs) t (xs ++ h ∷ ys) ≡ record { sent = h ∷ []; kept = xs ++ ys }
unfolding serve take_oldest
any-oldest t [] h ys none lt = rw (lt-ltb h.came t lt)
any-oldest t (x ∷ xs) h ys (each e a) lt = rw (lt-ltb x.came t (omega arith)) (take-any x xs h ys e a)

-- frames that stand before one of the oldest came in the same symbol
before : (xs : List Frame) (f : Frame) (ys : List Frame) → Ordered (xs ++ f ∷ ys) → All (λ g. f.came ≤ g.came) (xs ++ f ∷ ys) → All (λ g. g.came ≡ f.came) xs
before [] f ys o a = none
before (x ∷ xs) f ys (first b o) (each h a) = each {a = x} (omega (arith, at xs b, h)) (before xs f ys o a)
  where
    at : (zs : List Frame) → All (λ g. x.came ≤ g.came) (zs ++ f ∷ ys) → x.came ≤ f.came
    at [] (each k c) = k
    at (z ∷ zs) (each k c) = at zs c

-- the oracle's answer
place : {t : ℕ} {b : Bool} {q : List Frame} {r : Served} → Rule t q r b → ℕ
place (nothing e) = 0
place (waste a e) = 0
place (send front f back e h a d) = length front

rule-serve : (t : ℕ) (b : Bool) (q : List Frame) (r : Served) (c : Rule t q r b) → Ordered q → r ≡ serve b (place c) t q
unfolding serve idle place
rule-serve t _ q r (nothing e) o = e
rule-serve t _ q r (waste a e) o = e ∙ none-early q a
  where
    none-early : (q : List Frame) → All (λ f. t ≤ f.came) q → idle q ≡ serve true 0 t q
    none-early [] a = refl
    none-early (f ∷ q) (each h a) = rw (le-ltb f.came t h)
rule-serve t _ q r (send front f back e h a d) o =
    d ∙ sym (any-oldest t front f back (before front f back (subst Ordered e o) (subst (λ (x : List Frame). All (λ g. f.came ≤ g.came) x) e a)) h)
    ∙ ap (serve true (length front) t) (sym e)

-- ---- what the function does is allowed

-- one frame more in front, that came in the same symbol as the next
more : (t : ℕ) (f g : Frame) (q : List Frame) (r : Served) (b : Bool) → b ≡ true → g.came ≡ f.came → g.came < t → Rule t (g ∷ q) r b → Rule t (f ∷ g ∷ q) (behind f r) true
unfolding behind
more t f g q r _ e same h (nothing d) = absurd (false≢true e)
more t f g q r _ e same h (waste (each k a) d) = absurd (omega arith)
more t f g q r _ e same h (send front x back is k (each i a) d) =
    send (f ∷ front) x back (ap (λ (y : List Frame). f ∷ y) is) k (each {a = f} (omega arith) (each {a = g} i a)) (ap (λ (y : Served). record { sent = y.sent; kept = f ∷ y.kept }) d)

take-rule : (t k : ℕ) (f : Frame) (q : List Frame) → Ordered (f ∷ q) → f.came < t → Rule t (f ∷ q) (take_oldest k f q) true
unfolding take_oldest
take-rule t zero f q (first b o) h = send [] f q refl h (each {a = f} (le_refl f.came) b) refl
take-rule t (suc k) f [] (first b o) h = send [] f [] refl h (each {a = f} (le_refl f.came) b) refl
take-rule t (suc k) f (g ∷ q) (first (each i b) o) h = by (eqb g.came f.came) refl (λ y. take-rule t k g q o y)
  where
    by : (c : Bool) → eqb g.came f.came ≡ c → (g.came < t → Rule t (g ∷ q) (take_oldest k g q) true)
        → Rule t (f ∷ g ∷ q) (cond c (behind f (take_oldest k g q)) (record { sent = f ∷ []; kept = g ∷ q })) true
    by true e go = let d : g.came ≡ f.came = eqb-true g.came f.came e in let y : g.came < t = omega arith in more t f g q (take_oldest k g q) true refl d y (go y)
    by false e go = send [] f (g ∷ q) refl h (each {a = f} (le_refl f.came) (each {a = g} i b)) refl

serve-rule : (t k : ℕ) (b : Bool) (q : List Frame) → Ordered q → Rule t q (serve b k t q) b
unfolding serve
serve-rule t k false q o = nothing refl
serve-rule t k true [] o = waste none refl
serve-rule t k true (f ∷ q) o = by (ltb f.came t) refl o
  where
    by : (c : Bool) → ltb f.came t ≡ c → Ordered (f ∷ q) → Rule t (f ∷ q) (cond c (take_oldest k f q) (idle (f ∷ q))) true
    by true e o = take-rule t k f q o (ltb-true f.came t e)
    by false e (first a o) = let y : t ≤ f.came = ltb-false f.came t e in waste (each {a = f} y (All-imp (λ g i. omega arith) a)) refl

-- ---- turns

record Ruled (N : Network) (t v : ℕ) (s s' : State) : Type 0 where
  served : Served
  rule : Rule t (s.waiting v) served (is_start N v t)
  waiting : s'.waiting v ≡ served.kept
  air : s'.air v ≡ s.air v ++ map (begun t) served.sent

ruled : (N : Network) (t v : ℕ) (s s' : State) → Turn N t v s s' → Ruled N t v s s'
unfolding idle begun
ruled N t v s s' (no_start n w a) = record {
  served = idle (s.waiting v);
  rule = subst (Rule t (s.waiting v) (idle (s.waiting v))) (sym (no-start-test N v t n)) (nothing refl);
  waiting = w;
  air = a ∙ sym (append-nil (s.air v));
}
ruled N t v s s' (unused S late w a) = record {
  served = idle (s.waiting v);
  rule = subst (Rule t (s.waiting v) (idle (s.waiting v))) (sym (start_test N v t S)) (waste (All-imp (λ f i. omega (arith, i)) late) refl);
  waiting = w;
  air = a ∙ sym (append-nil (s.air v));
}
ruled N t v s s' (sends S front f back e h old w a) = record {
  served = record { sent = f ∷ []; kept = front ++ back };
  rule = subst (Rule t (s.waiting v) (record { sent = f ∷ []; kept = front ++ back })) (sym (start_test N v t S)) (send front f back e (omega (arith, h)) (All-imp (λ g i. omega (arith, i)) old) refl);
  waiting = w;
  air = a;
}

-- the oracle's answer for a turn
pub answer : (N : Network) (t v : ℕ) (s s' : State) → Turn N t v s s' → ℕ
answer N t v s s' T = place (ruled N t v s s' T).rule

pub record Answered (N : Network) (t v : ℕ) (s s' : State) (k : ℕ) : Type 0 where
  pub waiting : s'.waiting v ≡ (serve (is_start N v t) k t (s.waiting v)).kept
  pub air : s'.air v ≡ s.air v ++ map (begun t) (serve (is_start N v t) k t (s.waiting v)).sent

pub answered : (N : Network) (t v : ℕ) (s s' : State) (T : Turn N t v s s') → Ordered (s.waiting v) → Answered N t v s s' (answer N t v s s' T)
unfolding answer
answered N t v s s' T o =
    let r : Ruled N t v s s' = ruled N t v s s' T in
    let is : r.served ≡ serve (is_start N v t) (place r.rule) t (s.waiting v) = rule-serve t (is_start N v t) (s.waiting v) r.served r.rule o in
    record {
      waiting = r.waiting ∙ ap (λ (x : Served). x.kept) is;
      air = r.air ∙ ap (λ (x : Served). s.air v ++ map (begun t) x.sent) is;
    }

rule-turn : (N : Network) (t v : ℕ) (s s' : State) (r : Served) (b : Bool) → is_start N v t ≡ b → Rule t (s.waiting v) r b
    → s'.waiting v ≡ r.kept → s'.air v ≡ s.air v ++ map (begun t) r.sent → Turn N t v s s'
unfolding idle begun
rule-turn N t v s s' r _ e (nothing d) w a =
    no_start (test-no-start N v t e) (w ∙ ap (λ (x : Served). x.kept) d) (a ∙ ap (λ (x : Served). s.air v ++ map (begun t) x.sent) d ∙ append-nil (s.air v))
rule-turn N t v s s' r _ e (waste late d) w a =
    unused (test-start N v t e) late (w ∙ ap (λ (x : Served). x.kept) d) (a ∙ ap (λ (x : Served). s.air v ++ map (begun t) x.sent) d ∙ append-nil (s.air v))
rule-turn N t v s s' r _ e (send front f back is h old d) w a =
    sends (test-start N v t e) front f back is h old (w ∙ ap (λ (x : Served). x.kept) d) (a ∙ ap (λ (x : Served). s.air v ++ map (begun t) x.sent) d)

pub serve-turn : (N : Network) (pick : ℕ → ℕ → ℕ) (t v : ℕ) (s : State) → Ordered (s.waiting v) → Turn N t v s (serve_all N pick t s)
unfolding serve_all
serve-turn N pick t v s o = rule-turn N t v s (serve_all N pick t s) (serve (is_start N v t) (pick t v) t (s.waiting v)) (is_start N v t) refl
    (serve-rule t (pick t v) (is_start N v t) (s.waiting v) o) refl refl
