-- One turn of a link (`serve` of specs/Oracle): nothing is lost, the oldest is sent, and so the number of waiting frames follows the
-- starts. Assumes nothing.
use mathlib.Core.Path.{◌≡◌, refl, ◌∙◌}
use mathlib.Core.Bool.{Bool, true, false, cond}
use mathlib.Core.List.{List, [], ◌∷◌, ◌++◌}
use Prim.Native.Nat.{ℕ, zero, suc, ◌+◌, ◌-◌, ◌≤◌, ◌<◌}
use native.Mathlib.Omega.{arith}
use lib.Dec.{eqb, ltb}
use borrow.Author.Tests.{ltb-false, eqb-true, lt-ltb, le-ltb}
use Rattle.network.specs.Counting.{bit, count, All, none, each}
use Rattle.network.specs.Model.{Frame}
use Rattle.network.specs.Oracle.{idle, behind, take_oldest, serve}
use Rattle.network.proofs.Lists.{count-append, count_none, All-append, All-imp}

-- did the frame come before symbol c?
unfoldable pub came_before : ℕ → Frame → Bool
came_before c f = ltb f.came c

-- in the order in which they came
pub data Ordered : List Frame → Type 0 where
  empty : Ordered []
  first : {f : Frame} {q : List Frame} → All (λ g. f.came ≤ g.came) q → Ordered q → Ordered (f ∷ q)

pub ordered-append : {q r : List Frame} (t : ℕ) → Ordered q → All (λ f. f.came < t) q → All (λ f. f.came ≡ t) r → Ordered (q ++ r)
ordered-append {r = r} t empty none k = go k
  where
    go : {r : List Frame} → All (λ f. f.came ≡ t) r → Ordered r
    go none = empty
    go (each {a = f} e s) = first {f = f} (All-imp (λ g i. omega arith) s) (go s)
ordered-append t (first {f = f} a o) (each h b) k = first {f = f} (All-append a (All-imp (λ g i. omega arith) k)) (ordered-append t o b k)

module _ (p : Frame → Bool) where
  take_count : (k : ℕ) (f : Frame) (q : List Frame) → count p (take_oldest k f q).sent + count p (take_oldest k f q).kept ≡ bit (p f) + count p q
  unfolding take_oldest count behind
  take_count zero f q = omega arith
  take_count (suc k) f [] = omega arith
  take_count (suc k) f (g ∷ q) = go (eqb g.came f.came) (take_count k g q)
    where
      go : (b : Bool) → count p (take_oldest k g q).sent + count p (take_oldest k g q).kept ≡ bit (p g) + count p q
          → count p (cond b (behind f (take_oldest k g q)) (record { sent = f ∷ []; kept = g ∷ q })).sent
          + count p (cond b (behind f (take_oldest k g q)) (record { sent = f ∷ []; kept = g ∷ q })).kept ≡ bit (p f) + (bit (p g) + count p q)
      go true e = omega arith
      go false e = omega arith

  pub serve-count : (b : Bool) (k t : ℕ) (q : List Frame) → count p (serve b k t q).sent + count p (serve b k t q).kept ≡ count p q
  unfolding serve idle count
  serve-count false k t q = omega arith
  serve-count true k t [] = refl
  serve-count true k t (f ∷ q) = go (ltb f.came t)
    where
      go : (b : Bool) → count p (cond b (take_oldest k f q) (idle (f ∷ q))).sent + count p (cond b (take_oldest k f q) (idle (f ∷ q))).kept ≡ bit (p f) + count p q
      go true = take_count k f q
      go false = omega arith

-- what holds of each frame holds of those that go and of those that stay
module _ {P : Frame → Type 0} where
  take_all : (k : ℕ) (f : Frame) (q : List Frame) → P f → All P q → All P (take_oldest k f q).sent × All P (take_oldest k f q).kept
  unfolding take_oldest behind
  take_all zero f q h a = (each h none, a)
  take_all (suc k) f [] h a = (each h none, a)
  take_all (suc k) f (g ∷ q) h (each i a) = go (eqb g.came f.came) (take_all k g q i a)
    where
      go : (b : Bool) → All P (take_oldest k g q).sent × All P (take_oldest k g q).kept
          → All P (cond b (behind f (take_oldest k g q)) (record { sent = f ∷ []; kept = g ∷ q })).sent
          × All P (cond b (behind f (take_oldest k g q)) (record { sent = f ∷ []; kept = g ∷ q })).kept
      go true e = (e.0, each h e.1)
      go false e = (each h none, each i a)

  pub serve-all : (b : Bool) (k t : ℕ) (q : List Frame) → All P q → All P (serve b k t q).sent × All P (serve b k t q).kept
  unfolding serve idle
  serve-all false k t q a = (none, a)
  serve-all true k t [] a = (none, a)
  serve-all true k t (f ∷ q) (each h a) = go (ltb f.came t)
    where
      go : (b : Bool) → All P (cond b (take_oldest k f q) (idle (f ∷ q))).sent × All P (cond b (take_oldest k f q) (idle (f ∷ q))).kept
      go true = take_all k f q h a
      go false = (none, each h a)

take-ordered : (k : ℕ) (f : Frame) (q : List Frame) → All (λ g. f.came ≤ g.came) q → Ordered q → Ordered (take_oldest k f q).kept
unfolding take_oldest behind
take-ordered zero f q a o = o
take-ordered (suc k) f [] a o = o
take-ordered (suc k) f (g ∷ q) (each i a) (first b o) = go (eqb g.came f.came) (take-ordered k g q b o)
  where
    go : (c : Bool) → Ordered (take_oldest k g q).kept → Ordered (cond c (behind f (take_oldest k g q)) (record { sent = f ∷ []; kept = g ∷ q })).kept
    go true r = first (take_all k g q i a).1 r
    go false r = first b o

pub serve-ordered : (b : Bool) (k t : ℕ) (q : List Frame) → Ordered q → Ordered (serve b k t q).kept
unfolding serve idle
serve-ordered false k t q o = o
serve-ordered true k t [] o = o
serve-ordered true k t (f ∷ q) (first a o) = go (ltb f.came t)
  where
    go : (b : Bool) → Ordered (cond b (take_oldest k f q) (idle (f ∷ q))).kept
    go true = take-ordered k f q a o
    go false = first a o

-- The frame that goes came in the same symbol as the first.
pub record Oldest (f : Frame) (l : List Frame) : Type 0 where
  pub which : Frame
  pub alone : l ≡ which ∷ []
  pub age : which.came ≡ f.came

pub take-oldest : (k : ℕ) (f : Frame) (q : List Frame) → Oldest f (take_oldest k f q).sent
unfolding take_oldest behind
take-oldest zero f q = record { which = f; alone = refl; age = refl }
take-oldest (suc k) f [] = record { which = f; alone = refl; age = refl }
take-oldest (suc k) f (g ∷ q) = go (eqb g.came f.came) refl (take-oldest k g q)
  where
    go : (b : Bool) → eqb g.came f.came ≡ b → Oldest g (take_oldest k g q).sent → Oldest f (cond b (behind f (take_oldest k g q)) (record { sent = f ∷ []; kept = g ∷ q })).sent
    go true e o = record { which = o.which; alone = o.alone; age = o.age ∙ eqb-true _ _ e }
    go false e o = record { which = f; alone = refl; age = refl }

take-takes : (c k : ℕ) (f : Frame) (q : List Frame) → count (came_before c) (take_oldest k f q).sent ≡ bit (came_before c f)
unfolding count came_before
take-takes c k f q = let o = take-oldest k f q in rw (o.alone, o.age) (omega arith)

-- Of the frames that came before symbol c, a start takes one where there is one, and none otherwise; those that come in the symbol itself wait.
pub serve-follows : (c : ℕ) (b : Bool) (k t : ℕ) (q r : List Frame) → Ordered q → All (λ f. f.came < t) q → All (λ f. f.came ≡ t) r
    → count (came_before c) (serve b k t (q ++ r)).kept ≡ (count (came_before c) q - bit b) + count (came_before c) r
unfolding serve idle count bit came_before
serve-follows c false k t q r o a n = omega (arith, count-append (came_before c) q r)
serve-follows c true k t [] [] o a n = refl
serve-follows c true k t [] (f ∷ r) o a (each e n) = rw (le-ltb f.came t (omega arith)) (omega arith)
serve-follows c true k t (f ∷ q) r (first b o) (each h a) n = rw (lt-ltb f.came t h) (go (came_before c f) refl (take_count (came_before c) k f (q ++ r)) (take-takes c k f (q ++ r)))
  where
    go : (e : Bool) → came_before c f ≡ e
        → count (came_before c) (take_oldest k f (q ++ r)).sent + count (came_before c) (take_oldest k f (q ++ r)).kept ≡ bit (came_before c f) + count (came_before c) (q ++ r)
        → count (came_before c) (take_oldest k f (q ++ r)).sent ≡ bit (came_before c f)
        → count (came_before c) (take_oldest k f (q ++ r)).kept ≡ (bit (came_before c f) + count (came_before c) q - 1) + count (came_before c) r
    go true e x y = rw e (omega (arith, count-append (came_before c) q r))
    go false e x y = rw e (omega (arith, count-append (came_before c) q r, count_none (came_before c) q (All-imp (λ g i. le-ltb g.came c (omega (arith, ltb-false f.came c e))) b)))
