-- Laws of counts and of lists (specs/Counting). Assumes nothing.
use mathlib.Core.Path.{◌≡◌, refl, ap, ap₂}
use mathlib.Core.Bool.{Bool, true, false, cond, not, ◌&&◌}
use mathlib.Core.List.{List, [], ◌∷◌, ◌++◌, map}
use Prim.Native.Nat.{ℕ, zero, suc, ◌+◌, ◌*◌, ◌<◌}
use native.Mathlib.Nat.{le_refl}
use native.Mathlib.Omega.{arith}
use lib.Dec.{ltb}
use borrow.Author.Tests.{lt-ltb}
use lib.ListN.{length, replicate}
use Rattle.network.specs.Counting.{total, bit, count, keep, join, All, none, each}

module _ {A : Type 0} where
  pub count-append : (p : A → Bool) (l m : List A) → count p (l ++ m) ≡ count p l + count p m
  unfolding count
  count-append p [] m = omega arith
  count-append p (a ∷ l) m = omega (arith, count-append p l m)

  pub count-all : (p : A → Bool) (l : List A) → All (λ a. p a ≡ true) l → count p l ≡ length l
  unfolding count bit
  count-all p [] none = refl
  count-all p (a ∷ l) (each h k) = rw h (omega (arith, count-all p l k))

  pub count_none : (p : A → Bool) (l : List A) → All (λ a. p a ≡ false) l → count p l ≡ 0
  unfolding count bit
  count_none p [] none = refl
  count_none p (a ∷ l) (each h k) = rw h (omega (arith, count_none p l k))

  -- where every one of the list has the same answer
  pub count_same : (p : A → Bool) (b : Bool) (l : List A) → All (λ a. p a ≡ b) l → count p l ≡ bit b * length l
  unfolding bit
  count_same p true l h = omega (arith, count-all p l h)
  count_same p false l h = omega (arith, count_none p l h)

  pub count-keep-split : (p q : A → Bool) (l : List A) → count p (keep q l) + count p (keep (λ a. not (q a)) l) ≡ count p l
  unfolding count keep
  count-keep-split p q [] = refl
  count-keep-split p q (a ∷ l) = go (q a) (count-keep-split p q l)
    where
      go : (b : Bool) → count p (keep q l) + count p (keep (λ a. not (q a)) l) ≡ count p l
          → count p (cond b (a ∷ keep q l) (keep q l)) + count p (cond (not b) (a ∷ keep (λ a. not (q a)) l) (keep (λ a. not (q a)) l)) ≡ bit (p a) + count p l
      go true e = omega arith
      go false e = omega arith

  -- to count among those that are kept
  pub count-keep : (p q : A → Bool) (l : List A) → count p (keep q l) ≡ count (λ a. q a && p a) l
  unfolding count keep bit
  count-keep p q [] = refl
  count-keep p q (a ∷ l) = go (q a) (count-keep p q l)
    where
      go : (b : Bool) → count p (keep q l) ≡ count (λ a. q a && p a) l → count p (cond b (a ∷ keep q l) (keep q l)) ≡ bit (b && p a) + count (λ a. q a && p a) l
      go true e = omega arith
      go false e = omega arith

  pub count-join : (p : A → Bool) (n : ℕ) (f : ℕ → List A) → count p (join n f) ≡ total (λ w. count p (f w)) n
  unfolding join total count
  count-join p zero f = refl
  count-join p (suc n) f = omega (arith, count-append p (join n f) (f n), count-join p n f)

  -- two tests that agree on each of the list
  pub count-ap : (p q : A → Bool) (l : List A) → All (λ a. p a ≡ q a) l → count p l ≡ count q l
  unfolding count
  count-ap p q [] none = refl
  count-ap p q (a ∷ l) (each h k) = ap₂ (λ (b : Bool) (n : ℕ). bit b + n) h (count-ap p q l k)

  pub count-replicate : (p : A → Bool) (n : ℕ) (a : A) → count p (replicate n a) ≡ bit (p a) * n
  unfolding count
  count-replicate p zero a = omega arith
  count-replicate p (suc n) a = omega (arith, count-replicate p n a)

  -- ---- each of a list
  pub All-append : {P : A → Type 0} {l m : List A} → All P l → All P m → All P (l ++ m)
  All-append none k = k
  All-append (each h t) k = each h (All-append t k)

  pub All-imp : {P Q : A → Type 0} {l : List A} → ((a : A) → P a → Q a) → All P l → All Q l
  All-imp f none = none
  All-imp f (each {a = a} h t) = each (f a h) (All-imp f t)

  pub All-both : {P Q : A → Type 0} {l : List A} → All P l → All Q l → All (λ a. P a × Q a) l
  All-both none none = none
  All-both (each h t) (each k r) = each (h, k) (All-both t r)

  pub All-keep : {P : A → Type 0} (q : A → Bool) {l : List A} → All P l → All (λ a. P a × (q a ≡ true)) (keep q l)
  unfolding keep
  All-keep q none = none
  All-keep {P} q (each {a = a} {l = l} h t) = go (q a) refl (All-keep q t)
    where
      go : (b : Bool) → q a ≡ b → All (λ a. P a × (q a ≡ true)) (keep q l) → All (λ a. P a × (q a ≡ true)) (cond b (a ∷ keep q l) (keep q l))
      go true e k = each (h, e) k
      go false e k = k

  pub All-join : {P : A → Type 0} (n : ℕ) (f : ℕ → List A) → ((w : ℕ) → w < n → All P (f w)) → All P (join n f)
  unfolding join
  All-join zero f h = none
  All-join (suc n) f h = All-append (All-join n f (λ w k. h w (omega arith))) (h n (le_refl (suc n)))

  pub All-replicate : (P : A → Type 0) (n : ℕ) (a : A) → P a → All P (replicate n a)
  All-replicate P zero a h = none
  All-replicate P (suc n) a h = each h (All-replicate P n a h)

  pub All-true : {P : A → Type 0} → ((a : A) → P a) → (l : List A) → All P l
  All-true f [] = none
  All-true f (a ∷ l) = each (f a) (All-true f l)

  -- each of a list counts among those that are no greater
  pub All-counted : (key : A → ℕ) (l : List A) → All (λ a. 0 < count (λ b. ltb (key b) (suc (key a))) l) l
  unfolding count bit
  All-counted key [] = none
  All-counted key (a ∷ l) = each {a = a} (rw (lt-ltb (key a) (suc (key a)) (le_refl (suc (key a)))) (omega arith)) (All-imp (λ b h. omega arith) (All-counted key l))

module _ {A B : Type 0} where
  pub count_map : (p : B → Bool) (f : A → B) (l : List A) → count p (map f l) ≡ count (λ a. p (f a)) l
  unfolding count
  count_map p f [] = refl
  count_map p f (a ∷ l) = ap (λ (n : ℕ). bit (p (f a)) + n) (count_map p f l)

  pub All-map : {P : B → Type 0} (f : A → B) {l : List A} → All (λ a. P (f a)) l → All P (map f l)
  All-map f none = none
  All-map f (each h t) = each h (All-map f t)
