-- The sums, counts and lists that the run and its claim are written with. Assumes nothing.
use Rattle.std.specs.Prelude.{Bool, true, false, cond, ◌||◌, List, [], ◌∷◌, ◌++◌, ℕ, zero, suc, ◌+◌}

-- f 0 + .. + f (n − 1)
unfoldable pub total : (ℕ → ℕ) → ℕ → ℕ
total f zero = 0
total f (suc n) = total f n + f n

-- 1 for yes, 0 for no
unfoldable pub bit : Bool → ℕ
bit true = 1
bit false = 0

-- does some number below n pass the test?
unfoldable pub some_below : ℕ → (ℕ → Bool) → Bool
some_below zero p = false
some_below (suc n) p = p n || some_below n p

-- how many of a list pass the test
unfoldable pub count {ℓ} : {A : Type ℓ} → (A → Bool) → List A → ℕ
count p [] = 0
count p (a ∷ l) = bit (p a) + count p l

-- those of a list that pass the test, in their order
unfoldable pub keep {ℓ} : {A : Type ℓ} → (A → Bool) → List A → List A
keep p [] = []
keep p (a ∷ l) = cond (p a) (a ∷ keep p l) (keep p l)

-- the lists f 0 to f (n − 1), one behind the other
unfoldable pub join {ℓ} : {A : Type ℓ} → ℕ → (ℕ → List A) → List A
join zero f = []
join (suc n) f = join n f ++ f n

-- P holds of each of a list
pub data All {A : Type 0} (P : A → Type 0) : List A → Type 0 where
  none : All P []
  each : {a : A} {l : List A} → P a → All P l → All P (a ∷ l)
