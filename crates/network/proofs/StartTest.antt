-- The test `is_start` (specs/Oracle) answers exactly the question `Start` (specs/Run), in any network. Assumes nothing.
use mathlib.Core.Path.{◌≡◌, refl, sym, ap, ap₂, ◌∙◌, subst}
use mathlib.Core.Bool.{Bool, true, false, not, ◌&&◌, ◌||◌, false≢true, or-true, and-eq-true_iff}
use Prim.Native.Nat.{ℕ, zero, suc, ◌+◌, ◌*◌, ◌-◌, ◌/◌, ◌%◌, ◌≤◌, ◌<◌}
use native.Mathlib.Nat.{le_refl, div-add-mod', mul-mod_left}
use native.Mathlib.Decide.{ℕ_discrete}
use native.Mathlib.Omega.{arith}
use lib.Dec.{eqb, leb}
use lib.Arith.{digits_mod}
use borrow.Author.Tests.{not-true, eqb-true, eqb-false, eq-eqb, ne_eqb, leb-true, le-leb}
use Rattle.network.specs.Counting.{some_below}
use Rattle.network.specs.Model.{Network}
use Rattle.network.specs.Run.{Start}
use Rattle.network.specs.Oracle.{is_start}

-- ---- some number below n

record Found (n : ℕ) (p : ℕ → Bool) : Type 0 where
  which : ℕ
  less : which < n
  passes : p which ≡ true

found : (n : ℕ) (p : ℕ → Bool) → some_below n p ≡ true → Found n p
unfolding some_below
found zero p h = absurd (false≢true h)
found (suc n) p h = by (p n) refl h (found n p)
  where
    by : (b : Bool) → p n ≡ b → b || some_below n p ≡ true → (some_below n p ≡ true → Found n p) → Found (suc n) p
    by true e h go = record { which = n; less = le_refl (suc n); passes = e }
    by false e h go = let f : Found n p = go h in record { which = f.which; less = omega (arith, f.less); passes = f.passes }

finds : (n : ℕ) (p : ℕ → Bool) (j : ℕ) → j < n → p j ≡ true → some_below n p ≡ true
unfolding some_below
finds zero p j h e = absurd (omega arith)
finds (suc n) p j h e = by (ℕ_discrete j n) (λ k. finds n p j k e)
  where
    by : Dec (j ≡ n) → (j < n → some_below n p ≡ true) → p n || some_below n p ≡ true
    by (yes d) go = rw (subst (λ (i : ℕ). p i ≡ true) d e)
    by (no d) go = rw (go (omega (arith, d))) (or-true (p n))

pub below-ap : (n : ℕ) (p q : ℕ → Bool) → ((j : ℕ) → j < n → p j ≡ q j) → some_below n p ≡ some_below n q
unfolding some_below
below-ap zero p q h = refl
below-ap (suc n) p q h = ap₂ ◌||◌ (h n (le_refl (suc n))) (below-ap n p q (λ j k. h j (omega arith)))

-- ---- symbol n is the symbol `first` of some interval

module _ (B : ℕ) where
  later : ℕ → ℕ → Bool
  later first n = leb first n && eqb ((n - first) % B) 0

  later-true : (first n : ℕ) → later first n ≡ true → n ≡ (n - first) / B * B + first
  unfolding later
  later-true first n h =
      let le : first ≤ n = leb-true first n ((and-eq-true_iff (leb first n) _).0 h).0 in
      let rest : (n - first) % B ≡ 0 = eqb-true _ _ ((and-eq-true_iff (leb first n) _).0 h).1 in
      omega (arith, rest, div-add-mod' (n - first) B)

  is_later : (first n q : ℕ) → n ≡ q * B + first → later first n ≡ true
  unfolding later
  is_later first n q e =
      let rest : n - first ≡ q * B = omega arith in
      rw (le-leb first n (omega arith), rest, mul-mod_left q B)

  -- where `first` lies within an interval
  pub later-mod : (first n : ℕ) → first < B → leb first n && eqb ((n - first) % B) 0 ≡ eqb (n % B) first
  unfolding later
  later-mod first n lt = by (later first n) refl
    where
      by : (b : Bool) → later first n ≡ b → b ≡ eqb (n % B) first
      by true e = sym (eq-eqb (n % B) first (ap (λ (k : ℕ). k % B) (later-true first n e) ∙ digits_mod ((n - first) / B) lt))
      by false e = sym (ne_eqb (n % B) first (λ d. false≢true (sym e ∙ is_later first n (n / B) (omega (arith, div-add-mod' n B, d)))))

-- ---- starts

pub test-start : (N : Network) (v n : ℕ) → is_start N v n ≡ true → Start N v n
unfolding is_start later
test-start N v n h =
    let f = found (N.holds v) (λ j. later N.interval (N.offset v + j * N.exchange) n) ((and-eq-true_iff (not (eqb v N.sink)) _).0 h).1 in
    record {
      linked = eqb-false v N.sink (not-true (eqb v N.sink) ((and-eq-true_iff (not (eqb v N.sink)) _).0 h).0);
      q = (n - (N.offset v + f.which * N.exchange)) / N.interval;
      j = f.which;
      held = omega (arith, f.less);
      begins = omega (arith, later-true N.interval (N.offset v + f.which * N.exchange) n f.passes);
    }

pub start_test : (N : Network) (v n : ℕ) → Start N v n → is_start N v n ≡ true
unfolding is_start later
start_test N v n S = rw (ne_eqb v N.sink S.linked)
    (finds (N.holds v) (λ j. later N.interval (N.offset v + j * N.exchange) n) S.j (omega (arith, S.held)) (is_later N.interval (N.offset v + S.j * N.exchange) n S.q (omega (arith, S.begins))))

pub no-start-test : (N : Network) (v n : ℕ) → ¬ Start N v n → is_start N v n ≡ false
no-start-test N v n S = by (is_start N v n) refl
  where
    by : (b : Bool) → is_start N v n ≡ b → b ≡ false
    by true e = absurd (S (test-start N v n e))
    by false e = refl

pub test-no-start : (N : Network) (v n : ℕ) → is_start N v n ≡ false → ¬ Start N v n
test-no-start N v n e S = false≢true (sym e ∙ start_test N v n S)
