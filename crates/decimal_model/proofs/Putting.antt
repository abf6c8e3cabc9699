-- A number put in decimal, four digits at a time, and its digits counted. Assumes nothing.
use mathlib.Core.Path.{◌≡◌, ap, sym, ◌∙◌}
use mathlib.Core.List.{List, [], ◌∷◌, ◌++◌, append_assoc}
use Prim.Native.Nat.{ℕ, zero, suc, ◌+◌, ◌*◌, ◌/◌, ◌%◌, ◌^◌, ◌≤◌, ◌<◌}
use native.Mathlib.Nat.{pow-suc, pow-le-pow_right}
use native.Mathlib.Omega.{arith}
use lib.ListN.{length, set, length-append}
use lib.Seq.{sets}
use Rattle.buffer.proofs.Putting.{sets-before}
use Rattle.decimal_model.specs.Decimal.{decimal}
use Rattle.decimal_model.specs.Inner.{four}
use Rattle.decimal_model.proofs.Writing.{decimal-small, decimal_step, decimal-step-length}

-- the last two digits behind the others
decimal-two : (n : ℕ) → 100 ≤ n → decimal n ≡ decimal (n / 100) ++ (48 + n / 10 % 10) ∷ (48 + n % 10) ∷ []
decimal-two n h =
    let z : n / 10 / 10 ≡ n / 100 = omega arith in
    rw (decimal_step n (omega arith), decimal_step (n / 10) (omega arith), z)
    (append_assoc (decimal (n / 100)) ((48 + n / 10 % 10) ∷ []) ((48 + n % 10) ∷ []))

-- all of four digits
decimal-all-four : (n : ℕ) → 1000 ≤ n → n < 10000 → decimal n ≡ four n
unfolding four
decimal-all-four n l h =
    let z : n / 100 / 10 ≡ n / 1000 = omega arith in
    rw (decimal-two n (omega arith), decimal_step (n / 100) (omega arith), z, decimal-small (n / 1000) (omega arith))

-- the last four digits behind the others
decimal-four : (n : ℕ) → 10000 ≤ n → decimal n ≡ decimal (n / 10000) ++ four (n % 10000)
unfolding four
decimal-four n h =
    let z : n / 100 / 100 ≡ n / 10000 = omega arith in
    let a : n / 100 / 10 % 10 ≡ n % 10000 / 1000 = omega arith in
    let b : n / 100 % 10 ≡ n % 10000 / 100 % 10 = omega arith in
    let c : n / 10 % 10 ≡ n % 10000 / 10 % 10 = omega arith in
    let d : n % 10 ≡ n % 10000 % 10 = omega arith in
    rw (decimal-two n (omega arith), decimal-two (n / 100) (omega arith), z, a, b, c, d)
    (append_assoc (decimal (n / 10000)) _ _)

-- how many digits there are: one, one more than the largest power of ten that is not above n says, or four more than of n / 10000
pub length-one : (n : ℕ) → n < 10 → 1 ≡ length (decimal n)
length-one n h = rw (decimal-small n h)

pub length-power : (k n : ℕ) → 10 ^ k ≤ n → n < 10 * 10 ^ k → k + 1 ≡ length (decimal n)
length-power zero n l h = length-one n (omega arith)
length-power (suc k) n l h =
    let p = pow-suc 10 k in
    let z : 0 < 10 = omega arith in
    let o : 1 ≤ suc k = omega arith in
    let ten : 10 ^ 1 ≤ 10 ^ suc k = pow-le-pow_right z o in
    omega (arith, decimal-step-length n (omega arith), length-power k (n / 10) (omega arith) (omega arith))

-- the same for the check of `decimal::digits_of`, which compares its results with the number of digits, whatever the body is
pub length_small : (n : ℕ) → n < 10 → length (decimal n) ≡ 1
length_small n h = sym (length-one n h)

pub length_by_power : (k n : ℕ) → 10 ^ k ≤ n → n < 10 * 10 ^ k → length (decimal n) ≡ k + 1
length_by_power k n l h = sym (length-power k n l h)

pub length_more : (n : ℕ) → 10000 ≤ n → length (decimal n) ≡ length (decimal (n / 10000)) + 4
unfolding four
length_more n h = ap length (decimal-four n h) ∙ length-append (decimal (n / 10000)) (four (n % 10000))

-- one digit, two and three, each put behind the one before
pub put_one : (e out : List ℕ) (at n : ℕ) → n < 10 → out ≡ set e (at + 0) (48 + n) → out ≡ sets e at (decimal n)
put_one e out at n h p = let z : at + 0 ≡ at = omega arith in p ∙ rw (z, decimal-small n h)

pub put_two : (e f out : List ℕ) (at n : ℕ) → 10 ≤ n → n < 100 → f ≡ set e (at + 0) (48 + n / 10) → out ≡ set f (at + 1) (48 + n % 10)
    → out ≡ sets e at (decimal n)
put_two e f out at n l h p q =
    let z : at + 0 ≡ at = omega arith in
    let y : at + 1 ≡ suc at = omega arith in
    q ∙ rw (p, z, y, decimal_step n l, decimal-small (n / 10) (omega arith))

pub put_three : (e f g out : List ℕ) (at n : ℕ) → 100 ≤ n → n < 1000 → f ≡ set e (at + 0) (48 + n / 100)
    → g ≡ set f (at + 1) (48 + n / 10 % 10) → out ≡ set g (at + 2) (48 + n % 10) → out ≡ sets e at (decimal n)
put_three e f g out at n l h p q r =
    let z : at + 0 ≡ at = omega arith in
    let y : at + 1 ≡ suc at = omega arith in
    let x : at + 2 ≡ suc (suc at) = omega arith in
    r ∙ rw (q, p, z, y, x, decimal-two n l, decimal-small (n / 100) (omega arith))

-- four digits, zeros in front included
pub put-digits : (e f g h out : List ℕ) (at k n : ℕ) → f ≡ set e (at + k) (48 + n / 100 / 10)
    → g ≡ set f (at + (k + 1)) (48 + n / 100 % 10) → h ≡ set g (at + (k + 2)) (48 + n % 100 / 10)
    → out ≡ set h (at + (k + 3)) (48 + n % 100 % 10) → out ≡ sets e (at + k) (four n)
unfolding four
put-digits e f g h out at k n p q r s =
    let y : at + (k + 1) ≡ suc (at + k) = omega arith in
    let x : at + (k + 2) ≡ suc (suc (at + k)) = omega arith in
    let w : at + (k + 3) ≡ suc (suc (suc (at + k))) = omega arith in
    let a : n / 100 / 10 ≡ n / 1000 = omega arith in
    let c : n % 100 / 10 ≡ n / 10 % 10 = omega arith in
    let d : n % 100 % 10 ≡ n % 10 = omega arith in
    s ∙ rw (r, q, p, y, x, w, a, c, d)

-- a number of four digits
pub put_four : (e out : List ℕ) (at n : ℕ) → 1000 ≤ n → n < 10000 → out ≡ sets e (at + 0) (four n) → out ≡ sets e at (decimal n)
put_four e out at n l h p = let z : at + 0 ≡ at = omega arith in p ∙ rw (z, decimal-all-four n l h)

-- the last four digits, put as many places behind a position as there are others, leave those to put
pub put-more : (e f : List ℕ) (at k n : ℕ) → 10000 ≤ n → f ≡ sets e (at + k) (four (n % 10000)) → k ≡ length (decimal (n / 10000))
    → sets f at (decimal (n / 10000)) ≡ sets e at (decimal n)
put-more e f at k n h p q = rw (p, q, decimal-four n h) (sets-before e at (decimal (n / 10000)) (four (n % 10000)))
