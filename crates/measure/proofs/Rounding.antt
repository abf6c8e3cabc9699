-- Quotients rounded up: rounded_up a b is the fewest b that hold a. Assumes nothing.
use mathlib.Core.Path.{◌≡◌, sym}
use Prim.Native.Nat.{ℕ, suc, ◌+◌, ◌-◌, ◌*◌, ◌/◌, ◌%◌, ◌≤◌, ◌<◌, min}
use native.Mathlib.Omega.{arith}
use native.Mathlib.Nat.{div-add-mod', mod-lt, div-lt_iff_lt-mul, suc-mul, le_antisymm, div-zero, mul-le-mul_right}
use native.Mathlib.Decide.{dec_le}
use Rattle.std.specs.Int.{div_ceil}
use Rattle.measure.specs.Measures.{rounded_up}

-- so many b hold a
pub rounded-up-holds : (a b : ℕ) → 0 < b → a ≤ rounded_up a b * b
unfolding rounded_up
rounded-up-holds a b p = omega (arith, div-add-mod' (a + (b - 1)) b, mod-lt (a + (b - 1)) p)

-- and no fewer do
pub rounded-up-least : (a b j : ℕ) → 0 < b → a ≤ j * b → rounded_up a b ≤ j
unfolding rounded_up
rounded-up-least a b j p h =
    let lt : (a + (b - 1)) / b < suc j = (div-lt_iff_lt-mul p).1 (omega (arith, suc-mul j b)) in
    omega arith

-- a larger number rounds up to no less
pub rounded-up-grows : (a c b : ℕ) → 0 < b → a ≤ c → rounded_up a b ≤ rounded_up c b
rounded-up-grows a c b p h =
    rounded-up-least a b (rounded_up c b) p (omega (arith, rounded-up-holds c b p))

-- it is the one number with both properties
pub rounded-up-only : (a b k : ℕ) → 0 < b → a ≤ k * b → k * b < a + b → rounded_up a b ≡ k
rounded-up-only a b k p holds least =
    le_antisymm (rounded-up-least a b k p holds)
    (let q = rounded_up a b in
    let f : (q < k → ⊥) = λ l. omega (arith, rounded-up-holds a b p, mul-le-mul_right b l) in
    omega arith)

pub rounded-up-by-zero : (a : ℕ) → rounded_up a 0 ≡ 0
unfolding rounded_up
rounded-up-by-zero a = div-zero _

-- the library rounds up to the same number
pub rounded-up-ceil : (a b : ℕ) → 0 < b → div_ceil a b ≡ rounded_up a b
rounded-up-ceil a b p = by (dec_le 1 (a % b)) where
  by : Dec (1 ≤ a % b) → div_ceil a b ≡ rounded_up a b
  by (yes h) =
      let m : div_ceil a b ≡ a / b + 1 = omega arith in
      rw m (sym (rounded-up-only a b (a / b + 1) p (omega (arith, div-add-mod' a b, mod-lt a p)) (omega (arith, div-add-mod' a b))))
  by (no h) =
      let m : div_ceil a b ≡ a / b = omega arith in
      rw m (sym (rounded-up-only a b (a / b) p (omega (arith, div-add-mod' a b)) (omega (arith, div-add-mod' a b))))

-- the quotient by none and by some, as the check of `number::rounded_up` compares its results, whatever the body is
pub up_by_none : (a b : ℕ) → b ≡ 0 → rounded_up a b ≡ 0
up_by_none a b z = rw z (rounded-up-by-zero a)

pub up_by_some : (a b : ℕ) → 0 < b → rounded_up a b ≡ a / b + min 1 (a % b)
up_by_some a b p = sym (rounded-up-ceil a b p)
