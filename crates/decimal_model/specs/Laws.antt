-- What holds of numbers in decimal, for the layers above. Assumes nothing: these are statements; proofs/Writing proves them.
use Rattle.std.specs.Prelude.{◌≡◌, true, false, List, ℕ, ◌≤◌, ◌<◌, ◌^◌, length, Some}
use Rattle.decimal_model.specs.Number.{digits, zero_led, spelled, number_in}
use Rattle.decimal_model.specs.Decimal.{decimal}

-- a number in decimal is digits alone, at least one, has no leading zero but 0 itself, and spells that number
pub record Written (n : ℕ) : Type 0 where
  pub some : 1 ≤ length (decimal n)
  pub only_digits : digits (decimal n) ≡ true
  pub no_leading_zero : zero_led (decimal n) ≡ false
  pub spells : spelled (decimal n) ≡ n

abbrev pub WrittenInDecimal : Type 0
WrittenInDecimal = (n : ℕ) → Written n

-- and no other text does all that
abbrev pub OneWriting : Type 0
OneWriting = (t : List ℕ) → 1 ≤ length t → digits t ≡ true → zero_led t ≡ false → t ≡ decimal (spelled t)

-- so two numbers are never written alike
abbrev pub WrittenApart : Type 0
WrittenApart = (m n : ℕ) → decimal m ≡ decimal n → m ≡ n

-- a number of up to four digits is read back as itself
abbrev pub ReadBack : Type 0
ReadBack = (n : ℕ) → n < 10000 → number_in (decimal n) ≡ Some n

-- a number of 64 bits has 1 to 20 digits
abbrev pub AtMostTwenty : Type 0
AtMostTwenty = (n : ℕ) → n < 2 ^ 64 → (1 ≤ length (decimal n)) × (length (decimal n) ≤ 20)
