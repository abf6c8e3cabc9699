-- Both directions, computed in one table: small texts and the numbers that they spell, and numbers and their texts in decimal. Assumes
-- nothing.
use Rattle.std.specs.Prelude.{◌≡◌, [], ◌∷◌, Some, None}
use Rattle.decimal_model.specs.Ascii.{ascii}
use Rattle.decimal_model.specs.Number.{number_in}
use Rattle.decimal_model.specs.Decimal.{decimal}

pub record Examples : Type 0 where
  pub zero : number_in (ascii "0") ≡ Some 0
  pub nine : number_in (ascii "9") ≡ Some 9
  pub ten : number_in (ascii "10") ≡ Some 10
  pub rate : number_in (ascii "4095") ≡ Some 4095
  pub largest : number_in (ascii "9999") ≡ Some 9999
  pub five_digits : number_in (ascii "10000") ≡ None
  pub empty : number_in [] ≡ None
  pub leading_zero : number_in (ascii "08") ≡ None
  pub two_zeros : number_in (ascii "00") ≡ None
  pub letter : number_in (ascii "0x") ≡ None
  pub sign : number_in (ascii "-1") ≡ None
  pub space : number_in (ascii " 1") ≡ None
  -- the bytes before 0 and behind 9, and the largest byte
  pub slash : number_in (47 ∷ []) ≡ None
  pub colon : number_in (58 ∷ []) ≡ None
  pub last : number_in (255 ∷ []) ≡ None
  -- written: one digit, two, six with a zero inside, and the largest number of 64 bits
  pub written_zero : decimal 0 ≡ ascii "0"
  pub written_nine : decimal 9 ≡ ascii "9"
  pub written_ten : decimal 10 ≡ ascii "10"
  pub written_six : decimal 571904 ≡ ascii "571904"
  pub written_largest : decimal 18446744073709551615 ≡ ascii "18446744073709551615"
