-- A number in decimal (document 01, 'The printed plan'). Assumes nothing: these are definitions.
use Rattle.std.specs.Prelude.{ℕ, zero, suc, ◌+◌, ◌/◌, ◌%◌, Bool, true, false, List, [], ◌∷◌, ◌++◌, ltb}

-- the digits of n, which are at most f + 1: the one where n is small, that is, below 10; else those of n / 10, and the last behind them.
-- (`small` is an argument and no test inside, so that a closed call computes no further than its digits.)
unfoldable pub digits_by : ℕ → Bool → ℕ → List ℕ
digits_by zero true n = (48 + n) ∷ []
digits_by zero false n = []
digits_by (suc f) true n = (48 + n) ∷ []
digits_by (suc f) false n = digits_by f (ltb (n / 10) 10) (n / 10) ++ (48 + n % 10) ∷ []

-- n in decimal, in ASCII
unfoldable pub decimal : ℕ → List ℕ
decimal n = digits_by n (ltb n 10) n
