-- The number that bytes spell (document 01, 'Rows of settings'). Assumes nothing: these are definitions.
use Rattle.std.specs.Prelude.{ℕ, ◌+◌, ◌-◌, ◌*◌, Bool, true, false, not, cond, ◌&&◌, List, [], ◌∷◌, leb, eqb, length, Option, Some, None}

-- b is an ASCII digit, 0 to 9
abbrev pub digit : ℕ → Bool
digit b = leb 48 b && leb b 57

-- every byte is a digit
unfoldable pub digits : List ℕ → Bool
digits [] = true
digits (b ∷ bs) = digit b && digits bs

-- the first byte is a zero and others follow it
unfoldable pub zero_led : List ℕ → Bool
zero_led [] = false
zero_led (b ∷ []) = false
zero_led (b ∷ c ∷ cs) = eqb b 48

-- "1 to 4", and "no leading zero except 0 itself"
unfoldable pub shaped : List ℕ → Bool
shaped s = leb 1 (length s) && leb (length s) 4 && not (zero_led s)

-- "Values are 1 to 4 digits, no leading zero except 0 itself"
unfoldable pub readable : List ℕ → Bool
readable s = shaped s && digits s

-- the number that digits spell after those that gave v
unfoldable pub spelled_after : ℕ → List ℕ → ℕ
spelled_after v [] = v
spelled_after v (b ∷ bs) = spelled_after (10 * v + (b - 48)) bs

-- the number that digits spell
abbrev pub spelled : List ℕ → ℕ
spelled s = spelled_after 0 s

-- the number that all of these bytes spell, if they are readable
unfoldable pub number_in : List ℕ → Option ℕ
number_in s = cond (readable s) (Some (spelled s)) None
