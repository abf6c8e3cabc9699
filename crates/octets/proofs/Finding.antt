-- Where a byte stands, from a position on. Assumes nothing.
use Rattle.std.proofs.Common.{◌≡◌, refl, true, false, Bool, not, cond, ◌==◌, List, [], ◌∷◌, ℕ, ◌+◌, length, drop, arith, Option, Some, None, Bor, unwrap_or}
use Rattle.std.proofs.lemmas.List.Sums.{prefix_len-le-length}
use Rattle.std.proofs.lemmas.Grind.{common_steps}
use Rattle.std.specs.List.{position, position_or_len}
use Rattle.std.specs.Slice.{IsGetRangeResult}
use Rattle.octets.specs.Bytes.{index_after, index_of}

-- the rest of a text from a position on, nothing from behind the end
pub rest_of : (s : List ℕ) (at : ℕ) (r : Option (Bor (List ℕ))) (none p : Bor (List ℕ)) → none.now ≡ []
    → IsGetRangeResult s at (length s) r → p ≡ unwrap_or r none → p.now ≡ drop at s
rest_of s at (Some q) none p n g e = grind (arith, common_steps)
rest_of s at None none p n g e = grind (arith, common_steps)

-- what comes before the first byte that is the one sought
before_it : (b : ℕ) (s : List ℕ) → position_or_len (λ x. x == b) s ≡ index_of b s
unfolding index_of index_after
before_it b [] = refl
before_it b (x ∷ xs) = by (x == b) _ _ (before_it b xs) where
  by : (t : Bool) (i j : ℕ) → i ≡ j → cond (not t) (1 + i) 0 ≡ index_after t j
  by true i j e = refl
  by false i j e = omega arith

-- so its place is where the library finds it, or the end
pub found : (b : ℕ) (s : List ℕ) → unwrap_or (position (λ x. x == b) s) (length s) ≡ index_of b s
found b s = let n = prefix_len-le-length (λ x. not (x == b)) s in grind (arith, common_steps, before_it)
