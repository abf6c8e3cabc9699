-- The text of lines of any sort under a header line, one behind another. Assumes nothing.
use mathlib.Core.Path.{◌≡◌, refl, sym, ap}
use mathlib.Core.List.{List, [], ◌∷◌, ◌++◌, map, map-append, append_assoc}
use Prim.Native.Nat.{ℕ, suc, ◌+◌}
use native.Mathlib.Numerals.{add-one}
use native.Mathlib.Omega.{arith}
use lib.ListN.{length, length-append}
use lib.Seq.{sets}
use Rattle.lines.specs.Text.{ended}
use Rattle.buffer.proofs.Behind.{Put, put-behind}

-- lines behind lines
ended-append : (xs ys : List (List ℕ)) → ended (xs ++ ys) ≡ ended xs ++ ended ys
unfolding ended
ended-append [] ys = refl
ended-append (x ∷ xs) ys = rw (ended-append xs ys) (sym (append_assoc x (10 ∷ ended xs) (ended ys)))

-- `text` is the text of a line, `first` the first lines, and `at` the line behind them
module _ {A : Type 0} (header : List ℕ) (text : A → List ℕ) (first : ℕ → List A) (at : ℕ → A)
    (none : first 0 ≡ []) (more : (n : ℕ) → first (suc n) ≡ first n ++ (at n ∷ [])) where
  -- the text of the first n lines, behind the header line
  abbrev pub behind : ℕ → List ℕ
  behind n = ended (map text (first n))

  pub behind-none : behind 0 ≡ []
  unfolding ended
  behind-none = rw none refl

  -- and of one more
  pub behind_more : (n : ℕ) (l : A) → l ≡ at n → behind (n + 1) ≡ behind n ++ (text l ++ 10 ∷ [])
  unfolding ended
  behind_more n l e = rw (add-one n, more n, ← e, map-append text (first n) (l ∷ [])) (ended-append (map text (first n)) (text l ∷ []))

  -- the whole text
  text-behind : (n : ℕ) → ended (header ∷ map text (first n)) ≡ (header ++ 10 ∷ []) ++ behind n
  unfolding ended
  text-behind n = sym (append_assoc header (10 ∷ []) (behind n))

  -- how long it is, and put: the header line, and the lines behind it
  module _ (k : ℕ) (long : length (header ++ 10 ∷ []) ≡ k) where
    pub text-length : (n : ℕ) → length (ended (header ∷ map text (first n))) ≡ k + length (behind n)
    text-length n = omega (arith, ap length (text-behind n), length-append (header ++ 10 ∷ []) (behind n), long)

    pub text-put : {e out out' : List ℕ} {end : ℕ} (n : ℕ) → out ≡ sets e 0 (header ++ 10 ∷ []) → Put out k (behind n) out' end
        → Put e 0 (ended (header ∷ map text (first n))) out' end
    text-put {e} {out} n h p =
        let front : Put e 0 (header ++ 10 ∷ []) out k = record { ends = omega (arith, long); leaves = h } in
        rw (text-behind n) (put-behind (behind n) front p.ends p.leaves)
