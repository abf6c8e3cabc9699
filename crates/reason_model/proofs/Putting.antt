-- A phrase that is put part by part. Assumes nothing.
use mathlib.Core.Path.{◌≡◌, ap, sym, ◌∙◌}
use mathlib.Core.List.{List, [], ◌∷◌, ◌++◌, map}
use Prim.Native.Nat.{ℕ, ◌+◌, ◌*◌, ◌^◌, ◌≤◌, ◌<◌}
use native.Mathlib.Omega.{arith}
use native.Mathlib.Numerals.{add-one}
use Rattle.std.proofs.Common.{add-zero}
use lib.ListN.{length, length-append, length-map, get_or, drop, drop_of_length-le}
use lib.Seq.{sets, get_or-drop, drop-cons, drop-drop}
use Rattle.buffer.proofs.Putting.{sets-sets}
use Rattle.reason_model.specs.Reasons.{Part, Byte, Name, Place, Value, part_of, part_text, taken, filled}
use Rattle.reason_model.specs.Inner.{most}
use Rattle.reason_model.proofs.Printing.{filled-short}

-- how long a part is at most
most-twenty : (xs : List Part) → most xs ≤ 20 * length xs
unfolding most
most-twenty [] = omega arith
most-twenty (Byte b ∷ xs) = omega (arith, most-twenty xs)
most-twenty (Name ∷ xs) = omega (arith, most-twenty xs)
most-twenty (Place ∷ xs) = omega (arith, most-twenty xs)
most-twenty (Value ∷ xs) = omega (arith, most-twenty xs)

module _ (e : List ℕ) (place : ℕ) (phrase values : List ℕ) where
  -- what is left to put after the first k parts took so many values
  abbrev rest : ℕ → ℕ → List ℕ
  rest k used = filled place (map part_of (drop k phrase)) (drop used values)

  abbrev whole : List ℕ
  whole = filled place (map part_of phrase) values

  -- the first k parts are put, and what is left goes behind them
  pub record Begun (out : List ℕ) (at used k : ℕ) : Type 0 where
    pub inside : k ≤ length phrase
    pub few : used ≤ k
    pub size : at + length (rest k used) ≡ length whole
    pub leaves : sets out at (rest k used) ≡ sets e 0 whole

  module _ (out : List ℕ) (at used k : ℕ) (b : Begun out at used k) where
    -- the next part, and what is left then
    next-part : k < length phrase
        → rest k used ≡ part_text place (get_or values used 0) (part_of (get_or phrase k 0)) ++ rest (k + 1) (used + taken (part_of (get_or phrase k 0)))
    unfolding filled
    next-part h = rw (drop-cons phrase k 0 h, get_or-drop used values 0 0, add-zero used, add-one, sym (drop-drop (taken (part_of (get_or phrase k 0))) used values))

    -- the next part is put, with the next value v
    module _ (h : k < length phrase) (v : ℕ) (q : v ≡ get_or values used 0) (n : ℕ) (l : n ≡ length (part_text place v (part_of (get_or phrase k 0)))) where
      part-size : at + n + length (rest (k + 1) (used + taken (part_of (get_or phrase k 0)))) ≡ length whole
      part-size =
          let w : List ℕ = part_text place v (part_of (get_or phrase k 0)) in
          let s = rw (sym q) at (next-part h) in
          omega (arith, b.size, ap length s, length-append w (rest (k + 1) (used + taken (part_of (get_or phrase k 0)))), l)

      pub begun_more : (out' : List ℕ) (u : ℕ) → out' ≡ sets out at (part_text place v (part_of (get_or phrase k 0)))
          → u ≡ taken (part_of (get_or phrase k 0)) → u ≤ 1 → Begun out' (at + n) (used + u) (k + 1)
      begun_more out' u p t m =
          let w : List ℕ = part_text place v (part_of (get_or phrase k 0)) in
          let s = rw (sym q, sym t) at (next-part h) in
          record {
            inside = omega arith;
            few = omega (arith, b.few);
            size = rw t part-size;
            leaves = rw (p, l) (sets-sets out at w (rest (k + 1) (used + u)) ∙ rw (sym s) b.leaves);
          }

      -- nothing wraps
      pub begun-small : place < 2 ^ 64 → ((i : ℕ) → get_or values i 0 < 2 ^ 64) → at + n ≤ 20 * length phrase
      begun-small p f =
          omega (arith, part-size, filled-short place p (map part_of phrase) values f, most-twenty (map part_of phrase), length-map phrase part_of)

    pub begun_all : length phrase ≤ k → (at ≡ length whole) × (out ≡ sets e 0 whole)
    unfolding filled
    begun_all h =
        let d : rest k used ≡ [] = rw (drop_of_length-le phrase h) in
        (let z = b.size in omega (arith, ap length d), rw d at b.leaves)
