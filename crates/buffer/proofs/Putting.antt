-- Bytes put one behind another, and all at once. Assumes nothing.
use mathlib.Core.Path.{◌≡◌, refl, ap, sym, ◌∙◌}
use mathlib.Core.List.{List, [], ◌∷◌, ◌++◌, append-nil, append_assoc}
use Prim.Native.Nat.{ℕ, zero, suc, ◌+◌, ◌-◌, ◌≤◌, ◌<◌, min}
use native.Mathlib.Decide.{dec_le}
use native.Mathlib.Omega.{arith}
use lib.ListN.{length, get_or, take, drop, set, length-drop, drop_of_length-le, take-append-drop}
use lib.Seq.{sets, sets-eq, set-set, set_comm, set_out, take_all, take_at, drop-drop, length-take-le, length-sets}

-- bytes put behind bytes are both put
pub sets-sets : (e : List ℕ) (at : ℕ) (t u : List ℕ) → sets (sets e at t) (at + length t) u ≡ sets e at (t ++ u)
sets-sets e at [] u = let z : at + 0 ≡ at = omega arith in rw z
sets-sets e at (b ∷ bs) u =
    let z : at + suc (length bs) ≡ suc at + length bs = omega arith in
    rw z (sets-sets (set e at b) (suc at) bs u)

-- one byte put behind bytes
pub sets-byte : (e : List ℕ) (at : ℕ) (t : List ℕ) (b : ℕ) → set (sets e at t) (at + length t) b ≡ sets e at (t ++ b ∷ [])
sets-byte e at t b = sets-sets e at t (b ∷ [])

-- a byte put before bytes that are there already
set_before : (e : List ℕ) (i : ℕ) (u : List ℕ) (j b : ℕ) → j < i → set (sets e i u) j b ≡ sets (set e j b) i u
set_before e i [] j b h = refl
set_before e i (a ∷ u) j b h =
    set_before (set e i a) (suc i) u j b (omega arith)
    ∙ ap (λ (l : List ℕ). sets l (suc i) u) (set_comm e i j a b (λ q. absurd (omega arith)))

-- bytes put before bytes that are there already are both put
pub sets-before : (e : List ℕ) (at : ℕ) (t u : List ℕ) → sets (sets e (at + length t) u) at t ≡ sets e at (t ++ u)
sets-before e at [] u = let z : at + 0 ≡ at = omega arith in rw z
sets-before e at (b ∷ bs) u =
    let z : at + suc (length bs) ≡ suc at + length bs = omega arith in
    rw (z, set_before e (suc at + length bs) u at b (omega arith)) (sets-before (set e at b) (suc at) bs u)

-- bytes put at the front, where there is room for all
pub sets-front : (e t : List ℕ) → length t ≤ length e → sets e 0 t ≡ t ++ drop (length t) e
sets-front e t h =
    let z : 0 + length t ≡ length t = omega arith in
    rw z at (sets-eq t e 0 (omega arith))

-- and what is found there then
pub put_front : (space e t : List ℕ) (n : ℕ) → n ≡ length t → n ≤ length e → space ≡ sets e 0 t → take n space ≡ t
put_front space e t n q h w = rw (w, sets-front e t (omega (arith, q))) (take_at t (drop (length t) e) n (sym q))

-- nothing is put behind the end
pub sets-out : (e : List ℕ) (at : ℕ) (t : List ℕ) → length e ≤ at → sets e at t ≡ e
sets-out e at [] h = refl
sets-out e at (b ∷ bs) h = rw (set_out e at b h) (sets-out e (suc at) bs (omega arith))

-- so bytes that have no room may be left out
sets-cut : (e : List ℕ) (at n : ℕ) (t : List ℕ) → n ≡ min (length t) (length e - at) → sets e at (take n t) ≡ sets e at t
sets-cut e at n t q = by (dec_le (length t) n) where
  by : Dec (length t ≤ n) → sets e at (take n t) ≡ sets e at t
  by (yes h) = rw (take_all n t h)
  by (no h) =
      let l = length-take-le n t (omega arith) in
      let z = length-sets e at (take n t) in
      let s = sets-sets e at (take n t) (drop n t) in
      let o = sets-out (sets e at (take n t)) (at + length (take n t)) (drop n t) (omega (arith, l, z, q)) in
      sym o ∙ s ∙ ap (λ (u : List ℕ). sets e at u) (take-append-drop n t)

-- bytes copied to the front of the rest behind a position, as far as there is room; p is what lies there then
pub sets-copied : (e : List ℕ) (at n : ℕ) (t p : List ℕ) → at ≤ length e → n ≡ min (length t) (length (take (length e - at) (drop at e)))
    → p ≡ take n t ++ drop n (take (length e - at) (drop at e)) → take at e ++ (p ++ drop (length e - at) (drop at e)) ≡ sets e at t
sets-copied e at n t p inside q w =
    let d = length-drop at e in
    let rest = take_all (length e - at) (drop at e) (omega (arith, d)) in
    let q' = rw (rest, d) at q in
    let l = length-take-le n t (omega (arith, q')) in
    sym (
    rw (
      sym (sets-cut e at n t q'),
      sets-eq (take n t) e at (omega (arith, l, q')),
      l,
      w,
      rest,
      drop_of_length-le (drop at e) {i = length e - at} (omega (arith, d)),
      append-nil (take n t ++ drop n (drop at e)),
      drop-drop n at e,
      append_assoc (take at e) (take n t) (drop (at + n) e),
    )
    )

-- the same, with what lies there then written out
pub sets-copied-in : (e : List ℕ) (at n : ℕ) (t : List ℕ) → at ≤ length e → n ≡ min (length t) (length (take (length e - at) (drop at e)))
    → take at e ++ ((take n t ++ drop n (take (length e - at) (drop at e))) ++ drop (length e - at) (drop at e)) ≡ sets e at t
sets-copied-in e at n t inside q = sets-copied e at n t _ inside q refl

-- a byte put again where it was put
pub sets-again : (e : List ℕ) (at : ℕ) (t : List ℕ) (k : ℕ) → k < length t → set (sets e at t) (at + k) (get_or t k 0) ≡ sets e at t
sets-again e at [] k h = absurd (omega arith)
sets-again e at (b ∷ bs) zero h =
    let z : at + 0 ≡ at = omega arith in
    rw (z, set_before (set e at b) (suc at) bs at b (omega arith), set-set e at b b) refl
sets-again e at (b ∷ bs) (suc k) h =
    let z : at + suc k ≡ suc at + k = omega arith in
    rw z (sets-again (set e at b) (suc at) bs k (omega arith))

-- a part that leaves nothing out
pub part-whole : (t : List ℕ) (k n : ℕ) → k ≡ 0 → length t ≤ n → take n (drop k t) ≡ t
part-whole t k n q h = rw q (take_all n t h)

-- what is left where bytes are copied: the whole text or a part, with room or without, and bytes put again
pub ruleset put_at_once = (sets-copied-in, sets-out, sets-again, part-whole)
