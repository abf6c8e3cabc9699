-- Texts put one behind another, and the position behind them. Assumes nothing.
use mathlib.Core.Path.{◌≡◌, refl, ap, sym, ◌∙◌}
use mathlib.Core.List.{List, [], ◌∷◌, ◌++◌}
use Prim.Native.Nat.{ℕ, ◌+◌, ◌≤◌, min}
use native.Mathlib.Omega.{arith}
use native.Mathlib.Decide.{dec_le}
use native.Mathlib.Nat.{zero-add}
use lib.ListN.{length, length-append, set}
use lib.Seq.{sets, length-sets}
use Rattle.buffer.proofs.Putting.{sets-out, sets-sets}

-- so a position may be taken down to the end
pub sets-lower : (e : List ℕ) (at k : ℕ) (t : List ℕ) → k ≡ min at (length e) → sets e k t ≡ sets e at t
sets-lower e at k t q = by (dec_le at (length e)) where
  by : Dec (at ≤ length e) → sets e k t ≡ sets e at t
  by (yes h) = let z : k ≡ at = omega arith in rw z
  by (no h) = sets-out e k t (omega arith) ∙ sym (sets-out e at t (omega arith))

-- a text is put at a position of e, which leaves `out`, and `end` is behind it
pub record Put (e : List ℕ) (at : ℕ) (t out : List ℕ) (end : ℕ) : Type 0 where
  pub ends : end ≡ at + length t
  pub leaves : out ≡ sets e at t

-- one byte
pub put_one : (e : List ℕ) (at b : ℕ) (out : List ℕ) → out ≡ set e (at + 0) b → Put e at (b ∷ []) out (at + 1)
put_one e at b out h = let z : at + 0 ≡ at = omega arith in record { ends = refl; leaves = rw z at h }

-- a text behind a text
pub put-behind : {e : List ℕ} {at : ℕ} {t out : List ℕ} {end : ℕ} {out' : List ℕ} {end' : ℕ} (u : List ℕ)
    → Put e at t out end → end' ≡ end + length u → out' ≡ sets out end u → Put e at (t ++ u) out' end'
put-behind {e} {at} {t} u p q w = record {
  ends = omega (arith, p.ends, q, length-append t u);
  leaves = w ∙ rw (p.ends, p.leaves) (sets-sets e at t u);
}

-- a byte behind a text
pub byte-behind : {e : List ℕ} {at : ℕ} {t out : List ℕ} {end : ℕ} {out' : List ℕ} (b : ℕ)
    → Put e at t out end → out' ≡ set out (end + 0) b → Put e at (t ++ b ∷ []) out' (end + 1)
byte-behind {end = end} b p w = let z : end + 0 ≡ end = omega arith in put-behind (b ∷ []) p refl (rw z at w)

-- a text at the front ends at its length
pub front_ends : {e t out : List ℕ} {end : ℕ} → Put e 0 t out end → end ≡ length t
front_ends p = p.ends ∙ zero-add _

-- what is put changes no length
pub put_keeps : {e : List ℕ} {at : ℕ} (t : List ℕ) {out : List ℕ} {end : ℕ} → Put e at t out end → length out ≡ length e
put_keeps {e} {at} t p = ap length p.leaves ∙ length-sets e at t
