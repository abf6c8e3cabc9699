-- Tables of links, filled one depth after another. Assumes nothing.
use Rattle.std.specs.Prelude.{slice_index_or}
use Rattle.std.proofs.Math.Nat.{min-eq_left}
use mathlib.Core.Logic.{◌≢◌}
use mathlib.Core.Path.{◌≡◌, refl, ◌∙◌}
use mathlib.Core.List.{List}
use Prim.Native.Nat.{ℕ, ◌+◌, ◌<◌, min}
use native.Mathlib.Decide.{ℕ_discrete}
use native.Mathlib.Omega.{arith}
use lib.ListN.{length, length-set, set}
use lib.Seq.{get_or-set_same, get_or-set_other}
use Rattle.row_plan_model.specs.declared.Link.{Link}
use Rattle.row_plan_model.specs.Inner.{no_link, HeldFrom, HeldBelow}

module _ (f : ℕ → Link) (ls : List Link) (i : ℕ) (v : Link) (low : i < 13) (new : v ≡ f i) where
  -- one more link, where the others are f's
  one_more : length ls ≡ 13 → (j : ℕ) → (j ≢ i → slice_index_or ls j no_link ≡ f j) → slice_index_or (set ls i v) j no_link ≡ f j
  one_more size j others = elim (ℕ_discrete j i) [
    | yes e ↦ rw e (get_or-set_same ls i v no_link (omega arith) ∙ new)
    | no n ↦ get_or-set_other ls i j v no_link n ∙ others n
  ]

  -- the deepest one
  pub set_last : length ls ≡ 13 → HeldFrom f i i (set ls i v)
  set_last size = record {
    size = length-set ls i v ∙ size;
    held = λ j from to. one_more size j (λ n. absurd (omega arith));
  }

  -- one depth more towards the root
  pub set-from : (h : ℕ) → HeldFrom f (i + 1) h ls → HeldFrom f i h (set ls i v)
  set-from h t = record {
    size = length-set ls i v ∙ t.size;
    held = λ j from to. one_more t.size j (λ n. t.held j (omega arith) to);
  }

  -- one depth more away from it
  pub set_below : HeldBelow f i ls → HeldBelow f (i + 1) (set ls i v)
  set_below t = record {
    size = length-set ls i v ∙ t.size;
    held = λ j below. one_more t.size j (λ n. t.held j (omega arith));
  }

-- nothing is asked of a table below depth 0
pub none_below : (f : ℕ → Link) (ls : List Link) → length ls ≡ 13 → HeldBelow f 0 ls
none_below f ls size = record { size = size; held = λ j low. absurd (omega arith) }

-- a depth that a row can have is read as itself
pub link-there : (ls : List Link) (i : ℕ) → i < 13 → slice_index_or ls (min i 12) no_link ≡ slice_index_or ls i no_link
link-there ls i low = let e : min i 12 ≡ i = min-eq_left (omega arith) in rw e refl
