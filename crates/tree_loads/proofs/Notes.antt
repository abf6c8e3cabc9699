-- The notes of a walk, one neighbour after the other. Assumes nothing.
use mathlib.Core.Path.{◌≡◌, refl, sym, ap, subst, ◌∙◌}
use mathlib.Core.Bool.{Bool, true, false, cond}
use mathlib.Core.List.{List}
use Prim.Native.Nat.{ℕ, ◌+◌, ◌≤◌, ◌<◌}
use native.Mathlib.Omega.{arith}
use native.Mathlib.Decide.{dec_le, ℕ_discrete}
use lib.ListN.{length, get_or, set, length-set}
use lib.Seq.{get_or-set_same, get_or-set_other}
use borrow.Author.Tests.{lt-ltb}
use Rattle.links.specs.declared.Load.{Load}
use Rattle.links.specs.declared.Timing.{Timing}
use Rattle.tree_model.specs.Tree.{Tree, other_neighbour, Rooted, Facing, WithoutGaps}
use Rattle.tree_model.specs.Loads.{input_of}
use Rattle.tree_model.specs.Ways.{Beyond, here, there}
use Rattle.tree_plan_model.specs.Inner.{load_in, towards_in, note_set, Right, Seen, Noted, AllRight}
use Rattle.tree_model.proofs.WayLaws.{next-step, at-sink, every}

-- ---- one node's notes

module _ (ns : List ℕ) (size : length ns ≡ 768) (v : ℕ) (h : v < 256) (l : Load) (from : ℕ) where
  -- are read back
  own-load : load_in (note_set ns v l from) v ≡ l
  unfolding load_in note_set
  own-load =
      let a : List ℕ = set ns v l.rate.0 in
      let b : List ℕ = set a (256 + v) l.burst.0 in
      let la : length a ≡ 768 = length-set ns v l.rate.0 ∙ size in
      let lb : length b ≡ 768 = length-set a (256 + v) l.burst.0 ∙ la in
      let r : get_or (set b (512 + v) from) v 0 ≡ l.rate.0 = get_or-set_other b (512 + v) v from 0 (omega arith) ∙ get_or-set_other a (256 + v) v l.burst.0 0 (omega arith) ∙ get_or-set_same ns v l.rate.0 0 (omega arith) in
      let u : get_or (set b (512 + v) from) (256 + v) 0 ≡ l.burst.0 = get_or-set_other b (512 + v) (256 + v) from 0 (omega arith) ∙ get_or-set_same a (256 + v) l.burst.0 0 (omega arith) in
      rw (lt-ltb v 256 h) (rw (r, u) refl)

  own-towards : towards_in (note_set ns v l from) v ≡ from
  unfolding towards_in note_set
  own-towards =
      let a : List ℕ = set ns v l.rate.0 in
      let b : List ℕ = set a (256 + v) l.burst.0 in
      let la : length a ≡ 768 = length-set ns v l.rate.0 ∙ size in
      let lb : length b ≡ 768 = length-set a (256 + v) l.burst.0 ∙ la in
      rw (lt-ltb v 256 h) (get_or-set_same b (512 + v) from 0 (omega arith))

  -- and leave those of every other node
  module _ (u : ℕ) (k : u < 256) (n : v ≡ u → ⊥) where
    other-load : load_in (note_set ns v l from) u ≡ load_in ns u
    unfolding load_in note_set
    other-load =
        let a : List ℕ = set ns v l.rate.0 in
        let b : List ℕ = set a (256 + v) l.burst.0 in
        let r : get_or (set b (512 + v) from) u 0 ≡ get_or ns u 0 = get_or-set_other b (512 + v) u from 0 (omega arith) ∙ get_or-set_other a (256 + v) u l.burst.0 0 (omega arith) ∙ get_or-set_other ns v u l.rate.0 0 (omega arith) in
        let w : get_or (set b (512 + v) from) (256 + u) 0 ≡ get_or ns (256 + u) 0 = get_or-set_other b (512 + v) (256 + u) from 0 (omega arith) ∙ get_or-set_other a (256 + v) (256 + u) l.burst.0 0 (omega arith) ∙ get_or-set_other ns v (256 + u) l.rate.0 0 (omega arith) in
        rw (lt-ltb v 256 h) (rw (r, w) refl)

    other-towards : towards_in (note_set ns v l from) u ≡ towards_in ns u
    unfolding towards_in note_set
    other-towards =
        let a : List ℕ = set ns v l.rate.0 in
        let b : List ℕ = set a (256 + v) l.burst.0 in
        rw (lt-ltb v 256 h) (get_or-set_other b (512 + v) (512 + u) from 0 (omega arith) ∙ get_or-set_other a (256 + v) (512 + u) l.burst.0 0 (omega arith) ∙ get_or-set_other ns v (512 + u) l.rate.0 0 (omega arith))

-- ---- neighbour after neighbour

-- the same for the neighbours up to w
pub record NotedTo (a : Timing) (t : Tree) (v from : ℕ) (ns : List ℕ) (w : ℕ) (ns' : List ℕ) : Type 0 where
  pub kept : (s u : ℕ) → u ≤ t.nodes → Seen t v from s → Right a t s ns u → Right a t s ns' u
  pub beyond : (s u x : ℕ) → u ≤ t.nodes → Seen t v from s → 1 ≤ x → x ≤ w → other_neighbour t v from x ≡ true → Beyond t s x u → Right a t s ns' u

module _ (a : Timing) (t : Tree) (p : Rooted t) (v from : ℕ) (f : Facing t v from) (ns : List ℕ) where
  pub noted-none : NotedTo a t v from ns 0 ns
  noted-none = record { kept = λ s u k z r. r; beyond = λ s u x k z a b e r. absurd (omega arith) }

  sink-on : (w s : ℕ) → 1 ≤ w → w ≤ t.nodes → other_neighbour t v from w ≡ true → Seen t v from s → Seen t w v s
  sink-on w s a b h z =
      record { node = z.node; known = z.known; towards = next-step t p s z.node z.known v w f.node f.known a b (rw z.towards h) }

  pub noted_more : (w : ℕ) (ns1 ns2 : List ℕ) → w + 1 ≤ t.nodes → other_neighbour t v from (w + 1) ≡ true → NotedTo a t v from ns w ns1 → Noted a t (w + 1) v ns1 ns2 → NotedTo a t v from ns (w + 1) ns2
  noted_more w ns1 ns2 most h n m =
      record {
        kept = λ s u k z r. m.kept s u k (sink-on (w + 1) s (omega arith) most h z) (n.kept s u k z r);
        beyond = λ s u x k z x1 xw e r. by s u x k z x1 xw e r (dec_le x w);
      }
    where
      by : (s u x : ℕ) → u ≤ t.nodes → Seen t v from s → 1 ≤ x → x ≤ w + 1 → other_neighbour t v from x ≡ true → Beyond t s x u → Dec (x ≤ w) → Right a t s ns2 u
      by s u x k z x1 xw e r (yes l) = m.kept s u k (sink-on (w + 1) s (omega arith) most h z) (n.beyond s u x k z x1 l e r)
      by s u x k z x1 xw e r (no l) =
          let q : x ≡ w + 1 = omega arith in
          m.beyond s u k (sink-on (w + 1) s (omega arith) most h z) (rw q at r)

  pub noted-same : (w : ℕ) (ns1 : List ℕ) → other_neighbour t v from (w + 1) ≡ false → NotedTo a t v from ns w ns1 → NotedTo a t v from ns (w + 1) ns1
  noted-same w ns1 h n =
      record { kept = n.kept; beyond = λ s u x k z x1 xw e r. by s u x k z x1 xw e r (dec_le x w) }
    where
      by : (s u x : ℕ) → u ≤ t.nodes → Seen t v from s → 1 ≤ x → x ≤ w + 1 → other_neighbour t v from x ≡ true → Beyond t s x u → Dec (x ≤ w) → Right a t s ns1 u
      by s u x k z x1 xw e r (yes l) = n.beyond s u x k z x1 l e r
      by s u x k z x1 xw e r (no l) =
          let q : x ≡ w + 1 = omega arith in
          let y : false ≡ true = sym h ∙ (rw q at e) in
          absurd (omega (arith, ap {B = ℕ} (λ (b : Bool). cond b 1 0) y))

  pub noted-end : (l : Load) (ns1 : List ℕ) → length ns1 ≡ 768 → l ≡ input_of a t v from → NotedTo a t v from ns t.nodes ns1 → Noted a t v from ns (note_set ns1 v l from)
  noted-end l ns1 size e n =
      record { kept = λ s u k z r. stays s u k z (n.kept s u k z r); beyond = λ s u k z r. out s u k z r }
    where
      low : v < 256
      low = omega (arith, p.few, f.known)

      own : (s : ℕ) → Seen t v from s → Right a t s (note_set ns1 v l from) v
      own s z =
          record {
            entered = own-load ns1 size v low l from ∙ e ∙ ap (λ (x : ℕ). input_of a t v x) (sym z.towards);
            towards = own-towards ns1 size v low l from ∙ sym z.towards;
          }

      stays_by : (s u : ℕ) → u ≤ t.nodes → Seen t v from s → Right a t s ns1 u → Dec (v ≡ u) → Right a t s (note_set ns1 v l from) u
      stays_by s u k z r (yes q) = subst (λ (x : ℕ). Right a t s (note_set ns1 v l from) x) q (own s z)
      stays_by s u k z r (no q) =
          record {
            entered = other-load ns1 size v low l from u (omega (arith, p.few)) q ∙ r.entered;
            towards = other-towards ns1 size v low l from u (omega (arith, p.few)) q ∙ r.towards;
          }

      stays : (s u : ℕ) → u ≤ t.nodes → Seen t v from s → Right a t s ns1 u → Right a t s (note_set ns1 v l from) u
      stays s u k z r = stays_by s u k z r (ℕ_discrete v u)

      out : (s u : ℕ) → u ≤ t.nodes → Seen t v from s → Beyond t s v u → Right a t s (note_set ns1 v l from) u
      out s u k z here = own s z
      out s u k z (there w w1 wn g r) = stays s u k z (n.beyond s u w k z w1 wn (rw z.towards at g) r)

-- a walk from the sink notes all
pub all_noted : (a : Timing) (t : Tree) → Rooted t → WithoutGaps t → (s : ℕ) → 1 ≤ s → s ≤ t.nodes → (ns ns' : List ℕ) → Noted a t s 0 ns ns' → AllRight a t s ns'
all_noted a t p full s one most ns ns' n =
    record { each = λ u u1 un. n.beyond s u un (record { node = one; known = most; towards = at-sink t p s one most }) (every t p s one most (full s most) u u1 un (full u un)) }
