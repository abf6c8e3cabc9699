-- The walk away from the sink ends, and its loads obey the paper's equations whatever the steps that are allowed. Assumes nothing.
use mathlib.Core.Path.{◌≡◌, refl, sym, ap, ap₂, ◌∙◌}
use mathlib.Core.Logic.{◌⊎◌, inl, inr}
use mathlib.Core.Bool.{Bool, true, false, not, ◌&&◌, ◌||◌, cond}
use Prim.Native.Nat.{ℕ, zero, suc, ◌+◌, ◌-◌, ◌*◌, ◌≤◌, ◌<◌}
use native.Mathlib.Nat.{le_refl}
use native.Mathlib.Omega.{arith}
use native.Mathlib.Decide.{dec_le}
use lib.Dec.{eqb, ltb}
use borrow.Author.Tests.{eqb-true, eqb-false, eq-eqb, ne_eqb, lt-ltb, le-ltb}
use Rattle.links.specs.declared.Load.{Load}
use Rattle.links.specs.declared.Timing.{Timing}
use Rattle.links.specs.Link.{plus, no_load}
use Rattle.tree_model.specs.Tree.{Tree, other_neighbour, Rooted, Facing}
use Rattle.tree_model.specs.Loads.{sensed, leaving, gather, input_by, output_by, steps, input_of, output_of}

-- the neighbour w of v is a child, or the parent
pub record Child (t : Tree) (v w : ℕ) : Type 0 where
  pub is : t.parent w ≡ v

pub record Next (t : Tree) (v from w : ℕ) : Type 0 where
  pub other : w ≡ from → ⊥
  pub side : (t.parent w ≡ v) ⊎ (t.parent v ≡ w)

pub next : (t : Tree) (v from w : ℕ) → other_neighbour t v from w ≡ true → Next t v from w
next t v from w = by (eqb w from) refl (eqb (t.parent w) v) refl (eqb (t.parent v) w) refl
  where
    by : (x : Bool) → eqb w from ≡ x → (y : Bool) → eqb (t.parent w) v ≡ y → (z : Bool) → eqb (t.parent v) w ≡ z → (not x && (y || z)) ≡ true → Next t v from w
    by true e y f z g h = let q : false ≡ true = h in absurd (omega (arith, ap {B = ℕ} (λ (b : Bool). cond b 1 0) q))
    by false e true f z g h = record { other = eqb-false w from e; side = inl (eqb-true (t.parent w) v f) }
    by false e false f true g h = record { other = eqb-false w from e; side = inr (eqb-true (t.parent v) w g) }
    by false e false f false g h = let q : false ≡ true = h in absurd (omega (arith, ap {B = ℕ} (λ (b : Bool). cond b 1 0) q))

-- Remaining nodes: going down from v, those above v's number; going up, v's own ancestors' and then all; at the sink, all both ways.
rest : ℕ → ℕ → Bool → Bool → ℕ
rest n v true z = n + 1 + v
rest n v false true = 2 * (n + 1)
rest n v false false = n + 1 - v

pub remaining : Tree → ℕ → ℕ → ℕ
remaining t v from = rest t.nodes v (ltb v from) (eqb from 0)

module _ (t : Tree) (p : Rooted t) where
  going-up : (v from : ℕ) → v < from → remaining t v from ≡ t.nodes + 1 + v
  unfolding remaining rest
  going-up v from h = rw (lt-ltb v from h)

  at-sink : (v from : ℕ) → from ≤ 0 → remaining t v from ≡ 2 * (t.nodes + 1)
  unfolding remaining rest
  at-sink v from h = rw (le-ltb v from (omega arith), eq-eqb from 0 (omega arith))

  going-down : (v from : ℕ) → 1 ≤ from → from ≤ v → remaining t v from ≡ t.nodes + 1 - v
  unfolding remaining rest
  going-down v from h l = rw (le-ltb v from l, ne_eqb from 0 (λ e. omega arith))

  -- what lies beyond a neighbour away from the sink is less
  pub falls : (v from w : ℕ) → Facing t v from → 1 ≤ w → w ≤ t.nodes → other_neighbour t v from w ≡ true → remaining t w v < remaining t v from
  falls v from w f one most h = by (next t v from w h).side (dec_le (suc v) from) (dec_le from 0)
    where
      other : w ≡ from → ⊥
      other = (next t v from w h).other

      by : (t.parent w ≡ v) ⊎ (t.parent v ≡ w) → Dec (v < from) → Dec (from ≤ 0) → remaining t w v < remaining t v from
      by (inl e) (yes u) z = omega (arith, going-up v from u, going-down w v f.node (omega (arith, p.smaller w one most)), f.node)
      by (inl e) (no u) (yes z) = omega (arith, at-sink v from z, going-down w v f.node (omega (arith, p.smaller w one most)))
      by (inl e) (no u) (no z) = omega (arith, going-down v from (omega arith) (omega arith), going-down w v f.node (omega (arith, p.smaller w one most)), p.smaller w one most)
      by (inr e) (yes u) z = omega (arith, going-up v from u, going-up w v (omega (arith, p.smaller v f.node f.known)), p.smaller v f.node f.known)
      by (inr e) (no u) (yes z) = omega (arith, at-sink v from z, going-up w v (omega (arith, p.smaller v f.node f.known)))
      by (inr e) (no u) (no z) = absurd (other (sym e ∙ f.up (omega arith) (omega (arith, f.apart))))

  pub faces : (v from w : ℕ) → Facing t v from → 1 ≤ w → w ≤ t.nodes → other_neighbour t v from w ≡ true → Facing t w v
  faces v from w f one most h = by (next t v from w h).side
    where
      by : (t.parent w ≡ v) ⊎ (t.parent v ≡ w) → Facing t w v
      by (inl e) =
          let l : v < w = omega (arith, p.smaller w one most) in
          record { node = one; known = most; apart = λ q. omega arith; up = λ a b. e; down = λ a. absurd (omega arith); known_from = f.known }
      by (inr e) =
          let l : w < v = omega (arith, p.smaller v f.node f.known) in
          record { node = one; known = most; apart = λ q. omega arith; up = λ a b. absurd (omega arith); down = λ a. e; known_from = f.known }

  pub most-remains : (v from : ℕ) → Facing t v from → remaining t v from ≤ 2 * (t.nodes + 1)
  most-remains v from f = by (dec_le (suc v) from) (dec_le from 0)
    where
      by : Dec (v < from) → Dec (from ≤ 0) → remaining t v from ≤ 2 * (t.nodes + 1)
      by (yes u) z = omega (arith, going-up v from u, f.known)
      by (no u) (yes z) = omega (arith, at-sink v from z)
      by (no u) (no z) = omega (arith, going-down v from (omega arith) (omega arith))

pub gather-ap : (s : Load) (f g : ℕ → Load) (n : ℕ) → ((w : ℕ) → 1 ≤ w → w ≤ n → f w ≡ g w) → gather s f n ≡ gather s g n
unfolding gather
gather-ap s f g zero h = refl
gather-ap s f g (suc n) h = ap₂ plus (gather-ap s f g n (λ w a b. h w a (omega arith))) (h (suc n) (omega arith) (le_refl (suc n)))

-- the load l, where there is such a link
abbrev pub offered : Bool → Load → Load
offered true l = l
offered false l = no_load

module _ (a : Timing) (t : Tree) (p : Rooted t) where
  -- any number of steps that is enough gives the same
  pub enough : (m k j v from : ℕ) → Facing t v from → remaining t v from < m → 2 * m ≤ k → 2 * m ≤ j → input_by k a t v from ≡ input_by j a t v from
  unfolding input_by
  enough zero k j v from f r x y = absurd (omega arith)
  enough (suc m) zero j v from f r x y = absurd (omega arith)
  enough (suc m) (suc zero) j v from f r x y = absurd (omega arith)
  enough (suc m) (suc (suc k)) zero v from f r x y = absurd (omega arith)
  enough (suc m) (suc (suc k)) (suc zero) v from f r x y = absurd (omega arith)
  enough (suc m) (suc (suc k)) (suc (suc j)) v from f r x y =
      gather-ap (sensed a t v) (λ w. output_by (suc k) (other_neighbour t v from w) a t w v) (λ w. output_by (suc j) (other_neighbour t v from w) a t w v) t.nodes
      (λ w one most. by w (other_neighbour t v from w) (λ e. enough m k j w v (faces t p v from w f one most e) (omega (arith, falls t p v from w f one most e)) (omega arith) (omega arith)) refl)
    where
      by : (w : ℕ) (b : Bool) → (other_neighbour t v from w ≡ true → input_by k a t w v ≡ input_by j a t w v) → other_neighbour t v from w ≡ b → output_by (suc k) b a t w v ≡ output_by (suc j) b a t w v
      by w true h e = ap (leaving a t w) (h e)
      by w false h e = refl

  module _ (v from : ℕ) (f : Facing t v from) where
    output-at : (k : ℕ) → 4 * t.nodes + 6 ≤ k → output_by (suc k) true a t v from ≡ leaving a t v (input_by (suc k) a t v from)
    unfolding output_by
    output-at k h = ap (leaving a t v) (enough (2 * t.nodes + 3) k (suc k) v from f (omega (arith, most-remains t p v from f)) (omega arith) (omega arith))

    -- what leaves a link is the input of the node that sends, after the link
    pub output-step : output_of a t v from ≡ leaving a t v (input_of a t v from)
    output-step =
        let z : steps t ≡ suc (4 * t.nodes + 7) = omega arith in
        rw z (output-at (4 * t.nodes + 7) (omega arith))

    input-at : (k : ℕ) → 4 * t.nodes + 6 ≤ k → input_by (suc (suc k)) a t v from ≡ gather (sensed a t v) (λ w. offered (other_neighbour t v from w) (output_by (suc (suc k)) true a t w v)) t.nodes
    unfolding input_by
    input-at k h =
        gather-ap (sensed a t v) (λ w. output_by (suc k) (other_neighbour t v from w) a t w v) (λ w. offered (other_neighbour t v from w) (output_by (suc (suc k)) true a t w v)) t.nodes
        (λ w one most. by w one most (other_neighbour t v from w) refl)
      where
        by : (w : ℕ) → 1 ≤ w → w ≤ t.nodes → (b : Bool) → other_neighbour t v from w ≡ b → output_by (suc k) b a t w v ≡ offered b (output_by (suc (suc k)) true a t w v)
        by w one most true e =
            let g = faces t p v from w f one most e in
            ap (leaving a t w) (enough (2 * t.nodes + 3) k (suc k) w v g (omega (arith, most-remains t p w v g)) (omega arith) (omega arith))
        by w one most false e = refl

    -- what enters a node is what its own sensor makes and what leaves the links of all its neighbours but the one towards the sink
    pub input-step : input_of a t v from ≡ gather (sensed a t v) (λ w. offered (other_neighbour t v from w) (output_of a t w v)) t.nodes
    input-step =
        let z : steps t ≡ suc (suc (4 * t.nodes + 6)) = omega arith in
        rw z (input-at (4 * t.nodes + 6) (omega arith))
