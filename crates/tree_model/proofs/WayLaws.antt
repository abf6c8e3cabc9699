-- The walk away from the sink goes against `next`, and reaches every node. Assumes nothing.
use mathlib.Core.Path.{◌≡◌, refl, sym, ap, subst, ◌∙◌}
use mathlib.Core.Logic.{◌⊎◌, inl, inr}
use mathlib.Core.Bool.{Bool, true, false, not, cond, ◌&&◌, ◌||◌}
use Prim.Native.Nat.{ℕ, zero, suc, ◌+◌, ◌-◌, ◌*◌, ◌≤◌, ◌<◌}
use native.Mathlib.Nat.{le_refl}
use native.Mathlib.Omega.{arith}
use native.Mathlib.Decide.{dec_le, ℕ_discrete}
use lib.Dec.{eqb, ltb, leb}
use borrow.Author.Tests.{eq-eqb, ne_eqb, lt-ltb, le-ltb, le-leb, lt-leb}
use Rattle.tree_model.specs.Tree.{Tree, other_neighbour, Rooted, NoGap, Facing}
use Rattle.tree_model.proofs.Steps as steps
use Rattle.tree_model.specs.Ways.{child_by, child_towards, or_else, next, superframe_by, superframe_of, Beyond, here, there}

feeds-yes : (t : Tree) (v from w : ℕ) → (w ≡ from → ⊥) → (t.parent w ≡ v) ⊎ (t.parent v ≡ w) → other_neighbour t v from w ≡ true
feeds-yes t v from w n (inl e) = rw (ne_eqb w from n, eq-eqb (t.parent w) v e)
feeds-yes t v from w n (inr e) = by (eqb (t.parent w) v)
  where
    by : (b : Bool) → (not (eqb w from) && (b || eqb (t.parent v) w)) ≡ true
    by true = rw (ne_eqb w from n)
    by false = rw (ne_eqb w from n, eq-eqb (t.parent v) w e)

module _ (t : Tree) (p : Rooted t) where
  pub child-found : (k c v : ℕ) → t.parent (suc c) ≡ v → child_by (suc k) t (suc c) v ≡ suc c
  unfolding child_by
  child-found k c v e = rw (eq-eqb (t.parent (suc c)) v e, child_by)

  pub child-on : (k c v : ℕ) → (t.parent (suc c) ≡ v → ⊥) → child_by (suc k) t (suc c) v ≡ child_by k t (t.parent (suc c)) v
  unfolding child_by
  child-on k c v e = rw (ne_eqb (t.parent (suc c)) v e, child_by)

  -- what lies above c has a smaller number
  child-less : (k c v : ℕ) → c ≤ t.nodes → 1 ≤ child_by k t c v → v < c
  unfolding child_by
  child-less zero c v h some = absurd (omega arith)
  child-less (suc k) zero v h some = absurd (omega arith)
  child-less (suc k) (suc c) v h some = by (ℕ_discrete (t.parent (suc c)) v) (λ a b. child-less k (t.parent (suc c)) v a b)
    where
      less : t.parent (suc c) < suc c
      less = p.smaller (suc c) (omega arith) h

      by : Dec (t.parent (suc c) ≡ v) → (t.parent (suc c) ≤ t.nodes → 1 ≤ child_by k t (t.parent (suc c)) v → v < t.parent (suc c)) → v < suc c
      by (yes e) ih = omega (arith, less)
      by (no e) ih = omega (arith, less, ih (omega (arith, less)) (rw (child-on k c v e) at some))

  -- and the node on the way up whose parent v is has a larger one
  child-more : (k c v : ℕ) → c ≤ t.nodes → 1 ≤ child_by k t c v → v < child_by k t c v
  unfolding child_by
  child-more zero c v h some = absurd (omega arith)
  child-more (suc k) zero v h some = absurd (omega arith)
  child-more (suc k) (suc c) v h some = by (ℕ_discrete (t.parent (suc c)) v) (λ a b. child-more k (t.parent (suc c)) v a b)
    where
      less : t.parent (suc c) < suc c
      less = p.smaller (suc c) (omega arith) h

      by : Dec (t.parent (suc c) ≡ v) → (t.parent (suc c) ≤ t.nodes → 1 ≤ child_by k t (t.parent (suc c)) v → v < child_by k t (t.parent (suc c)) v) → v < child_by (suc k) t (suc c) v
      by (yes e) ih = rw (child-found k c v e) (omega (arith, less))
      by (no e) ih = rw (child-on k c v e) (ih (omega (arith, less)) (rw (child-on k c v e) at some))

  -- where w lies above c, the way up from c goes on from w to w's parent
  child-next : (k c w : ℕ) → c ≤ k → c ≤ t.nodes → 1 ≤ w → 1 ≤ child_by k t c w → child_by k t c (t.parent w) ≡ w
  unfolding child_by
  child-next zero c w l h one some = absurd (omega arith)
  child-next (suc k) zero w l h one some = absurd (omega arith)
  child-next (suc k) (suc c) w l h one some =
      by (ℕ_discrete (t.parent (suc c)) w) (ℕ_discrete (t.parent (suc c)) (t.parent w)) (λ a b d. child-next k (t.parent (suc c)) w a b one d)
    where
      less : t.parent (suc c) < suc c
      less = p.smaller (suc c) (omega arith) h

      at_once : (j u : ℕ) → 1 ≤ j → 1 ≤ u → child_by j t u (t.parent u) ≡ u
      at_once (suc j) (suc u) a b = child-found j u (t.parent (suc u)) refl
      at_once (suc j) zero a b = absurd (omega arith)
      at_once zero u a b = absurd (omega arith)

      by : Dec (t.parent (suc c) ≡ w) → Dec (t.parent (suc c) ≡ t.parent w) → (t.parent (suc c) ≤ k → t.parent (suc c) ≤ t.nodes → 1 ≤ child_by k t (t.parent (suc c)) w → child_by k t (t.parent (suc c)) (t.parent w) ≡ w) → child_by (suc k) t (suc c) (t.parent w) ≡ w
      by (yes e) d ih =
          let known : w ≤ t.nodes = omega (arith, less) in
          let lower : t.parent w < w = p.smaller w one known in
          child-on k c (t.parent w) (λ q. omega arith) ∙ rw e (at_once k w (omega (arith, less)) one)
      by (no e) (yes d) ih =
          let some' : 1 ≤ child_by k t (t.parent (suc c)) w = rw (child-on k c w e) at some in
          let low : w < t.parent (suc c) = child-less k (t.parent (suc c)) w (omega (arith, less)) some' in
          absurd (omega (arith, low, d, p.smaller w one (omega (arith, low, less))))
      by (no e) (no d) ih =
          child-on k c (t.parent w) d ∙ ih (omega (arith, less)) (omega (arith, less)) (rw (child-on k c w e) at some)

  module _ (s : ℕ) (s-one : 1 ≤ s) (s-known : s ≤ t.nodes) where
    pub at-sink : next t s s ≡ 0
    unfolding next
    at-sink = rw (eq-eqb s s refl, next)

    pub next-else : (v : ℕ) → (v ≡ s → ⊥) → next t s v ≡ or_else (child_by t.nodes t s v) (t.parent v)
    unfolding next child_towards
    next-else v n = rw (ne_eqb v s n, next)

    -- below v
    next-below : (v w : ℕ) → (v ≡ s → ⊥) → 1 ≤ w → child_by t.nodes t s v ≡ w → next t s v ≡ w
    next-below v w n one e = next-else v n ∙ (rw e (by w one))
      where
        by : (w : ℕ) → 1 ≤ w → or_else w (t.parent v) ≡ w
        by zero h = absurd (omega arith)
        by (suc w) h = refl

    next_up : (v : ℕ) → (v ≡ s → ⊥) → child_by t.nodes t s v ≡ 0 → next t s v ≡ t.parent v
    next_up v n e = next-else v n ∙ rw e

    -- the sink's own way up begins with its parent
    child-sink : child_by t.nodes t s (t.parent s) ≡ s
    child-sink = by t.nodes s s-one s-known
      where
        by : (k u : ℕ) → 1 ≤ u → u ≤ k → child_by k t u (t.parent u) ≡ u
        by (suc k) (suc u) a b = child-found k u (t.parent (suc u)) refl
        by (suc k) zero a b = absurd (omega arith)
        by zero u a b = absurd (omega arith)

    -- c's parent leads down to c, where c leads to the sink
    parent-leads : (c : ℕ) → 1 ≤ c → c ≤ t.nodes → (c ≡ s) ⊎ (1 ≤ child_by t.nodes t s c) → next t s (t.parent c) ≡ c
    parent-leads c one most (inl e) =
        let less : t.parent c < c = p.smaller c one most in
        next-below (t.parent c) c (λ q. omega arith) one (rw e child-sink)
    parent-leads c one most (inr h) =
        let less : t.parent c < c = p.smaller c one most in
        let low : c < s = child-less t.nodes s c s-known h in
        next-below (t.parent c) c (λ q. omega arith) one (child-next t.nodes s c s-known s-known one h)

    -- a neighbour that does not lie towards the sink has this node towards the sink
    pub next-step : (v w : ℕ) → 1 ≤ v → v ≤ t.nodes → 1 ≤ w → w ≤ t.nodes → other_neighbour t v (next t s v) w ≡ true → next t s w ≡ v
    next-step v w v1 vn w1 wn h = by n.side
      where
        n : steps.Next t v (next t s v) w
        n = steps.next t v (next t s v) w h

        child : t.parent w ≡ v → Dec (w ≡ s) → Dec (1 ≤ child_by t.nodes t s w) → next t s w ≡ v
        child e (yes q) z = absurd (n.other (sym (ap (next t s) (sym e) ∙ parent-leads w w1 wn (inl q))))
        child e (no q) (yes z) = absurd (n.other (sym (ap (next t s) (sym e) ∙ parent-leads w w1 wn (inr z))))
        child e (no q) (no z) = next_up w q (omega arith) ∙ e

        parent : t.parent v ≡ w → Dec (v ≡ s) → Dec (1 ≤ child_by t.nodes t s v) → next t s w ≡ v
        parent e (yes q) z = ap (next t s) (sym e) ∙ parent-leads v v1 vn (inl q)
        parent e (no q) (yes z) = ap (next t s) (sym e) ∙ parent-leads v v1 vn (inr z)
        parent e (no q) (no z) = absurd (n.other (sym (next_up v q (omega arith) ∙ e)))

        by : (t.parent w ≡ v) ⊎ (t.parent v ≡ w) → next t s w ≡ v
        by (inl e) = child e (ℕ_discrete w s) (dec_le 1 (child_by t.nodes t s w))
        by (inr e) = parent e (ℕ_discrete v s) (dec_le 1 (child_by t.nodes t s v))

    -- the walk can go one step on
    beyond-on : (v u w : ℕ) → 1 ≤ w → w ≤ t.nodes → Beyond t s v u → other_neighbour t u (next t s u) w ≡ true → Beyond t s v w
    beyond-on v u w a b here h = there w a b h here
    beyond-on v u w a b (there x c d g r) h = there x c d g (beyond-on x u w a b r h)

    -- and has come to each node by way of the one before
    beyond-back : (v u : ℕ) → 1 ≤ v → v ≤ t.nodes → (v ≡ u → ⊥) → Beyond t s v u → Beyond t s v (next t s u)
    beyond-back v u a b n here = absurd (n refl)
    beyond-back v u a b n (there x c d g r) = by (ℕ_discrete x u) (λ m. beyond-back x u c d m r)
      where
        by : Dec (x ≡ u) → ((x ≡ u → ⊥) → Beyond t s x (next t s u)) → Beyond t s v (next t s u)
        by (yes e) ih = let q : next t s u ≡ v = ap (next t s) (sym e) ∙ next-step v x a b c d g in rw q here
        by (no m) ih = there x c d g (ih m)

    -- so it comes to a node's neighbours too
    beyond-near : (v u : ℕ) → 1 ≤ v → v ≤ t.nodes → 1 ≤ u → u ≤ t.nodes → Beyond t s s v → (t.parent u ≡ v) ⊎ (t.parent v ≡ u) → Beyond t s s u
    beyond-near v u v1 vn u1 un r side = by (ℕ_discrete u (next t s v)) (ℕ_discrete s v)
      where
        by : Dec (u ≡ next t s v) → Dec (s ≡ v) → Beyond t s s u
        by (no n) z = beyond-on s v u u1 un r (feeds-yes t v (next t s v) u n side)
        by (yes e) (yes q) = let z : u ≡ 0 = e ∙ ap (next t s) (sym q) ∙ at-sink in absurd (omega arith)
        by (yes e) (no m) = rw e (beyond-back s v s-one s-known m r)

    pub facing-sink : Facing t s 0
    facing-sink = record { node = s-one; known = s-known; apart = λ e. omega arith; up = λ a b. absurd (omega arith); down = λ a. absurd (omega arith); known_from = omega arith }

    -- ---- the sink is a node, and so every node lies beyond it

    module _ (s-node : NoGap t s) where
      beyond-root : (m c : ℕ) → c ≤ m → 1 ≤ c → c ≤ t.nodes → NoGap t c → Beyond t s s c → Beyond t s s 1
      beyond-root zero c h c1 cn k r = absurd (omega arith)
      beyond-root (suc m) c h c1 cn k r = by (dec_le c 1) (λ x y z i q. beyond-root m (t.parent c) x y z i q)
        where
          less : t.parent c < c
          less = p.smaller c c1 cn

          by : Dec (c ≤ 1) → (t.parent c ≤ m → 1 ≤ t.parent c → t.parent c ≤ t.nodes → NoGap t (t.parent c) → Beyond t s s (t.parent c) → Beyond t s s 1) → Beyond t s s 1
          by (yes l) ih = let e : c ≡ 1 = omega arith in rw e at r
          by (no l) ih =
              let some : 1 ≤ t.parent c = k (omega arith) in
              ih (omega (arith, less)) some (omega (arith, less)) (p.listed c c1 cn) (beyond-near c (t.parent c) c1 cn some (omega (arith, less)) r (inr refl))

      beyond-all : (m u : ℕ) → u ≤ m → 1 ≤ u → u ≤ t.nodes → NoGap t u → Beyond t s s u
      beyond-all zero u h u1 un k = absurd (omega arith)
      beyond-all (suc m) u h u1 un k = by (dec_le u 1) (λ x y z i. beyond-all m (t.parent u) x y z i)
        where
          less : t.parent u < u
          less = p.smaller u u1 un

          by : Dec (u ≤ 1) → (t.parent u ≤ m → 1 ≤ t.parent u → t.parent u ≤ t.nodes → NoGap t (t.parent u) → Beyond t s s (t.parent u)) → Beyond t s s u
          by (yes l) ih = let e : u ≡ 1 = omega arith in rw e (beyond-root s s (le_refl s) s-one s-known s-node here)
          by (no l) ih =
              let some : 1 ≤ t.parent u = k (omega arith) in
              beyond-near (t.parent u) u some (omega (arith, less)) u1 un (ih (omega (arith, less)) some (omega (arith, less)) (p.listed u u1 un)) (inl refl)

      -- every node lies beyond the sink
      pub every : (u : ℕ) → 1 ≤ u → u ≤ t.nodes → NoGap t u → Beyond t s s u
      every u u1 un k = beyond-all u u (le_refl u) u1 un k

      -- ---- a node and its neighbour towards the sink

      facing-beyond : (v u : ℕ) → Facing t v (next t s v) → Beyond t s v u → Facing t u (next t s u)
      facing-beyond v u f here = f
      facing-beyond v u f (there w a b g r) =
          let n : next t s w ≡ v = next-step v w f.node f.known a b g in
          facing-beyond w u (rw n (steps.faces t p v (next t s v) w f a b g)) r

      -- a node faces its neighbour towards the sink
      pub facing : (u : ℕ) → 1 ≤ u → u ≤ t.nodes → NoGap t u → Facing t u (next t s u)
      facing u a b k = facing-beyond s u (rw at-sink facing-sink) (every u a b k)

      fed-beyond : (v u : ℕ) → 1 ≤ v → v ≤ t.nodes → (v ≡ u → ⊥) → Beyond t s v u → other_neighbour t (next t s u) (next t s (next t s u)) u ≡ true
      fed-beyond v u v1 vn m here = absurd (m refl)
      fed-beyond v u v1 vn m (there w a b g r) = by (ℕ_discrete w u) (λ k. fed-beyond w u a b k r)
        where
          n : next t s w ≡ v
          n = next-step v w v1 vn a b g

          by : Dec (w ≡ u) → ((w ≡ u → ⊥) → other_neighbour t (next t s u) (next t s (next t s u)) u ≡ true) → other_neighbour t (next t s u) (next t s (next t s u)) u ≡ true
          by (yes e) ih = subst (λ (x : ℕ). other_neighbour t (next t s x) (next t s (next t s x)) x ≡ true) e (rw n g)
          by (no k) ih = ih k

      -- and is among those that feed it
      pub fed : (u : ℕ) → 1 ≤ u → u ≤ t.nodes → NoGap t u → (u ≡ s → ⊥) → other_neighbour t (next t s u) (next t s (next t s u)) u ≡ true
      fed u a b k m = fed-beyond s u s-one s-known (λ e. m (sym e)) (every u a b k)

      next-beyond : (v u : ℕ) → 1 ≤ v → v ≤ t.nodes → (v ≡ u → ⊥) → Beyond t s v u → (1 ≤ next t s u) × (next t s u ≤ t.nodes)
      next-beyond v u v1 vn m here = absurd (m refl)
      next-beyond v u v1 vn m (there w a b g r) = by (ℕ_discrete w u) (λ k. next-beyond w u a b k r)
        where
          n : next t s w ≡ v
          n = next-step v w v1 vn a b g

          by : Dec (w ≡ u) → ((w ≡ u → ⊥) → (1 ≤ next t s u) × (next t s u ≤ t.nodes)) → (1 ≤ next t s u) × (next t s u ≤ t.nodes)
          by (yes e) ih = subst (λ (x : ℕ). (1 ≤ next t s x) × (next t s x ≤ t.nodes)) e (rw n (v1, vn))
          by (no k) ih = ih k

      -- which is a node
      pub next-node : (u : ℕ) → 1 ≤ u → u ≤ t.nodes → NoGap t u → (u ≡ s → ⊥) → (1 ≤ next t s u) × (next t s u ≤ t.nodes)
      next-node u a b k m = next-beyond s u s-one s-known (λ e. m (sym e)) (every u a b k)

      -- where it leads is a node too
      near-no-gap : (v from w : ℕ) → 1 ≤ v → v ≤ t.nodes → NoGap t v → other_neighbour t v from w ≡ true → NoGap t w
      near-no-gap v from w v1 vn k g = by (steps.next t v from w g).side
        where
          by : (t.parent w ≡ v) ⊎ (t.parent v ≡ w) → NoGap t w
          by (inl e) two = omega (arith, e, v1)
          by (inr e) two = subst (λ (x : ℕ). 1 ≤ t.parent x) e (p.listed v v1 vn (omega (arith, e, two)))

      beyond-no-gap : (v u : ℕ) → 1 ≤ v → v ≤ t.nodes → NoGap t v → (v ≡ u → ⊥) → Beyond t s v u → NoGap t (next t s u)
      beyond-no-gap v u v1 vn k m here = absurd (m refl)
      beyond-no-gap v u v1 vn k m (there w a b g r) = by (ℕ_discrete w u) (λ i. beyond-no-gap w u a b (near-no-gap v (next t s v) w v1 vn k g) i r)
        where
          n : next t s w ≡ v
          n = next-step v w v1 vn a b g

          by : Dec (w ≡ u) → ((w ≡ u → ⊥) → NoGap t (next t s u)) → NoGap t (next t s u)
          by (yes e) ih = subst (λ (x : ℕ). NoGap t (next t s x)) e (subst (NoGap t) (sym n) k)
          by (no i) ih = ih i

      pub next-no-gap : (u : ℕ) → 1 ≤ u → u ≤ t.nodes → NoGap t u → (u ≡ s → ⊥) → NoGap t (next t s u)
      next-no-gap u a b k m = beyond-no-gap s u s-one s-known s-node (λ e. m (sym e)) (every u a b k)

      -- ---- the links that are left to the sink

      abbrev pub left : ℕ → ℕ
      left u = 2 * (t.nodes + 1) - steps.remaining t u (next t s u)

      pub left-falls : (u : ℕ) → 1 ≤ u → u ≤ t.nodes → NoGap t u → (u ≡ s → ⊥) → left (next t s u) < left u
      left-falls u a b k m =
          let n = next-node u a b k m in
          let f = facing (next t s u) n.0 n.1 (next-no-gap u a b k m) in
          let l : steps.remaining t u (next t s u) < steps.remaining t (next t s u) (next t s (next t s u)) =
          steps.falls t p (next t s u) (next t s (next t s u)) u f a b (fed u a b k m) in
          omega (arith, l, steps.most-remains t p (next t s u) (next t s (next t s u)) f)

      pub left-most : (u : ℕ) → left u ≤ 2 * (t.nodes + 1)
      left-most u = omega arith

      -- ---- whose superframe a link lies in

      -- a router's own, where the sink lies below it, and else its parent's
      next-none : (v : ℕ) → (v ≡ s → ⊥) → child_towards t s v ≡ 0 → next t s v ≡ t.parent v
      unfolding child_towards
      next-none v m e = next_up v m e

      pub superframe-node : (v : ℕ) → 1 ≤ v → v ≤ t.nodes → NoGap t v → (v ≡ s → ⊥) → (1 ≤ superframe_of t s v) × (superframe_of t s v ≤ t.nodes)
      unfolding superframe_of
      superframe-node v one most k m = by (child_towards t s v) refl
        where
          by : (c : ℕ) → child_towards t s v ≡ c → (1 ≤ superframe_by c v (t.parent v)) × (superframe_by c v (t.parent v) ≤ t.nodes)
          by zero e = let z : next t s v ≡ t.parent v = next-none v m e in rw z at (next-node v one most k m)
          by (suc c) e = (one, most)

      -- the sink lies below a node exactly where its neighbour towards the sink has a larger number
      pub leads-down : (v : ℕ) → 1 ≤ v → v ≤ t.nodes → (v ≡ s → ⊥) → ltb v (next t s v) ≡ leb 1 (child_towards t s v)
      unfolding child_towards
      leads-down v one most m = by (dec_le 1 (child_by t.nodes t s v))
        where
          by : Dec (1 ≤ child_by t.nodes t s v) → ltb v (next t s v) ≡ leb 1 (child_by t.nodes t s v)
          by (yes h) = rw (next-below v (child_by t.nodes t s v) m h refl, le-leb 1 (child_by t.nodes t s v) h) (lt-ltb v (child_by t.nodes t s v) (child-more t.nodes s v s-known h))
          by (no h) =
              let less : t.parent v < v = p.smaller v one most in
              rw (next_up v m (omega arith), lt-leb 1 (child_by t.nodes t s v) (omega arith)) (le-ltb v (t.parent v) (omega (arith, less)))

      pub superframe-led : (v : ℕ) → 1 ≤ v → v ≤ t.nodes → (v ≡ s → ⊥) → cond (ltb v (next t s v)) v (t.parent v) ≡ superframe_of t s v
      unfolding superframe_of
      superframe-led v one most m = rw (leads-down v one most m) (by (child_towards t s v))
        where
          by : (c : ℕ) → cond (leb 1 c) v (t.parent v) ≡ superframe_by c v (t.parent v)
          by zero = refl
          by (suc c) = rw (le-leb 1 (suc c) (omega arith))
