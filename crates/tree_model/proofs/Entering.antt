-- What enters a node is what its own sensor makes and what has left the links that lead to it; where it is silent, it has no burst either.
-- Assumes nothing.
use mathlib.Core.Path.{◌≡◌, refl, ap, ◌∙◌}
use mathlib.Core.Bool.{Bool, true, false}
use Prim.Native.Nat.{ℕ, zero, suc, ◌+◌, ◌*◌, ◌≤◌, ◌<◌}
use native.Mathlib.Nat.{le_refl}
use native.Mathlib.Omega.{arith}
use Rattle.network.specs.Counting.{total, bit}
use Rattle.links.specs.declared.Timing.{Timing}
use Rattle.links.specs.declared.Load.{Load}
use Rattle.links.specs.Link.{latency_of}
use Rattle.links.proofs.LinkLaws.{after-burst}
use Rattle.tree_model.specs.Tree.{Tree, sum_to, other_neighbour, Rooted, Ranged, WithoutGaps, WithoutSummaries, Facing}
use Rattle.tree_model.specs.Ways.{next}
use Rattle.tree_model.specs.Loads.{sensed, leaving, input_of, output_of, entering}
use Rattle.tree_model.proofs.Steps.{offered, remaining, falls, faces, input-step, output-step}
use Rattle.tree_model.proofs.Shares.{pick, sum_mono, sum-has}
use Rattle.tree_model.proofs.PlainLists.{own-burst, link-crossed}
use Rattle.tree_model.proofs.LoadBounds.{gather-rate, gather-burst, rate-exact}
use Rattle.tree_model.proofs.WayLaws.{facing, fed}

-- a sum over the run's numbers is one over nodes
pub total-nodes : (f : ℕ → ℕ) (n : ℕ) → total (λ i. f (suc i)) n ≡ sum_to f n
unfolding total sum_to
total-nodes f zero = refl
total-nodes f (suc n) = ap (λ (x : ℕ). x + f (suc n)) (total-nodes f n)

pub sum-zero : (f : ℕ → ℕ) (n : ℕ) → ((w : ℕ) → 1 ≤ w → w ≤ n → f w ≡ 0) → sum_to f n ≡ 0
unfolding sum_to
sum-zero f zero h = refl
sum-zero f (suc n) h = omega (arith, sum-zero f n (λ w a b. h w a (omega arith)), h (suc n) (omega arith) (le_refl (suc n)))

module _ (a : Timing) (t : Tree) (p : Rooted t) (g : Ranged t) (o : WithoutSummaries t) where
  -- a node that nothing enters in the long run has nothing that enters at once
  silent-by : (m v from : ℕ) → Facing t v from → remaining t v from < m → (input_of a t v from).rate.0 ≡ 0 → (input_of a t v from).burst.0 ≡ 0
  silent-by zero v from f h z = absurd (omega arith)
  silent-by (suc m) v from f h z =
      let x : (input_of a t v from).rate.0 ≡ t.rate v + sum_to (λ w. pick (other_neighbour t v from w) (input_of a t w v).rate.0) t.nodes = rate-exact a t p v from f in
      let own : t.burst v ≡ 0 = g.both v f.node f.known (omega (arith, x)) in
      let rest : sum_to (λ w. (offered (other_neighbour t v from w) (output_of a t w v)).burst.0) t.nodes ≡ 0 =
      sum-zero (λ w. (offered (other_neighbour t v from w) (output_of a t w v)).burst.0) t.nodes
      (λ w one most. by w one most (other_neighbour t v from w) refl (sum-has (λ w. pick (other_neighbour t v from w) (input_of a t w v).rate.0) w t.nodes one most) x
      (λ e. silent-by m w v (faces t p v from w f one most e) (omega (arith, falls t p v from w f one most e)))) in
      ap (λ (l : Load). l.burst.0) (input-step a t p v from f)
      ∙ gather-burst (sensed a t v) (λ w. offered (other_neighbour t v from w) (output_of a t w v)) t.nodes
      ∙ omega (arith, rest, own-burst a t o v, ap (λ (n : ℕ). n * a.interval.0) own)
    where
      by : (w : ℕ) → 1 ≤ w → w ≤ t.nodes → (c : Bool) → other_neighbour t v from w ≡ c
          → pick c (input_of a t w v).rate.0 ≤ sum_to (λ w. pick (other_neighbour t v from w) (input_of a t w v).rate.0) t.nodes
          → (input_of a t v from).rate.0 ≡ t.rate v + sum_to (λ w. pick (other_neighbour t v from w) (input_of a t w v).rate.0) t.nodes
          → (other_neighbour t v from w ≡ true → (input_of a t w v).rate.0 ≡ 0 → (input_of a t w v).burst.0 ≡ 0)
          → (offered c (output_of a t w v)).burst.0 ≡ 0
      by w one most true e l x ih =
          let r : (input_of a t w v).rate.0 ≡ 0 = omega (arith, l, x) in
          ap (λ (k : Load). k.burst.0) (output-step a t p w v (faces t p v from w f one most e))
          ∙ ap (λ (k : Load). k.burst.0) (link-crossed a t o w (input_of a t w v))
          ∙ after-burst a (input_of a t w v)
          ∙ omega (arith, ih e r, ap (λ (n : ℕ). n * (latency_of a (input_of a t w v).rate).0) r)
      by w one most false e l x ih = refl

  pub silent : (v from : ℕ) → Facing t v from → (input_of a t v from).rate.0 ≡ 0 → (input_of a t v from).burst.0 ≡ 0
  silent v from f z = silent-by (suc (remaining t v from)) v from f (omega arith) z

module _ (a : Timing) (t : Tree) (p : Rooted t) (s : ℕ) (s-one : 1 ≤ s) (s-known : s ≤ t.nodes) (full : WithoutGaps t) where
  -- what has left the links that lead to v is among what enters v; `q` is a load's rate, or its burst
  module _ (q : Load → ℕ)
      (adds : (v from : ℕ) → Facing t v from → q (input_of a t v from) ≡ q (sensed a t v) + sum_to (λ w. q (offered (other_neighbour t v from w) (output_of a t w v))) t.nodes)
      (out : ℕ → ℕ) (leaves : (w : ℕ) → 1 ≤ w → w ≤ t.nodes → (w ≡ s → ⊥) → out w ≡ q (leaving a t w (entering a t s w))) where
    pub enters : (v : ℕ) → 1 ≤ v → v ≤ t.nodes → (sent : ℕ → Bool) → ((w : ℕ) → 1 ≤ w → w ≤ t.nodes → sent w ≡ true → (w ≡ s → ⊥) × (next t s w ≡ v))
        → q (sensed a t v) + sum_to (λ w. bit (sent w) * out w) t.nodes ≤ q (entering a t s v)
    unfolding entering bit
    enters v one most sent only =
        omega (
          arith,
          adds v (next t s v) (facing t p s s-one s-known (full s s-known) v one most (full v most)),
          sum_mono (λ w. bit (sent w) * out w) (λ w. q (offered (other_neighbour t v (next t s v) w) (output_of a t w v))) t.nodes
              (λ w w1 wn. by w w1 wn (sent w) refl),
        )
      where
        by : (w : ℕ) → 1 ≤ w → w ≤ t.nodes → (c : Bool) → sent w ≡ c → bit c * out w ≤ q (offered (other_neighbour t v (next t s v) w) (output_of a t w v))
        by w w1 wn false e = omega arith
        by w w1 wn true e =
            let o = only w w1 wn e in
            let f : other_neighbour t v (next t s v) w ≡ true = rw o.1 at (fed t p s s-one s-known (full s s-known) w w1 wn (full w wn) o.0) in
            let f2 : Facing t w v = rw o.1 at (facing t p s s-one s-known (full s s-known) w w1 wn (full w wn)) in
            let l : out w ≡ q (leaving a t w (input_of a t w v)) = rw o.1 at (leaves w w1 wn o.0) in
            rw (f, output-step a t p w v f2) (omega (arith, l))

-- rates and bursts add up so
pub rates-add : (a : Timing) (t : Tree) → Rooted t → (v from : ℕ) → Facing t v from
    → (input_of a t v from).rate.0 ≡ (sensed a t v).rate.0 + sum_to (λ w. (offered (other_neighbour t v from w) (output_of a t w v)).rate.0) t.nodes
rates-add a t p v from f =
    ap (λ (l : Load). l.rate.0) (input-step a t p v from f) ∙ gather-rate (sensed a t v) (λ w. offered (other_neighbour t v from w) (output_of a t w v)) t.nodes

pub bursts-add : (a : Timing) (t : Tree) → Rooted t → (v from : ℕ) → Facing t v from
    → (input_of a t v from).burst.0 ≡ (sensed a t v).burst.0 + sum_to (λ w. (offered (other_neighbour t v from w) (output_of a t w v)).burst.0) t.nodes
bursts-add a t p v from f =
    ap (λ (l : Load). l.burst.0) (input-step a t p v from f) ∙ gather-burst (sensed a t v) (λ w. offered (other_neighbour t v from w) (output_of a t w v)) t.nodes
