-- Every load of a tree fits: its rate is at most 1,040,130 and its burst is below 2^53. Assumes nothing.
use mathlib.Core.Path.{◌≡◌, refl, ap, ◌∙◌}
use mathlib.Core.Bool.{Bool, true, false, cond}
use Prim.Native.Nat.{ℕ, zero, suc, ◌+◌, ◌*◌, ◌^◌, ◌≤◌, ◌<◌}
use native.Mathlib.Nat.{le_refl, mul-le-mul_right}
use native.Mathlib.Omega.{arith}
use Rattle.links.specs.declared.Load.{Load}
use Rattle.links.specs.declared.Timing.{Timing}
use Rattle.links.specs.Link.{after}
use Rattle.links.proofs.LinkLaws.{after-rate, after-bound}
use Rattle.tree_model.specs.Tree.{Tree, sum_to, other_neighbour, Rooted, Ranged, WithoutSummaries, Facing}
use Rattle.tree_model.specs.Loads.{sensed, leaving, gather, input_of, output_of}
use Rattle.tree_model.proofs.Steps.{offered, remaining, falls, faces, input-step, output-step}
use Rattle.tree_model.proofs.Shares.{pick, sum-ap, sum_mono, sum-most, within}
use Rattle.tree_model.proofs.PlainLists.{own-burst}

pub gather-rate : (s : Load) (f : ℕ → Load) (n : ℕ) → (gather s f n).rate.0 ≡ s.rate.0 + sum_to (λ w. (f w).rate.0) n
unfolding gather sum_to
gather-rate s f zero = omega arith
gather-rate s f (suc n) = omega (arith, gather-rate s f n)

pub gather-burst : (s : Load) (f : ℕ → Load) (n : ℕ) → (gather s f n).burst.0 ≡ s.burst.0 + sum_to (λ w. (f w).burst.0) n
unfolding gather sum_to
gather-burst s f zero = omega arith
gather-burst s f (suc n) = omega (arith, gather-burst s f n)

-- a link keeps the rate, and adds to the burst what comes in its latency, or nothing
pub leaving-rate : (a : Timing) (t : Tree) (w : ℕ) (l : Load) → (leaving a t w l).rate.0 ≡ l.rate.0
leaving-rate a t w l = by (t.summary w)
  where
    by : (b : Bool) → (cond b l (after a l)).rate.0 ≡ l.rate.0
    by true = refl
    by false = after-rate a l

pub leaving-bound : (a : Timing) (t : Tree) (w : ℕ) (l : Load) → (leaving a t w l).burst.0 ≤ l.burst.0 + l.rate.0 * (a.interval.0 + 2 * a.exchange.0)
leaving-bound a t w l = by (t.summary w)
  where
    by : (b : Bool) → (cond b l (after a l)).burst.0 ≤ l.burst.0 + l.rate.0 * (a.interval.0 + 2 * a.exchange.0)
    by true = omega arith
    by false = omega (arith, after-bound a l)

module _ (a : Timing) (t : Tree) (p : Rooted t) where
  pub rate-exact : (v from : ℕ) → Facing t v from → (input_of a t v from).rate.0 ≡ t.rate v + sum_to (λ w. pick (other_neighbour t v from w) (input_of a t w v).rate.0) t.nodes
  rate-exact v from f =
      ap (λ (l : Load). l.rate.0) (input-step a t p v from f)
      ∙ gather-rate (sensed a t v) (λ w. offered (other_neighbour t v from w) (output_of a t w v)) t.nodes
      ∙ ap (λ (x : ℕ). t.rate v + x) (sum-ap (λ w. (offered (other_neighbour t v from w) (output_of a t w v)).rate.0) (λ w. pick (other_neighbour t v from w) (input_of a t w v).rate.0) t.nodes (λ w one most. by w one most (other_neighbour t v from w) refl))
    where
      by : (w : ℕ) → 1 ≤ w → w ≤ t.nodes → (b : Bool) → other_neighbour t v from w ≡ b → (offered b (output_of a t w v)).rate.0 ≡ pick b (input_of a t w v).rate.0
      by w one most true e = ap (λ (l : Load). l.rate.0) (output-step a t p w v (faces t p v from w f one most e)) ∙ leaving-rate a t w (input_of a t w v)
      by w one most false e = refl

  pub rate-within : (v from : ℕ) → Facing t v from → (input_of a t v from).rate.0 ≤ sum_to t.rate t.nodes
  rate-within v from f = within t p t.rate (λ v from. (input_of a t v from).rate.0) rate-exact v from f

-- what a link adds to a burst at most
abbrev added : Timing → ℕ
added a = 1040130 * (a.interval.0 + 2 * a.exchange.0)

-- the same tree, its rates what each node and its link can add to a burst
abbrev heavy : Timing → Tree → Tree
heavy a t =
    record { nodes = t.nodes; parent = t.parent; rate = λ v. t.burst v * a.interval.0 + added a; burst = t.burst; summary = t.summary; inside = t.inside }

module _ (a : Timing) (t : Tree) (p : Rooted t) (g : Ranged t) (o : WithoutSummaries t) where
  pub rate-most : (v from : ℕ) → Facing t v from → (input_of a t v from).rate.0 ≤ 1040130
  rate-most v from f =
      omega (arith, rate-within a t p v from f, sum-most t.rate 4095 t.nodes (λ w one most. g.rates w one most), p.few)

  planted : Rooted (heavy a t)
  planted = record { few = p.few; root = p.root; listed = p.listed; smaller = p.smaller }

  facing : (v from : ℕ) → Facing t v from → Facing (heavy a t) v from
  facing v from f = record { node = f.node; known = f.known; apart = f.apart; up = f.up; down = f.down; known_from = f.known_from }

  link-adds : (v from : ℕ) → Facing t v from → (output_of a t v from).burst.0 ≤ (input_of a t v from).burst.0 + added a
  link-adds v from f =
      let e : output_of a t v from ≡ leaving a t v (input_of a t v from) = output-step a t p v from f in
      rw e (omega (arith, leaving-bound a t v (input_of a t v from), mul-le-mul_right (a.interval.0 + 2 * a.exchange.0) (rate-most v from f)))

  burst-below : (m v from : ℕ) → Facing t v from → remaining t v from < m → (input_of a t v from).burst.0 + added a ≤ (input_of a (heavy a t) v from).rate.0
  burst-below zero v from f h = absurd (omega arith)
  burst-below (suc m) v from f h =
      omega (
        arith,
        ap (λ (l : Load). l.burst.0) (input-step a t p v from f)
            ∙ gather-burst (sensed a t v) (λ w. offered (other_neighbour t v from w) (output_of a t w v)) t.nodes,
        own-burst a t o v,
        rate-exact a (heavy a t) planted v from (facing v from f),
        sum_mono (λ w. (offered (other_neighbour t v from w) (output_of a t w v)).burst.0) (λ w. pick (other_neighbour t v from w) (input_of a (heavy a t) w v).rate.0) t.nodes
            (λ w one most. by w one most (other_neighbour t v from w) (λ e. burst-below m w v (faces t p v from w f one most e) (omega (arith, falls t p v from w f one most e))) refl),
      )
    where
      by : (w : ℕ) → 1 ≤ w → w ≤ t.nodes → (b : Bool) → (other_neighbour t v from w ≡ true → (input_of a t w v).burst.0 + added a ≤ (input_of a (heavy a t) w v).rate.0) → other_neighbour t v from w ≡ b → (offered b (output_of a t w v)).burst.0 ≤ pick b (input_of a (heavy a t) w v).rate.0
      by w one most true ih e = omega (arith, link-adds w v (faces t p v from w f one most e), ih e)
      by w one most false ih e = le_refl 0

  pub burst-most : (v from : ℕ) → Facing t v from → (input_of a t v from).burst.0 + added a ≤ 254 * (255 * a.interval.0 + added a)
  burst-most v from f =
      omega (
        arith,
        burst-below (suc (remaining t v from)) v from f (omega arith),
        rate-within a (heavy a t) planted v from (facing v from f),
        sum-most (λ v. t.burst v * a.interval.0 + added a) (255 * a.interval.0 + added a) t.nodes (λ w one most. omega (arith, mul-le-mul_right a.interval.0 (g.bursts w one most))),
        mul-le-mul_right (255 * a.interval.0 + added a) p.few,
      )

-- BI and X as document 01's orders and frames set them
pub record Short (a : Timing) : Type 0 where
  pub interval : a.interval.0 ≤ 15728640
  pub exchange : a.exchange.0 ≤ 4096

-- a load whose numbers are low
pub record Low (l : Load) : Type 0 where
  pub rate : l.rate.0 ≤ 1040130
  pub burst : l.burst.0 < 2 ^ 53

module _ (a : Timing) (t : Tree) (p : Rooted t) (g : Ranged t) (o : WithoutSummaries t) (s : Short a) (v from : ℕ) (f : Facing t v from) where
  -- a load that enters a node, and the load that has left its link
  pub input-low : Low (input_of a t v from)
  input-low = record { rate = rate-most a t p g o v from f; burst = omega (arith, burst-most a t p g o v from f, s.interval, s.exchange) }

  pub output-low : Low (output_of a t v from)
  output-low = record {
    rate = omega (arith, rate-most a t p g o v from f, ap (λ (l : Load). l.rate.0) (output-step a t p v from f), leaving-rate a t v (input_of a t v from));
    burst = omega (arith, link-adds a t p g o v from f, burst-most a t p g o v from f, s.interval, s.exchange);
  }
