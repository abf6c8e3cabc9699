-- The neighbours of a node taken one after the other. Assumes nothing.
use mathlib.Core.Path.{◌≡◌, refl, sym, ap₂, ◌∙◌}
use mathlib.Core.Bool.{true, false}
use mathlib.Core.List.{List}
use Prim.Native.Nat.{ℕ, ◌+◌, ◌^◌, ◌≤◌, ◌<◌}
use native.Mathlib.Nat.{add-zero}
use native.Mathlib.Numerals.{add-one}
use native.Mathlib.Decide.{le_ind}
use native.Mathlib.Omega.{arith}
use lib.ListN.{length, get_or, take}
use Rattle.measure.specs.Measures.{frames, burst}
use Rattle.links.specs.declared.Load.{Load}
use Rattle.links.specs.declared.Timing.{Timing}
use Rattle.links.specs.declared.Reservation.{Reservation}
use Rattle.links.specs.Link.{load, plus, load_up_to_64, reservation_of, after_link, after}
use Rattle.links.specs.Answers.{reservation_answered, Timed}
use Rattle.links.proofs.Making.{load_fits, reservation-fits}
use Rattle.tree_model.specs.Tree.{Tree, tree_of, other_neighbour, Rooted, Ranged, WithoutSummaries, Facing}
use Rattle.tree_model.specs.Loads.{sensed, gather, input_of, output_of}
use Rattle.tree_model.proofs.Steps.{offered, input-step, output-step}
use Rattle.tree_model.proofs.PlainLists.{link-crossed}
use Rattle.tree_loads.proofs.Prefix.{prefix-at}
use Rattle.tree_model.proofs.LoadBounds.{Short, Low, input-low, output-low}

-- what the own sensor and the neighbours up to w bring
abbrev pub so_far : Timing → Tree → ℕ → ℕ → ℕ → Load
so_far a t v from w = gather (sensed a t v) (λ u. offered (other_neighbour t v from u) (output_of a t u v)) w

-- what the own sensor makes, from the entries of tables
pub sensed-own : (a : Timing) (n : ℕ) (ps bs rs : List ℕ) (v : ℕ) → v < length (take n bs) → v < length (take n rs)
    → load (get_or rs v 0) (burst (frames (get_or bs v 0)) a.interval).0 ≡ sensed a (tree_of (take n ps) (take n bs) (take n rs)) v
sensed-own a n ps bs rs v hb hr = rw (prefix-at n bs v hb, prefix-at n rs v hr)

module _ (a : Timing) (t : Tree) (v from : ℕ) where
  pub none_yet : sensed a t v ≡ so_far a t v from 0
  unfolding gather
  none_yet = refl

  pub more : (w : ℕ) (l o : Load) → l ≡ so_far a t v from w → other_neighbour t v from (w + 1) ≡ true → o ≡ output_of a t (w + 1) v → plus l o ≡ so_far a t v from (w + 1)
  unfolding gather
  more w l o e b x = rw (e, x, add-one) (rw (rw add-one at b))

  pub same : (w : ℕ) (l : Load) → l ≡ so_far a t v from w → other_neighbour t v from (w + 1) ≡ false → l ≡ so_far a t v from (w + 1)
  unfolding gather
  same w l e b =
      rw add-one (rw (rw add-one at b) (e ∙ sym (ap₂ load (add-zero (so_far a t v from w).rate.0) (add-zero (so_far a t v from w).burst.0))))

record Under (l m : Load) : Type 0 where
  rate : l.rate.0 ≤ m.rate.0
  burst : l.burst.0 ≤ m.burst.0

gather-le : (s : Load) (f : ℕ → Load) (k n : ℕ) → k ≤ n → Under (gather s f k) (gather s f n)
unfolding gather
gather-le s f k n h = le_ind (λ (m : ℕ). Under (gather s f k) (gather s f m)) (omega arith) (λ m l e. omega arith) n h

module _ (a : Timing) (t : Tree) (p : Rooted t) (g : Ranged t) (o : WithoutSummaries t) (s : Short a) (v from : ℕ) (f : Facing t v from) where
  part_low : (w : ℕ) → w ≤ t.nodes → Low (so_far a t v from w)
  part_low w h =
      let e : Low (gather (sensed a t v) (λ u. offered (other_neighbour t v from u) (output_of a t u v)) t.nodes) = rw (input-step a t p v from f) at (input-low a t p g o s v from f) in
      let u = gather-le (sensed a t v) (λ u. offered (other_neighbour t v from u) (output_of a t u v)) w t.nodes h in
      record { rate = omega (arith, e.rate, u.rate); burst = omega (arith, e.burst, u.burst) }

  -- so the sum of the code is the definition's
  pub part-fits : (w : ℕ) → w ≤ t.nodes → load_up_to_64 (so_far a t v from w) ≡ so_far a t v from w
  part-fits w h = let l = part_low w h in load_fits (so_far a t v from w) (omega (arith, l.rate)) (omega (arith, l.burst))

-- the load that has left a link, as code computes it
module _ (a : Timing) (t : Tree) (p : Rooted t) (g : Ranged t) (own : WithoutSummaries t) (d : Timed a) (s : Short a) (v from : ℕ) (f : Facing t v from) where
  pub output-made : (i o : Load) (r : Reservation) → i ≡ input_of a t v from → r ≡ reservation_answered a i.rate → o ≡ load_up_to_64 (after_link i r) → o ≡ output_of a t v from
  unfolding after
  output-made i o r ei er eo =
      let low : i.rate.0 < 2 ^ 40 = rw ei (omega (arith, (input-low a t p g own s v from f).rate)) in
      let e : r ≡ reservation_of a i.rate = er ∙ reservation-fits a i.rate d low in
      let w : output_of a t v from ≡ after_link i r = rw (e, ei) (output-step a t p v from f ∙ link-crossed a t own v (input_of a t v from)) in
      let l = output-low a t p g own s v from f in
      eo ∙ load_fits (after_link i r) (rw (sym w) (omega (arith, l.rate))) (rw (sym w) (omega (arith, l.burst))) ∙ sym w
