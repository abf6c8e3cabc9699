-- The pass over the links of a tree: every router's reservations and the slots that they use. Assumes nothing.
use mathlib.Core.Path.{◌≡◌, refl, ap, ◌∙◌}
use mathlib.Core.Bool.{Bool, true, false, cond, not, ◌&&◌}
use mathlib.Core.List.{List}
use Prim.Native.Nat.{ℕ, suc, ◌+◌, ◌-◌, ◌*◌, ◌≤◌, ◌<◌, ◌^◌}
use native.Mathlib.Nat.{mul-le-mul, mul-le-mul_left, mul-le-mul_right}
use native.Mathlib.Decide.{dec_le}
use native.Mathlib.Omega.{arith}
use lib.Dec.{eqb, ltb}
use lib.ListN.{length, get_or, set, replicate}
use borrow.Author.Tests.{eq-eqb, ne_eqb}
use Rattle.measure.specs.declared.Slots.{Slots}
use Rattle.measure.specs.Measures.{slots, up_to_64}
use Rattle.measure.proofs.Limits.{up_to_fits}
use Rattle.network.specs.Counting.{bit}
use Rattle.links.specs.declared.Timing.{Timing}
use Rattle.links.specs.declared.Load.{Load}
use Rattle.links.specs.declared.Reservation.{Reservation}
use Rattle.links.specs.Link.{slots_of, reservation_of}
use Rattle.links.specs.Answers.{reservation_answered}
use Rattle.links.proofs.Making.{reservation-fits}
use Rattle.links.proofs.LinkLaws.{slots-long}
use Rattle.tree_model.specs.Tree.{sum_to}
use Rattle.tree_model.proofs.Shares.{sum-ap}
use Rattle.tree_plan_model.specs.Inner.{load_in, towards_in, load_noted}
use Rattle.tree_plan_model.specs.Tables.{Light, Loaded, superframe_in, carries_in, reserves_in, reservations_in, taken_in, used_in, Counted}
use Rattle.tree_plan_model.proofs.Noting.{load-noted}
use Rattle.tree_slots.proofs.Scatter.{share, Tallied, tally-none, tally-more, tally-same, tally-most}

-- ---- one link

module _ (ns : List ℕ) (sink v : ℕ) where
  pub sink-carries-none : v ≡ sink → not (eqb v sink) ≡ carries_in ns sink v
  unfolding carries_in
  sink-carries-none e = rw (eq-eqb v sink e)

  pub others-carry : (l : Load) → (v ≡ sink → ⊥) → v < 256 → l ≡ load_noted ns v → ltb 0 l.rate.0 ≡ carries_in ns sink v
  unfolding carries_in
  others-carry l n h e = rw (ne_eqb v sink n, e, load-noted ns v h)

-- the slots of the answered reservation are the rate's
pub slots-answered : (a : Timing) (ns : List ℕ) (v : ℕ) (l : Load) (k : Reservation) → Light a (load_in ns v) → v < 256 → l ≡ load_noted ns v → k ≡ reservation_answered a l.rate
    → k.slots ≡ slots_of a (load_in ns v).rate
unfolding reservation_of
slots-answered a ns v l k L h el ek =
    let q : k ≡ reservation_answered a (load_in ns v).rate = ek ∙ ap (λ (x : Load). reservation_answered a x.rate) (el ∙ load-noted ns v h) in
    ap (λ (x : Reservation). x.slots) (q ∙ reservation-fits a (load_in ns v).rate L.timed (omega (arith, L.rate)))

-- and at most 2^33
one_less : (k s : ℕ) → 1 ≤ k → (k - 1) * s + s ≡ k * s
one_less k s h = let z : suc (k - 1) ≡ k = omega arith in omega (arith, ap (λ (x : ℕ). x * s) z)

slots-few : (a : Timing) (l : Load) → Light a l → (slots_of a l.rate).0 ≤ 2 ^ 33
slots-few a l L = by (dec_le (slots_of a l.rate).0 (2 ^ 33))
  where
    by : Dec ((slots_of a l.rate).0 ≤ 2 ^ 33) → (slots_of a l.rate).0 ≤ 2 ^ 33
    by (yes h) = h
    by (no h) =
        let k : 1 ≤ a.slot.0 = L.timed.slot_some in
        absurd (omega (arith, slots-long a l.rate L.timed, mul-le-mul L.rate L.short.exchange, mul-le-mul_left ((slots_of a l.rate).0 - 1) k, one_less (slots_of a l.rate).0 a.slot.0 (omega arith)))

-- ---- the links

-- each with traffic, and its slots
abbrev pub one : List ℕ → ℕ → ℕ → ℕ
one ns sink v = bit (carries_in ns sink v)

abbrev pub many : Timing → List ℕ → ℕ → ℕ → ℕ
many a ns sink v = bit (carries_in ns sink v) * (slots_of a (load_in ns v).rate).0

-- the invariant: after the links of the nodes up to v
pub record PassedTo (a : Timing) (ps ns : List ℕ) (sink v : ℕ) (cs us : List ℕ) : Type 0 where
  pub counts : Tallied (superframe_in ps ns) (one ns sink) v cs
  pub used : Tallied (superframe_in ps ns) (many a ns sink) v us

bit-most : (b : Bool) (n m : ℕ) → n ≤ m → bit b * n ≤ m
unfolding bit
bit-most true n m h = omega (arith, h)
bit-most false n m h = omega arith

three : (x y z : Bool) → bit y * bit (x && z) ≡ bit (x && y && z)
unfolding bit
three true true true = refl
three true true false = refl
three true false z = omega arith
three false true z = refl
three false false z = refl

module _ (a : Timing) (ps ns : List ℕ) (sink : ℕ) where
  reserves-both : (r v : ℕ) → bit (eqb (superframe_in ps ns v) r) * bit (carries_in ns sink v) ≡ bit (reserves_in ps ns sink r v)
  unfolding carries_in reserves_in
  reserves-both r v = three (not (eqb v sink)) (eqb (superframe_in ps ns v) r) (ltb 0 (load_in ns v).rate.0)

  count-shares : (r : ℕ) → sum_to (share (superframe_in ps ns) (one ns sink) r) (length ps - 1) ≡ reservations_in ps ns sink r
  unfolding reservations_in
  count-shares r = sum-ap _ _ (length ps - 1) (λ v _ _. reserves-both r v)

  used-shares : (r : ℕ) → slots (sum_to (share (superframe_in ps ns) (many a ns sink) r) (length ps - 1)) ≡ used_in a ps ns sink r
  unfolding used_in taken_in
  used-shares r = ap slots (sum-ap _ _ (length ps - 1) (λ v _ _. omega (arith, ap (λ (x : ℕ). x * (slots_of a (load_in ns v).rate).0) (reserves-both r v))))

  pub passed_none : (cs us : List ℕ) → cs ≡ replicate 256 0 → us ≡ replicate 256 0 → PassedTo a ps ns sink 0 cs us
  passed_none cs us zc zu = record { counts = tally-none _ _ cs zc; used = tally-none _ _ us zu }

  pub passed-same : (v : ℕ) (cs us : List ℕ) → 1 ≤ v → false ≡ carries_in ns sink v → PassedTo a ps ns sink (v - 1) cs us → PassedTo a ps ns sink (v + 1 - 1) cs us
  unfolding bit
  passed-same v cs us one-v e p = record { counts = tally-same _ _ v one-v cs (rw (← e)) p.counts; used = tally-same _ _ v one-v us (rw (← e) (omega arith)) p.used }

  pub passed-all : (n : ℕ) (cs us : List ℕ) → length ps ≤ 255 → n ≡ length ps - 1 → PassedTo a ps ns sink n cs us → Counted a ps ns sink cs us
  passed-all n cs us few e p =
      record {
        counts = λ r h. (rw e at (p.counts.each r (omega arith))) ∙ count-shares r;
        used = λ r h. ap slots (rw e at (p.used.each r (omega arith))) ∙ used-shares r;
      }

  module _ (L : Loaded a ps ns) where
    pub superframe-known : (v : ℕ) → 1 ≤ v → v < length ps → superframe_in ps ns v < 255
    unfolding superframe_in
    superframe-known v some h = by (ltb v (towards_in ns v))
      where
        by : (b : Bool) → cond b v (get_or ps v 0) < 255
        by true = omega (arith, h, L.few)
        by false = omega (arith, h, L.few, L.smaller v some h)

    pub router-low : (v r : ℕ) → 1 ≤ v → v < length ps → r ≡ superframe_in ps ns v → r < 256
    router-low v r some h e = omega (arith, e, superframe-known v some h)

    -- an entry has room for one more link, that of node v
    module _ (v : ℕ) (one-v : 1 ≤ v) (h : v < length ps) (r : ℕ) (l : r < 256) (cs us : List ℕ) (p : PassedTo a ps ns sink (v - 1) cs us) where
      pub count_fits : get_or cs r 0 + 1 < 256
      unfolding bit
      count_fits = omega (arith, h, L.few, tally-most (superframe_in ps ns) (one ns sink) (v - 1) 1 r cs l p.counts (λ w _ _. by (carries_in ns sink w)))
        where
          by : (b : Bool) → bit b ≤ 1
          by true = omega arith
          by false = omega arith

      used-fits : get_or us r 0 + (slots_of a (load_in ns v).rate).0 < 2 ^ 64
      used-fits =
          let k : v - 1 ≤ 254 = omega (arith, h, L.few) in
          omega (
            arith,
            slots-few a (load_in ns v) (L.light v one-v h),
            mul-le-mul_right (2 ^ 33) k,
            tally-most (superframe_in ps ns) (many a ns sink) (v - 1) (2 ^ 33) r us l p.used
                (λ w x y. bit-most (carries_in ns sink w) _ _ (slots-few a (load_in ns w) (L.light w x (omega (arith, y, h))))),
          )

    pub passed-more : (v r : ℕ) (k : Slots) (cs us us' : List ℕ) → 1 ≤ v → v < length ps → true ≡ carries_in ns sink v → r ≡ superframe_in ps ns v
        → k ≡ slots_of a (load_in ns v).rate → us' ≡ set us r (up_to_64 (get_or us r 0 + k.0)) → PassedTo a ps ns sink (v - 1) cs us
        → PassedTo a ps ns sink (v + 1 - 1) (set cs r (get_or cs r 0 + 1)) us'
    unfolding bit
    passed-more v r k cs us us' one-v h e er ek eu p =
        let l : r < 256 = router-low v r one-v h er in
        let c : 1 ≡ one ns sink v = rw (← e) in
        let m : k.0 ≡ many a ns sink v = rw (← e, ek) (omega arith) in
        let f : up_to_64 (get_or us r 0 + k.0) ≡ get_or us r 0 + k.0 = up_to_fits (omega (arith, used-fits v one-v h r l cs us p, ap (λ (x : Slots). x.0) ek)) in
        record {
          counts = tally-more _ _ v one-v cs r 1 er c l p.counts;
          used = rw (eu, f) (tally-more _ _ v one-v us r k.0 er m l p.used);
        }
