-- The delays of ways, one node after another. Assumes nothing.
use mathlib.Core.Path.{◌≡◌, sym, ◌∙◌}
use mathlib.Core.Logic.{◌⊎◌, inl, inr, ⊎_elim}
use mathlib.Core.List.{List}
use Prim.Native.Nat.{ℕ, ◌+◌, ◌-◌, ◌*◌, ◌≤◌, ◌<◌, ◌^◌}
use native.Mathlib.Nat.{mul-le-mul_right}
use native.Mathlib.Decide.{ℕ_discrete, dec_le}
use native.Mathlib.Omega.{arith}
use lib.ListN.{length, get_or, set}
use lib.Seq.{get_or-set_same}
use Rattle.measure.specs.Measures.{up_to_64}
use Rattle.measure.proofs.Limits.{up_to_fits}
use Rattle.links.specs.declared.Timing.{Timing}
use Rattle.links.specs.declared.Load.{Load}
use Rattle.links.specs.declared.Figures.{Figures}
use Rattle.tree_model.specs.Tree.{Facing}
use Rattle.tree_model.specs.Ways.{next}
use Rattle.tree_model.proofs.Steps as steps
use Rattle.tree_model.proofs.WayLaws.{at-sink, facing, next-node, left-falls}
use Rattle.tree_model.proofs.Delays.{way-sink, way_step, way-most}
use Rattle.tree_plan_model.specs.Inner.{shape, load_in, towards_in, load_noted, towards_noted}
use Rattle.tree_plan_model.specs.Tables.{Light, Loaded, Led, link_for, delay_in, way_in}
use Rattle.tree_plan_model.specs.Filled.{DownFrom, UpTo, WaysSet}
use Rattle.tree_plan_model.proofs.Noting.{load-noted, towards-noted}
use Rattle.tree_ways.proofs.Putting.{entry-put}
use Rattle.tree_ways.proofs.Figuring.{delay-low}

-- ---- one way, put

-- from what the functions answer that make it
pub way-made : (a : Timing) (ns ws : List ℕ) (v u : ℕ) → v < 256 → Light a (load_in ns v) → (l : Load) (f : Figures) (x : ℕ)
    → l ≡ load_noted ns v → (Light a l → f ≡ link_for a l) → x ≡ up_to_64 (f.delay.0 + get_or ws u 0) → x ≡ up_to_64 (delay_in a ns v + get_or ws u 0)
unfolding delay_in
way-made a ns ws v u h light l f x el ef ex =
    let e : l ≡ load_in ns v = el ∙ load-noted ns v h in
    let q : f ≡ link_for a (load_in ns v) = rw e at (ef (rw e light)) in
    ex ∙ rw q

-- ---- the way to the sink

module _ (a : Timing) (ps ns : List ℕ) (sink : ℕ) (D : Loaded a ps ns) (L : Led ps ns sink) where
  -- what is left of it
  abbrev ahead : ℕ → ℕ
  ahead u = 2 * ((shape ps).nodes + 1) - steps.remaining (shape ps) u (next (shape ps) sink u)

  known : (v : ℕ) → v < length ps → v ≤ (shape ps).nodes
  known v h = omega arith

  s-known : sink ≤ (shape ps).nodes
  s-known = known sink L.sink_known

  way-at-sink : way_in a ps ns sink sink ≡ 0
  unfolding way_in
  way-at-sink = way-sink (delay_in a ns) (shape ps) L.planted sink L.sink_some s-known (L.without_gaps sink s-known)

  -- the sink has no neighbour towards it
  sink-stays : towards_in ns sink ≡ 0
  sink-stays = L.led sink L.sink_some L.sink_known ∙ at-sink (shape ps) L.planted sink L.sink_some s-known

  module _ (v : ℕ) (one : 1 ≤ v) (most : v < length ps) where
    faced : Facing (shape ps) v (towards_in ns v)
    faced = rw (L.led v one most) (facing (shape ps) L.planted sink L.sink_some s-known (L.without_gaps sink s-known) v one (known v most) (L.without_gaps v (known v most)))

    -- its delay fits 64 bits
    way-fits : way_in a ps ns sink v < 2 ^ 64
    unfolding way_in delay_in
    way-fits =
        let n : 2 * ((shape ps).nodes + 1) ≤ 510 = omega (arith, L.planted.few) in
        omega (arith, way-most (delay_in a ns) (shape ps) L.planted sink L.sink_some s-known (L.without_gaps sink s-known) (2 ^ 54) (λ u x y. delay-low a (load_in ns u) (D.light u x (omega (arith, y, L.some)))) v one (known v most) (L.without_gaps v (known v most)), mul-le-mul_right (2 ^ 54) n)

    module _ (m : v ≡ sink → ⊥) where
      way_on : way_in a ps ns sink v ≡ delay_in a ns v + way_in a ps ns sink (towards_in ns v)
      unfolding way_in
      way_on = rw (L.led v one most) (way_step (delay_in a ns) (shape ps) L.planted sink L.sink_some s-known (L.without_gaps sink s-known) v one (known v most) (L.without_gaps v (known v most)) m)

      next_known : (1 ≤ towards_in ns v) × (towards_in ns v < length ps)
      next_known =
          let n = next-node (shape ps) L.planted sink L.sink_some s-known (L.without_gaps sink s-known) v one (known v most) (L.without_gaps v (known v most)) m in
          rw (L.led v one most) (n.0, omega (arith, n.1, L.some))

      ahead-falls : ahead (towards_in ns v) < ahead v
      ahead-falls = rw (L.led v one most) (left-falls (shape ps) L.planted sink L.sink_some s-known (L.without_gaps sink s-known) v one (known v most) (L.without_gaps v (known v most)) m)

      -- the sum that is made of it, where the way of the neighbour is right
      sum-right : (ws : List ℕ) → get_or ws (towards_in ns v) 0 ≡ way_in a ps ns sink (towards_in ns v) → up_to_64 (delay_in a ns v + get_or ws (towards_in ns v) 0) ≡ way_in a ps ns sink v
      sum-right ws r =
          let e : delay_in a ns v + get_or ws (towards_in ns v) 0 ≡ way_in a ps ns sink v = rw r (sym way_on) in
          rw e (up_to_fits way-fits)

    -- where the sink lies below v, v is not the sink
    away : v < towards_in ns v → v ≡ sink → ⊥
    away l e = let z : towards_in ns v ≡ 0 = rw e sink-stays in omega (arith, l, z)

  -- and v's neighbour towards it is the sink, or has it below
  down-again : (v : ℕ) → 1 ≤ v → v < length ps → v < towards_in ns v → (towards_in ns v ≡ sink) ⊎ (towards_in ns v < towards_in ns (towards_in ns v))
  down-again v one most l = by (ℕ_discrete (towards_in ns v) sink)
    where
      u : ℕ
      u = towards_in ns v

      n : (1 ≤ u) × (u < length ps)
      n = next_known v one most (away v one most l)

      back : (u ≡ sink → ⊥) → towards_in ns u ≤ u → ⊥
      back m h =
          let f = faced u n.0 n.1 in
          let apart : towards_in ns u ≡ u → ⊥ = λ e. f.apart (sym e) in
          let less : towards_in ns u < u = omega (arith, h, apart) in
          let e : towards_in ns u ≡ v = sym (f.up (next_known u n.0 n.1 m).0 less) ∙ (faced v one most).down l in
          let x : ahead u < ahead v = ahead-falls v one most (away v one most l) in
          let y : ahead v < ahead u = rw e at (ahead-falls u n.0 n.1 m) in
          omega (arith, x, y)

      by : Dec (u ≡ sink) → (u ≡ sink) ⊎ (u < towards_in ns u)
      by (yes e) = inl e
      by (no m) = inr (elim (dec_le (towards_in ns u) u) [ yes h ↦ absurd (back m h) | no h ↦ omega (arith, h) ])

  -- ---- the sink, and the nodes that it lies below, from the last to the first

  pub down-none : (ws : List ℕ) → sink < length ws → DownFrom a ps ns sink (length ps) (set ws sink 0)
  down-none ws l = record { own = get_or-set_same ws sink 0 0 l ∙ sym way-at-sink; downs = λ v x one y z. absurd (omega (arith, x, y)) }

  -- node n, whose neighbour towards the sink is u
  module _ (n : ℕ) (one : 1 ≤ n) (h : n < length ps) (u : ℕ) (e : u ≡ towards_noted ns n) (ws : List ℕ) where
    u-led : u ≡ towards_in ns n
    u-led = e ∙ towards-noted ns n (omega (arith, h, D.few))

    -- where those behind it are set
    module _ (d : DownFrom a ps ns sink (n + 1) ws) where
      pub down-same : u ≤ n → DownFrom a ps ns sink n ws
      down-same l = record { own = d.own; downs = λ v x v1 y z. d.downs v (omega (arith, x, other v z)) v1 y z }
        where
          other : (v : ℕ) → v < towards_in ns v → v ≡ n → ⊥
          other v z q = let w : n < towards_in ns n = rw q at z in omega (arith, w, l, u-led)

      module _ (l : n < u) where
        down : n < towards_in ns n
        down = omega (arith, l, u-led)

        not-sink : n ≡ sink → ⊥
        not-sink = away n one h down

        pub down-low : u < 256
        down-low = omega (arith, u-led, (next_known n one h not-sink).1, D.few)

        rest-right : get_or ws (towards_in ns n) 0 ≡ way_in a ps ns sink (towards_in ns n)
        rest-right =
            let k = next_known n one h not-sink in
            ⊎_elim (λ q. rw q d.own) (λ x. d.downs (towards_in ns n) (omega (arith, down)) k.0 k.1 x) (down-again n one h down)

        pub down-more : n < length ws → (ws' : List ℕ) → ws' ≡ set ws n (up_to_64 (delay_in a ns n + get_or ws u 0)) → DownFrom a ps ns sink n ws'
        down-more w ws' q =
            let right : up_to_64 (delay_in a ns n + get_or ws u 0) ≡ way_in a ps ns sink n = rw u-led (sum-right n one h not-sink ws rest-right) in
            rw q
            (record {
              own = entry-put (way_in a ps ns sink) ws n _ w right sink (λ x. d.own);
              downs = λ v x v1 y z. entry-put (way_in a ps ns sink) ws n _ w right v (λ k. d.downs v (omega (arith, x, k)) v1 y z);
            })

    -- ---- the others, from the first to the last: where those before it are set
    module _ (U : UpTo a ps ns sink (n - 1) ws) where
      pub up_same : (n ≡ sink) ⊎ (n ≤ u) → UpTo a ps ns sink (n + 1 - 1) ws
      up_same s = record { down = U.down; ups = λ v x y z. by v x y z (ℕ_discrete v n) }
        where
          more : n ≤ u → n < towards_in ns n
          more x = let z = (faced n one h).apart in omega (arith, x, z, u-led)

          by : (v : ℕ) → 1 ≤ v → v ≤ n + 1 - 1 → v < length ps → Dec (v ≡ n) → get_or ws v 0 ≡ way_in a ps ns sink v
          by v x y z (yes q) = rw q (⊎_elim (λ k. rw k U.down.own) (λ k. U.down.downs n one one h (more k)) s)
          by v x y z (no q) = U.ups v x (omega (arith, y, q)) z

      pub up_more : (n ≡ sink → ⊥) → u < n → n < length ws → (ws' : List ℕ) → ws' ≡ set ws n (up_to_64 (delay_in a ns n + get_or ws u 0)) → UpTo a ps ns sink (n + 1 - 1) ws'
      up_more m l w ws' q =
          let k = next_known n one h m in
          let rest : get_or ws (towards_in ns n) 0 ≡ way_in a ps ns sink (towards_in ns n) = U.ups (towards_in ns n) k.0 (omega (arith, l, u-led)) k.1 in
          let right : up_to_64 (delay_in a ns n + get_or ws u 0) ≡ way_in a ps ns sink n = rw u-led (sum-right n one h m ws rest) in
          rw q
          (record {
            down = record {
              own = entry-put (way_in a ps ns sink) ws n _ w right sink (λ x. U.down.own);
              downs = λ v x v1 y z. entry-put (way_in a ps ns sink) ws n _ w right v (λ j. U.down.downs v x v1 y z);
            };
            ups = λ v x y z. entry-put (way_in a ps ns sink) ws n _ w right v (λ j. U.ups v x (omega (arith, y, j)) z);
          })

  pub up_none : (ws : List ℕ) → DownFrom a ps ns sink 1 ws → UpTo a ps ns sink 0 ws
  up_none ws d = record { down = d; ups = λ v x y z. absurd (omega (arith, x, y)) }

  pub up-all : (n : ℕ) (ws : List ℕ) → length ps - 1 ≤ n → UpTo a ps ns sink n ws → WaysSet a ps ns sink ws
  up-all n ws l u = record { each = λ v x y. u.ups v x (omega arith) y }
