-- The tables of a surveyed tree, once the walk has made its notes: what the functions on them require and answer, said of the tree. Assumes
-- nothing.
use mathlib.Core.Path.{◌≡◌, refl, sym, ap, ◌∙◌}
use mathlib.Core.Bool.{not, cond, ◌&&◌}
use mathlib.Core.List.{List, [], ◌∷◌}
use Prim.Native.Nat.{ℕ, zero, suc, ◌+◌, ◌-◌, ◌*◌, ◌≤◌, ◌<◌}
use native.Mathlib.Numerals.{add-one}
use native.Mathlib.Decide.{ℕ_discrete}
use native.Mathlib.Omega.{arith}
use lib.Dec.{eqb, ltb}
use lib.ListN.{length, take, length-take, length-append}
use borrow.Author.Tests.{eq-eqb, ne_eqb}
use Rattle.measure.specs.Measures.{slots}
use Rattle.network.specs.Counting.{bit, join}
use Rattle.links.specs.declared.Timing.{Timing}
use Rattle.links.specs.declared.Figures.{Figures}
use Rattle.links.specs.declared.Load.{Load}
use Rattle.links.specs.Link.{slots_of}
use Rattle.settings_model.specs.declared.Radio.{Radio}
use Rattle.settings_model.specs.Laws.{CheckedRadio}
use Rattle.plan_model.specs.Times.{timing_answered, timing_of}
use Rattle.plan_model.proofs.TimesMade.{timing-fits}
use Rattle.plan_model.proofs.TimeLaws.{timed, interval-low, exchange-low}
use Rattle.tree_model.specs.Tree.{Tree, tree_of, Plain}
use Rattle.tree_model.specs.Ways.{next, superframe_of}
use Rattle.tree_model.specs.Loads.{steps, entering}
use Rattle.tree_model.specs.Lines.{load_at, link_at, sink_figures, figures_at, way_delay, route_at, line_at, lines}
use Rattle.tree_model.specs.Checks.{reserves, reservations_at, used_at, reservable_at, router_at, routers_from}
use Rattle.tree_model.proofs.PlainLists.{line-per-node}
use Rattle.tree_model.proofs.LoadBounds.{Short, Low, input-low}
use Rattle.tree_model.proofs.Shares.{sum-ap}
use Rattle.tree_model.proofs.WayLaws.{facing, next-node, superframe-led}
use Rattle.tree_read_model.specs.Survey.{tree_from, tree_in}
use Rattle.tree_plan_model.specs.Inner.{Listing, Given, Right, AllRight, load_in, towards_in}
use Rattle.tree_plan_model.specs.Tables.{Light, Loaded, Led, superframe_in, reserves_in, reservations_in, taken_in, used_in, router_of, routers_in_from, link_for, sink_for, figures_for, delay_in, way_in, route_in, line_in, lines_in}
use Rattle.tree_plan_model.specs.Stages.{parents_in, bursts_in, rates_in, LoadsHeld}
use Rattle.tree_plan_model.proofs.Shaped.{planted-shape, next-same, kind-same, depth_same, way_same}

-- the times of checked settings are in their bounds
pub timing-short : (b : Radio) → CheckedRadio b → Short (timing_of b)
timing-short b C = record { interval = interval-low b C; exchange = omega (arith, exchange-low b C) }

module _ (b : Radio) (C : CheckedRadio b) (ps bs rs : List ℕ) (G : Listing ps bs rs) (sink : ℕ) (s1 : 1 ≤ sink) (sn : sink < length ps) (ns : List ℕ)
    (A : AllRight (timing_of b) (tree_of ps bs rs) sink ns) where
  abbrev T : Tree
  T = tree_of ps bs rs

  abbrev a : Timing
  a = timing_of b

  known : sink ≤ T.nodes
  known = omega (arith, G.some)

  module _ (v : ℕ) (one : 1 ≤ v) (most : v < length ps) where
    node : v ≤ T.nodes
    node = omega (arith, G.some)

    right : Right a T sink ns v
    right = A.each v one node

    -- the load that enters
    load-right : load_in ns v ≡ load_at b T sink v
    unfolding load_at entering
    load-right = right.entered

    rate-right : (load_in ns v).rate.0 ≡ (load_at b T sink v).rate.0
    rate-right = ap (λ (l : Load). l.rate.0) load-right

    low : Low (load_at b T sink v)
    unfolding load_at entering
    low = input-low a T G.planted G.ranged (λ v. refl) (timing-short b C) v (next T sink v) (facing T G.planted sink s1 known (G.without_gaps sink known) v one node (G.without_gaps v node))

    light : Light a (load_in ns v)
    light = record { timed = timed b C; short = timing-short b C; rate = omega (arith, rate-right, low.rate); burst = omega (arith, ap (λ (l : Load). l.burst.0) load-right, low.burst) }

  loaded : Loaded a ps ns
  loaded = record {
    some = omega (arith, G.some);
    few = omega (arith, G.planted.few);
    smaller = λ v one most. G.planted.smaller v one (node v one most);
    light = light;
  }

  led : Led ps ns sink
  led = record {
    some = omega (arith, G.some);
    planted = planted-shape ps bs rs G.planted;
    without_gaps = G.without_gaps;
    sink_some = s1;
    sink_known = sn;
    led = λ v one most. (right v one most).towards ∙ sym (next-same ps bs rs sink v);
  }

  -- ---- numbers 5 and 7

  superframe-right : (v : ℕ) → 1 ≤ v → v < length ps → (v ≡ sink → ⊥) → superframe_in ps ns v ≡ superframe_of T sink v
  unfolding superframe_in
  superframe-right v one most m = rw (right v one most).towards (superframe-led T G.planted sink s1 known (G.without_gaps sink known) v one (node v one most) m)

  reserves-right : (r v : ℕ) → 1 ≤ v → v ≤ length ps - 1 → reserves_in ps ns sink r v ≡ reserves b T sink r v
  unfolding reserves_in reserves
  reserves-right r v one most = by (ℕ_discrete v sink)
    where
      below : v < length ps
      below = omega (arith, G.some)

      by : Dec (v ≡ sink) → (not (eqb v sink) && eqb (superframe_in ps ns v) r && ltb 0 (load_in ns v).rate.0) ≡ (not (eqb v sink) && eqb (superframe_of T sink v) r && ltb 0 (load_at b T sink v).rate.0)
      by (yes e) = rw (eq-eqb v sink e)
      by (no n) = rw (superframe-right v one below n, rate-right v one below)

  reservations-right : (r : ℕ) → reservations_in ps ns sink r ≡ reservations_at b T sink r
  unfolding reservations_in reservations_at
  reservations-right r = sum-ap (λ v. bit (reserves_in ps ns sink r v)) (λ v. bit (reserves b T sink r v)) (length ps - 1) (λ v one most. ap bit (reserves-right r v one most))

  used-right : (r : ℕ) → used_in a ps ns sink r ≡ used_at b T sink r
  unfolding used_in taken_in used_at
  used-right r = ap slots (sum-ap (taken_in a ps ns sink r) (λ v. bit (reserves b T sink r v) * (slots_of a (load_at b T sink v).rate).0) (length ps - 1) each)
    where
      each : (v : ℕ) → 1 ≤ v → v ≤ length ps - 1 → bit (reserves_in ps ns sink r v) * (slots_of a (load_in ns v).rate).0 ≡ bit (reserves b T sink r v) * (slots_of a (load_at b T sink v).rate).0
      each v one most = rw (reserves-right r v one most, load-right v one (omega (arith, G.some)))

  router-right : (r : ℕ) → router_of a b.so ps ns sink r ≡ router_at b T sink r
  unfolding router_of router_at reservable_at
  router-right r = rw (reservations-right r, used-right r)

  routers-right : (n r : ℕ) → routers_in_from a b.so ps ns sink n r ≡ routers_from b T sink n r
  unfolding routers_in_from routers_from
  routers-right zero r = refl
  routers-right (suc n) r = rw (router-right r, routers-right n (suc r))

  -- ---- the lines

  link-right : (v : ℕ) → 1 ≤ v → v < length ps → link_for a (load_in ns v) ≡ link_at b T sink v
  unfolding link_for link_at
  link-right v one most = rw (load-right v one most)

  delay-right : (v : ℕ) → 1 ≤ v → v < length ps → delay_in a ns v ≡ (link_at b T sink v).delay.0
  unfolding delay_in
  delay-right v one most = ap (λ (f : Figures). f.delay.0) (link-right v one most)

  -- the delays of a way, where those of its links are the same
  way-right : (k v : ℕ) → 1 ≤ v → v < length ps → way_delay k (delay_in a ns) T sink v ≡ way_delay k (λ u. (link_at b T sink u).delay.0) T sink v
  unfolding way_delay
  way-right zero v one most = refl
  way-right (suc k) v one most = by (ℕ_discrete v sink) (λ x y. way-right k (next T sink v) x y)
    where
      by : Dec (v ≡ sink)
          → (1 ≤ next T sink v → next T sink v < length ps → way_delay k (delay_in a ns) T sink (next T sink v) ≡ way_delay k (λ u. (link_at b T sink u).delay.0) T sink (next T sink v))
          → cond (eqb v sink) 0 (delay_in a ns v + way_delay k (delay_in a ns) T sink (next T sink v)) ≡ cond (eqb v sink) 0 ((link_at b T sink v).delay.0 + way_delay k (λ u. (link_at b T sink u).delay.0) T sink (next T sink v))
      by (yes e) ih = rw (eq-eqb v sink e)
      by (no n) ih =
          let x = next-node T G.planted sink s1 known (G.without_gaps sink known) v one (node v one most) (G.without_gaps v (node v one most)) n in
          rw (ne_eqb v sink n) (omega (arith, delay-right v one most, ih x.0 (omega (arith, x.1, G.some))))

  sink-right : sink_for a (load_at b T sink sink) ≡ sink_figures b T sink
  unfolding sink_for sink_figures
  sink-right = refl

  figures-right : (v : ℕ) → 1 ≤ v → v < length ps → figures_for a sink v (load_in ns v) ≡ figures_at b T sink v
  unfolding figures_for figures_at
  figures-right v one most = by (ℕ_discrete v sink)
    where
      by : Dec (v ≡ sink) → cond (eqb v sink) (sink_for a (load_in ns v)) (link_for a (load_in ns v)) ≡ cond (eqb v sink) (sink_figures b T sink) (link_at b T sink v)
      by (yes e) = rw (eq-eqb v sink e, load-right v one most, e) (sink-right)
      by (no n) = rw (ne_eqb v sink n) (link-right v one most)

  route-right : (v : ℕ) → 1 ≤ v → v < length ps → route_in a ps ns sink v ≡ route_at b T sink v
  unfolding route_in way_in route_at
  route-right v one most = rw (rate-right v one most, way_same ps bs rs (steps T) (delay_in a ns) sink v, way-right (steps T) v one most)

  line-right : (v : ℕ) → 1 ≤ v → v < length ps → line_in a ps ns sink v ≡ line_at b T sink v
  unfolding line_in line_at
  line-right v one most = rw (kind-same ps bs rs sink v, depth_same ps bs rs v, figures-right v one most, route-right v one most)

  lines-to : (n : ℕ) → n < length ps → lines_in a ps ns sink n ≡ join n (λ i. line_at b T sink (suc i) ∷ [])
  unfolding lines_in join
  lines-to zero h = refl
  lines-to (suc n) h = rw (lines-to n (omega arith), line-right (suc n) (omega arith) h)

  lines-right : lines_in a ps ns sink (length ps - 1) ≡ lines b T sink
  lines-right = lines-to (length ps - 1) (omega (arith, G.some)) ∙ sym (line-per-node T plain b sink)
    where
      plain : Plain T
      plain = record { without_gaps = G.without_gaps; without_summaries = λ v. refl; none_inside = λ v. refl }

-- each node has a line
pub lines-length : (a : Timing) (ps ns : List ℕ) (sink n : ℕ) → length (lines_in a ps ns sink n) ≡ n
unfolding lines_in join
lines-length a ps ns sink zero = refl
lines-length a ps ns sink (suc n) = length-append (join n (λ i. line_in a ps ns sink (suc i) ∷ [])) (line_in a ps ns sink (suc n) ∷ []) ∙ omega (arith, lines-length a ps ns sink n)

-- ---- all of it, of a text and the times that were computed

pub record Tabled (input : List ℕ) (b : Radio) (a : Timing) (sink : ℕ) (ns : List ℕ) : Type 0 where
  pub loads : Loaded a (parents_in input) ns
  pub leads : Led (parents_in input) ns sink
  pub routers : (n r : ℕ) → routers_in_from a b.so (parents_in input) ns sink n r ≡ routers_from b (tree_in input) sink n r
  pub page : lines_in a (parents_in input) ns sink (tree_in input).nodes ≡ lines b (tree_in input) sink
  pub towards : (v : ℕ) → 1 ≤ v → v ≤ (tree_in input).nodes → towards_in ns v ≡ next (tree_in input) sink v
  pub superframe : (v : ℕ) → 1 ≤ v → v ≤ (tree_in input).nodes → (v ≡ sink → ⊥) → superframe_in (parents_in input) ns v ≡ superframe_of (tree_in input) sink v

pub tabled : (input : List ℕ) (b : Radio) (sink n : ℕ) (ks ns : List ℕ) (a : Timing) → a ≡ timing_of b → LoadsHeld input b sink n ks ns → Tabled input b a sink ns
unfolding tree_in tree_from
tabled input b sink n ks ns a e H =
    let ps : List ℕ = parents_in input in
    let sn : sink < length ps = omega (arith, H.sink_known, H.nodes, H.listing.some) in
    rw e
    (record {
      loads = loaded b H.checked ps (bursts_in input) (rates_in input) H.listing sink H.sink_some sn ns H.right;
      leads = led b H.checked ps (bursts_in input) (rates_in input) H.listing sink H.sink_some sn ns H.right;
      routers = routers-right b H.checked ps (bursts_in input) (rates_in input) H.listing sink H.sink_some sn ns H.right;
      page = lines-right b H.checked ps (bursts_in input) (rates_in input) H.listing sink H.sink_some sn ns H.right;
      towards = λ v one most. (H.right.each v one most).towards;
      superframe = λ v one most. superframe-right b H.checked ps (bursts_in input) (rates_in input) H.listing sink H.sink_some sn ns H.right v one (omega (arith, most, H.listing.some));
    })

-- the same of what a stage leaves: the parents are the first entries of the table of kin
module _ (input : List ℕ) (b : Radio) (sink n : ℕ) (ks ns : List ℕ) (H : LoadsHeld input b sink n ks ns) where
  pub few-held : n ≤ 254
  unfolding tree_in tree_from
  few-held = omega (arith, H.nodes, H.listing.planted.few)

  pub parents-held : take (n + 1) ks ≡ parents_in input
  parents-held = rw (add-one n) H.parents

  pub room-held : n + 1 ≤ length ks
  unfolding tree_in tree_from
  room-held = omega (arith, H.nodes, length-take (suc n) ks, ap length H.parents)

  pub tables-held : (a : Timing) → a ≡ timing_answered b → Tabled input b a sink ns
  tables-held a e = tabled input b sink n ks ns a (e ∙ timing-fits b H.checked) H

-- what the walk asks for
pub given : (b : Radio) → CheckedRadio b → (ps bs rs : List ℕ) → Listing ps bs rs → (a : Timing) → a ≡ timing_of b → Given a ps bs rs
given b C ps bs rs G a e = rw e (record { timed = timed b C; short = timing-short b C; listing = G })
