-- What the functions on a tree's tables require and answer: parents, and the notes of a walk. Assumes nothing: these are definitions.
use Rattle.std.specs.Prelude.{◌≡◌, Bool, not, cond, ◌&&◌, List, [], ◌∷◌, ◌++◌, ℕ, zero, suc, ◌-◌, ◌*◌, ◌≤◌, ◌<◌, ◌^◌, eqb, ltb, length, get_or}
use Rattle.refusals.specs.declared.Refusal.{Refusal}
use Rattle.refusals.specs.declared.Refusal.TheVariants.{InTree}
use Rattle.refusals.specs.declared.TreeRefusal.TheVariants.{RouterReservations, RouterSlots}
use Rattle.refusals.specs.Conditions.{Condition, condition}
use Rattle.measure.specs.declared.Slots.{Slots}
use Rattle.measure.specs.declared.Symbols.{Symbols}
use Rattle.measure.specs.Measures.{symbols, slots, frames, whole_frames}
use Rattle.superframe_model.specs.Orders.{reservable}
use Rattle.network.specs.Counting.{bit, join}
use Rattle.links.specs.declared.Timing.{Timing}
use Rattle.links.specs.declared.Load.{Load}
use Rattle.links.specs.declared.Figures.{Figures}
use Rattle.links.specs.Link.{slots_of, figures_of}
use Rattle.links.specs.Answers.{Timed}
use Rattle.plan_model.specs.Lines.{no_figures, line}
use Rattle.plan_model.specs.declared.NodeLine.{NodeLine}
use Rattle.tree_model.specs.Tree.{Rooted, WithoutGaps, sum_to}
use Rattle.tree_model.specs.Ways.{next, kind_of, depth_of}
use Rattle.tree_model.specs.Loads.{steps}
use Rattle.tree_model.specs.Lines.{way_delay}
use Rattle.tree_model.proofs.LoadBounds.{Short}
use Rattle.tree_plan_model.specs.Inner.{shape, load_in, towards_in}

-- times in their bounds, and a load whose figures fit 64 bits
pub record Light (a : Timing) (l : Load) : Type 0 where
  pub timed : Timed a
  pub short : Short a
  pub rate : l.rate.0 ≤ 1040130
  pub burst : l.burst.0 < 2 ^ 53

-- the parents of a tree of at most 254 nodes, and the loads that enter them
pub record Loaded (a : Timing) (ps ns : List ℕ) : Type 0 where
  pub some : 1 ≤ length ps
  pub few : length ps ≤ 255
  pub smaller : (v : ℕ) → 1 ≤ v → v < length ps → get_or ps v 0 < v
  pub light : (v : ℕ) → 1 ≤ v → v < length ps → Light a (load_in ns v)

-- a tree, and each node's neighbour towards the sink
pub record Led (ps ns : List ℕ) (sink : ℕ) : Type 0 where
  pub some : 1 ≤ length ps
  pub planted : Rooted (shape ps)
  pub without_gaps : WithoutGaps (shape ps)
  pub sink_some : 1 ≤ sink
  pub sink_known : sink < length ps
  pub led : (v : ℕ) → 1 ≤ v → v < length ps → towards_in ns v ≡ next (shape ps) sink v

-- ---- the reservations of a router

-- the router in whose superframe a link lies: the node's own where its neighbour towards the sink is a child, which has a larger number
unfoldable pub superframe_in : List ℕ → List ℕ → ℕ → ℕ
superframe_in ps ns v = cond (ltb v (towards_in ns v)) v (get_or ps v 0)

-- the link of node v has traffic; the sink has no link
unfoldable pub carries_in : List ℕ → ℕ → ℕ → Bool
carries_in ns sink v = not (eqb v sink) && ltb 0 (load_in ns v).rate.0

unfoldable pub reserves_in : List ℕ → List ℕ → ℕ → ℕ → ℕ → Bool
reserves_in ps ns sink r v = not (eqb v sink) && eqb (superframe_in ps ns v) r && ltb 0 (load_in ns v).rate.0

unfoldable pub reservations_in : List ℕ → List ℕ → ℕ → ℕ → ℕ
reservations_in ps ns sink r = sum_to (λ v. bit (reserves_in ps ns sink r v)) (length ps - 1)

-- the slots that a link takes in the superframe of router r
unfoldable pub taken_in : Timing → List ℕ → List ℕ → ℕ → ℕ → ℕ → ℕ
taken_in a ps ns sink r v = bit (reserves_in ps ns sink r v) * (slots_of a (load_in ns v).rate).0

unfoldable pub used_in : Timing → List ℕ → List ℕ → ℕ → ℕ → Slots
used_in a ps ns sink r = slots (sum_to (taken_in a ps ns sink r) (length ps - 1))

-- every router's, counted
pub record Counted (a : Timing) (ps ns : List ℕ) (sink : ℕ) (cs us : List ℕ) : Type 0 where
  pub counts : (r : ℕ) → r < length ps → get_or cs r 0 ≡ reservations_in ps ns sink r
  pub used : (r : ℕ) → r < length ps → slots (get_or us r 0) ≡ used_in a ps ns sink r

-- numbers 5 and 7 of router r, and of n routers from r on, of tables of reservations and of the slots that they use
unfoldable pub router_by : ℕ → List ℕ → List ℕ → ℕ → List (Condition Refusal)
router_by so cs us r =
    condition (ltb 7 (get_or cs r 0)) (InTree (RouterReservations r (get_or cs r 0)))
    ∷ condition (ltb (reservable so (get_or cs r 0)).0 (get_or us r 0)) (InTree (RouterSlots r (slots (get_or us r 0)) (reservable so (get_or cs r 0))))
    ∷ []

unfoldable pub routers_by : ℕ → List ℕ → List ℕ → ℕ → ℕ → List (Condition Refusal)
routers_by so cs us zero r = []
routers_by so cs us (suc n) r = router_by so cs us r ++ routers_by so cs us n (suc r)

-- the same of parents and notes
unfoldable pub router_of : Timing → ℕ → List ℕ → List ℕ → ℕ → ℕ → List (Condition Refusal)
router_of a so ps ns sink r =
    condition (ltb 7 (reservations_in ps ns sink r)) (InTree (RouterReservations r (reservations_in ps ns sink r)))
    ∷ condition (ltb (reservable so (reservations_in ps ns sink r)).0 (used_in a ps ns sink r).0) (InTree (RouterSlots r (used_in a ps ns sink r) (reservable so (reservations_in ps ns sink r))))
    ∷ []

unfoldable pub routers_in_from : Timing → ℕ → List ℕ → List ℕ → ℕ → ℕ → ℕ → List (Condition Refusal)
routers_in_from a so ps ns sink zero r = []
routers_in_from a so ps ns sink (suc n) r = router_of a so ps ns sink r ++ routers_in_from a so ps ns sink n (suc r)

-- ---- the lines

-- the figures of a link, of the sink and of a node
unfoldable pub link_for : Timing → Load → Figures
link_for a l = cond (eqb l.rate.0 0) no_figures (figures_of a l)

unfoldable pub sink_for : Timing → Load → Figures
sink_for a l = record {
  rate = l.rate;
  burst = l.burst;
  slots = slots 0;
  frames = frames 0;
  latency = symbols 0;
  buffer = whole_frames l.burst a.interval;
  delay = symbols 0;
}

unfoldable pub figures_for : Timing → ℕ → ℕ → Load → Figures
figures_for a sink v l = cond (eqb v sink) (sink_for a l) (link_for a l)

-- the delay of a node's link
unfoldable pub delay_in : Timing → List ℕ → ℕ → ℕ
delay_in a ns v = (link_for a (load_in ns v)).delay.0

-- the delays of the links from a node to the sink together
unfoldable pub way_in : Timing → List ℕ → List ℕ → ℕ → ℕ → ℕ
way_in a ps ns sink v = way_delay (steps (shape ps)) (delay_in a ns) (shape ps) sink v

unfoldable pub route_in : Timing → List ℕ → List ℕ → ℕ → ℕ → Symbols
route_in a ps ns sink v = symbols (cond (eqb (load_in ns v).rate.0 0) 0 (way_in a ps ns sink v))

unfoldable pub line_in : Timing → List ℕ → List ℕ → ℕ → ℕ → NodeLine
line_in a ps ns sink v =
    record { line = line (kind_of (shape ps) sink v) (depth_of (shape ps) v) (figures_for a sink v (load_in ns v)); route = route_in a ps ns sink v }

-- of the nodes 1 to n
unfoldable pub lines_in : Timing → List ℕ → List ℕ → ℕ → ℕ → List NodeLine
lines_in a ps ns sink n = join n (λ i. line_in a ps ns sink (suc i) ∷ [])
