-- What holds of surveyed trees' plans: demands 2 and 3 as short statements. Assumes nothing: these are statements; proofs/LawsHold proves
-- them.
use Rattle.std.specs.Prelude.{◌≡◌, ◌↔◌, false, List, [], ◌∷◌, ℕ, suc, ◌+◌, ◌≤◌, ◌<◌, ◌^◌}
use Rattle.superframe_model.specs.Reservation.{Smallest}
use Rattle.network.specs.Counting.{All, bit, join}
use Rattle.network.specs.Model.{Network, State, queue}
use Rattle.network.specs.Readings.{Reading}
use Rattle.measure.specs.Measures.{frames, burst}
use Rattle.links.specs.declared.Load.{Load}
use Rattle.links.specs.Link.{load, after}
use Rattle.settings_model.specs.declared.Radio.{Radio}
use Rattle.settings_model.specs.Laws.{CheckedRadio}
use Rattle.plan_model.specs.declared.Kind.TheVariants.{Sink}
use Rattle.plan_model.specs.Times.{timing_of, superframes}
use Rattle.plan_model.specs.Lines.{same_kind}
use Rattle.plan_model.specs.declared.NodeLine.{NodeLine}
use Rattle.tree_model.specs.Tree.{Tree, tree_of, Rooted, Ranged, Plain, sum_to, is_router, routers}
use Rattle.tree_model.specs.Loads.{sensed, leaving}
use Rattle.tree_model.specs.Lines.{load_at, line_at, lines}
use Rattle.tree_model.specs.Checks.{reservations_at, used_at, reservable_at}
use Rattle.refusals.specs.Outcome.{Planned}
use Rattle.tree_model.specs.Outcome.{outcome_of}
use Rattle.tree_model.specs.Promise.{longest, Windows, Held, Keeps}

-- a tree that keeps number 10: its node list keeps every rule, numbers its nodes 1, 2, .., and the sink is one of them
pub record Surveyed (t : Tree) (sink : ℕ) : Type 0 where
  pub planted : Rooted t
  pub ranged : Ranged t
  pub plain : Plain t
  pub sink_some : 1 ≤ sink
  pub sink_known : sink ≤ t.nodes

-- ---- E3's lists, among trees with gaps and summaries

-- "Node 1 is the root with PARENT 0; any other parent has a smaller number", of at most 254 nodes 1, 2, ..
pub record Consecutive (t : Tree) : Type 0 where
  pub few : t.nodes ≤ 254
  pub root : t.parent 1 ≡ 0
  pub parents : (v : ℕ) → 2 ≤ v → v ≤ t.nodes → (1 ≤ t.parent v) × (t.parent v < v)

-- these rules, the ranges and the sink are all that a plain list has to keep
abbrev pub PlainListSurveyed : Type 0
PlainListSurveyed = (parents bursts rates : List ℕ) (sink : ℕ) → Consecutive (tree_of parents bursts rates) → Ranged (tree_of parents bursts rates)
    → 1 ≤ sink → sink ≤ (tree_of parents bursts rates).nodes → Surveyed (tree_of parents bursts rates) sink

-- and what is defined for gaps and summaries is of a plain tree what E3 has
pub record AsInE3 (b : Radio) (t : Tree) (sink : ℕ) : Type 0 where
  -- "a line per node, in node order"
  pub lines : lines b t sink ≡ join t.nodes (λ i. line_at b t sink (suc i) ∷ [])
  -- number 6 counts the list's own routers
  pub routers : routers t ≡ sum_to (λ v. bit (is_router t v)) t.nodes
  -- β = BURST × BI, and every link adds what comes in its latency
  pub sensed : (v : ℕ) → sensed (timing_of b) t v ≡ load (t.rate v) (burst (frames (t.burst v)) (timing_of b).interval).0
  pub leaving : (w : ℕ) (l : Load) → leaving (timing_of b) t w l ≡ after (timing_of b) l

abbrev pub PlainAsInE3 : Type 0
PlainAsInE3 = (b : Radio) (t : Tree) (sink : ℕ) → Plain t → AsInE3 b t sink

-- ---- demand 2

-- numbers 3 to 7 as propositions
pub record Plannable (b : Radio) (t : Tree) (sink : ℕ) : Type 0 where
  pub checked : CheckedRadio b
  pub routers : routers t ≤ superframes b
  pub reservations : (r : ℕ) → 1 ≤ r → r ≤ t.nodes → reservations_at b t sink r ≤ 7
  pub used : (r : ℕ) → 1 ≤ r → r ≤ t.nodes → (used_at b t sink r).0 ≤ (reservable_at b t sink r).0

-- planned exactly where all conditions hold, and then with the lines of the recurrences
abbrev pub PlannedExactly : Type 0
PlannedExactly = (b : Radio) (t : Tree) (sink : ℕ) (p : List NodeLine)
    → (outcome_of b t sink ≡ Planned p) ↔ (Plannable b t sink × (lines b t sink ≡ p))

-- "no reservation has a slot more than its rate needs": on every line but the sink's SLOTS is the smallest count that holds RATE, also where
-- RATE is 0
abbrev pub NoSlotTooMany : Type 0
NoSlotTooMany = (b : Radio) (t : Tree) (sink : ℕ) (p : List NodeLine) → outcome_of b t sink ≡ Planned p
    → All (λ l. same_kind l.line.kind Sink ≡ false → Smallest l.line.figures.rate (timing_of b).slot (timing_of b).exchange l.line.figures.slots) p

-- the bound on every load, also of a tree that 5 or 7 refuses: the rate is at most that of all sensors together, the burst below 2^53
pub record Bounded (a : Load) : Type 0 where
  pub rate : a.rate.0 ≤ 1040130
  pub burst : a.burst.0 < 2 ^ 53

abbrev pub EveryLoadBounded : Type 0
EveryLoadBounded = (b : Radio) (t : Tree) (sink : ℕ) → CheckedRadio b → Surveyed t sink
    → (v : ℕ) → 1 ≤ v → v ≤ t.nodes → Bounded (load_at b t sink v)

-- ---- demand 3

-- every planned tree keeps its promise
abbrev pub EveryPlanKeeps : Type 0
EveryPlanKeeps = (b : Radio) (t : Tree) (sink : ℕ) (p : List NodeLine) → Surveyed t sink → outcome_of b t sink ≡ Planned p → Keeps b t sink p

-- E3: "with the largest ROUTE as its delay". Where the promise holds, no frame is on its way longer than that
abbrev pub LargestRouteHolds : Type 0
LargestRouteHolds = (p : List NodeLine) (sink : ℕ) (N : Network) (l : List Reading) (u : ℕ) (now : State) → Held p sink N l u now
    → ((v : ℕ) → v < N.nodes → All (λ f. u ≤ f.made + longest p) (queue now v)) × All (λ f. f.came ≤ f.made + longest p) now.received

-- it is a promise about something: all windows fit, each for instance at the interval's start
abbrev pub WindowsExist : Type 0
WindowsExist = (b : Radio) (t : Tree) (sink : ℕ) (p : List NodeLine) → Surveyed t sink → outcome_of b t sink ≡ Planned p
    → Windows b p t sink (λ i. 0)
