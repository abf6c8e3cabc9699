-- The loads of a surveyed tree (document 02, E3), also with branches planned apart (E12). Assumes nothing: these are definitions.
use Rattle.std.specs.Prelude.{Bool, true, false, cond, ℕ, zero, suc, ◌+◌, ◌*◌}
use Rattle.measure.specs.Measures.{frames, burst}
use Rattle.links.specs.declared.Timing.{Timing}
use Rattle.links.specs.declared.Load.{Load}
use Rattle.links.specs.Link.{load, no_load, plus, after}
use Rattle.tree_model.specs.Tree.{Tree, other_neighbour}
use Rattle.tree_model.specs.Ways.{next}

-- what a node's own sensor makes, as document 01's sensor: ρ = RATE, β = BURST × BI; a summary's burst is in frame-symbols as it stands
abbrev pub sensed : Timing → Tree → ℕ → Load
sensed a t v = load (t.rate v) (cond (t.summary v) (t.burst v) (burst (frames (t.burst v)) a.interval).0)

-- what has left the link of node w, where that load enters it. A summary is "of the load that has left the branch's link" (E12): its link
-- adds nothing.
abbrev pub leaving : Timing → Tree → ℕ → Load → Load
leaving a t w l = cond (t.summary w) l (after a l)

-- a, and f 1 to f n besides
unfoldable pub gather : Load → (ℕ → Load) → ℕ → Load
gather a f zero = a
gather a f (suc n) = plus (gather a f n) (f (suc n))

-- "A router's input is its own sensor and its neighbours' output; a neighbour's output comes from that one's input": the input of node v,
-- whose neighbour towards the sink is `from` (0 at the sink), and the output of node w's link to v. k bounds the steps away from the sink,
-- and the Bool says whether there is such a link: the two equations themselves, without steps, are proofs/Steps `input-step`, `output-step`.
unfoldable mutual
  pub input_by : ℕ → Timing → Tree → ℕ → ℕ → Load
  input_by zero a t v from = no_load
  input_by (suc k) a t v from = gather (sensed a t v) (λ w. output_by k (other_neighbour t v from w) a t w v) t.nodes

  pub output_by : ℕ → Bool → Timing → Tree → ℕ → ℕ → Load
  output_by zero b a t w v = no_load
  output_by (suc k) true a t w v = leaving a t w (input_by k a t w v)
  output_by (suc k) false a t w v = no_load

-- more steps than any way has
abbrev pub steps : Tree → ℕ
steps t = 4 * (t.nodes + 2)

abbrev pub input_of : Timing → Tree → ℕ → ℕ → Load
input_of a t v from = input_by (steps t) a t v from

abbrev pub output_of : Timing → Tree → ℕ → ℕ → Load
output_of a t w v = output_by (steps t) true a t w v

-- the load that enters node v where the frames go to the sink: its own sensor's and that of all neighbours but the one towards the sink
unfoldable pub entering : Timing → Tree → ℕ → ℕ → Load
entering a t sink v = input_of a t v (next t sink v)
