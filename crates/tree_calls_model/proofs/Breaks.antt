-- The statements of specs/TreeBroken. Assumes nothing.
use mathlib.Core.Path.{◌≡◌, refl, subst}
use mathlib.Core.List.{List, [], ◌∷◌}
use Prim.Native.Nat.{ℕ, zero, suc, ◌+◌, ◌≤◌}
use native.Mathlib.Omega.{arith}
use lib.Dec.{lit<, lit≤}
use lib.ListN.{length, take}
use Rattle.decimal_model.specs.Ascii.{ascii}
use Rattle.decimal_model.specs.Decimal.{digits_by, decimal}
use Rattle.lines.specs.Text.{joined, ended}
use Rattle.network.specs.Counting.{All, each}
use Rattle.network.specs.Model.{Network, Frame, queue}
use Rattle.network.specs.Oracle.{run}
use Rattle.network.specs.Examples.{first, soon_from}
use Rattle.network.proofs.Oracles.{every-choice-is-a-run}
use Rattle.plan_model.specs.declared.Kind.TheVariants.{EndNode, Upward, Sink}
use Rattle.plan_model.specs.Lines.{letter}
use Rattle.report_model.specs.Text.{numbers}
use Rattle.report_model.specs.TreeText.{tree_header, node_text, tree_text}
use Rattle.plan_model.specs.declared.NodeLine.{NodeLine}
use Rattle.tree_model.specs.Tree.{Tree}
use Rattle.tree_model.specs.Promise.{no_line, route_in, site_of, printed_of, longest, network_of, Windows, Held, Keeps}
use Rattle.tree_model.proofs.Promised.{largest-route-holds}
use Rattle.tree_model.specs.Witness.{shortest, pair, full_readings, lossy, shorter, two_hops, hop_offsets, late_reading}
use Rattle.tree_model.proofs.Computing.{trees, runs, printed-line}
use Rattle.tree_model.proofs.FullQueue.{filled, pair-readings}
use Rattle.tree_model.proofs.TwoHops.{two-links}
use Rattle.tree_read_model.specs.Survey.{tree_in}
use Rattle.tree_read_model.proofs.Computing.{lists}
use Rattle.network.proofs.Stretches.{third-frame}
use Rattle.tree_calls_model.specs.Broken.{pair_list, low_buffer, hop_list, low_route, low_routes, lossless, LoweredBreak}
use Rattle.promise_model.specs.Promise as promise

-- to unfold `texts` is to unfold all that a plan's text is computed with
texts : Type 0
unfolding trees printed-line digits_by decimal joined ended ascii letter numbers tree_header node_text tree_text
texts = Unit

-- ---- BUFFER 2 where the queue is filled to 3

unfoldable low_pair : List NodeLine
low_pair = printed-line Sink 0 2 2880 0 0 0 3 0 0 ∷ printed-line EndNode 1 2 960 2 2 960 2 1440 1440 ∷ []

pair_network : Network
pair_network = network_of shortest low_pair pair 1 (λ i. 0)

pair-listed : tree_in pair_list ≡ pair
unfolding lists pair_list pair
pair-listed = refl

pair-stands : tree_text low_pair ≡ take 115 low_buffer
unfolding texts low_pair low_buffer
pair-stands = refl

pair-windows : Windows shortest low_pair pair 1 (λ i. 0)
unfolding trees runs printed-line shortest pair low_pair pair_network
pair-windows zero L = lit≤ tt
pair-windows (suc zero) L = lit≤ tt
pair-windows (suc (suc i)) L = absurd (omega (arith, L.node))

pair-full : length (queue (run pair_network full_readings first 1020) 1) ≡ 3
unfolding trees runs printed-line shortest pair low_pair soon_from full_readings pair_network
pair-full = refl

too_many : {n : ℕ} → n ≤ 2 → n ≡ 3 → ⊥
too_many few full = omega (arith, few, full)

pair-breaks : ¬ Keeps shortest pair 1 low_pair
unfolding trees runs printed-line shortest pair low_pair pair_network
pair-breaks keeps =
    let held = keeps (λ i. 0) pair-windows full_readings filled.keep_buckets (run pair_network full_readings first) (every-choice-is-a-run pair_network full_readings first) 1019 in
    let few : length (queue (run pair_network full_readings first 1020) 1) ≤ 2 = held.queues 1 (record { node = lit< tt; not_sink = λ e. absurd (omega (arith, e)) }) in
    too_many few pair-full

-- ---- ROUTE 1919 where a frame takes 1920 symbols; `p` are the lines, which differ in ROUTE alone

unfoldable low_hops : ℕ → List NodeLine
low_hops r =
    printed-line Sink 0 7 24600 0 0 0 13 0 0
    ∷ printed-line Upward 1 7 13260 7 7 1620 13 3515 r
    ∷ printed-line EndNode 2 7 1920 7 7 1620 7 1895 1919
    ∷ []

hop_network : ℕ → Network
hop_network r = network_of shorter (low_hops r) two_hops 1 hop_offsets

hop-listed : tree_in hop_list ≡ two_hops
unfolding lists hop_list two_hops
hop-listed = refl

route-stands : tree_text (low_hops 3515) ≡ take 153 low_route
unfolding texts low_hops low_route
route-stands = refl

routes-stand : tree_text (low_hops 1919) ≡ take 153 low_routes
unfolding texts low_hops low_routes
routes-stand = refl

hop-windows : (r : ℕ) → Windows shorter (low_hops r) two_hops 1 hop_offsets
unfolding trees runs printed-line shorter two_hops hop_offsets low_hops hop_network
hop-windows r zero L = lit≤ tt
hop-windows r (suc zero) L = lit≤ tt
hop-windows r (suc (suc zero)) L = lit≤ tt
hop-windows r (suc (suc (suc i))) L = absurd (omega (arith, L.node))

the_frame : Frame
the_frame = record { sensor = 2; made = 360; came = 2280 }

-- the one frame that the sink has received, with the symbols in which it was made and came
unfoldable Late : ℕ → Type 0
Late r = (run (hop_network r) late_reading first 2281).received ≡ the_frame ∷ []

late : Late 3515
unfolding trees runs printed-line shorter two_hops hop_offsets low_hops hop_network late_reading the_frame Late
late = refl

late-too : Late 1919
unfolding trees runs printed-line shorter two_hops hop_offsets low_hops hop_network late_reading the_frame Late
late-too = refl

hop-held : (r : ℕ) → Keeps shorter two_hops 1 (low_hops r) → Held (low_hops r) 1 (hop_network r) late_reading 2280 (run (hop_network r) late_reading first 2281)
unfolding hop_network
hop-held r keeps =
    keeps hop_offsets (hop-windows r) late_reading two-links.keep_buckets (run (hop_network r) late_reading first) (every-choice-is-a-run (hop_network r) late_reading first) 2280

route-breaks : ¬ Keeps shorter two_hops 1 (low_hops 3515)
unfolding Late printed_of route_in no_line printed-line low_hops the_frame
route-breaks keeps =
    by (rw late at (hop-held 3515 keeps).received)
  where
    by : All (λ f. f.came ≤ f.made + ((printed_of (low_hops 3515) 1).delay f.sensor).0) (the_frame ∷ []) → ⊥
    by (each h t) = omega (arith, h)

routes-break : ¬ Keeps shorter two_hops 1 (low_hops 1919)
unfolding Late longest printed-line low_hops the_frame
routes-break keeps =
    by (rw late-too at (largest-route-holds _ _ _ _ _ _ (hop-held 1919 keeps)).1)
  where
    by : All (λ f. f.came ≤ f.made + longest (low_hops 1919)) (the_frame ∷ []) → ⊥
    by (each h t) = omega (arith, h)

-- ---- a plan that was made without LOSS: of the frames that are made in symbols 0, 479 and 959, the third is still there at the end of 2400

unfoldable lossless_pair : List NodeLine
lossless_pair = printed-line Sink 0 2 2880 0 0 0 3 0 0 ∷ printed-line EndNode 1 2 960 3 2 960 3 1440 1440 ∷ []

loss_network : Network
loss_network = network_of lossy lossless_pair pair 1 (λ i. 0)

lossless-stands : tree_text lossless_pair ≡ take 115 lossless
unfolding texts lossless_pair lossless
lossless-stands = refl

loss-windows : Windows lossy lossless_pair pair 1 (λ i. 0)
unfolding trees runs printed-line lossy pair lossless_pair loss_network
loss-windows zero L = lit≤ tt
loss-windows (suc zero) L = lit≤ tt
loss-windows (suc (suc i)) L = absurd (omega (arith, L.node))

third : queue (run loss_network (soon_from 0) first 2401) 1 ≡ third-frame ∷ []
unfolding third-frame trees runs printed-line lossy pair lossless_pair soon_from loss_network
third = refl

loss-waits : Keeps lossy pair 1 lossless_pair → All (λ f. 2400 ≤ f.made + ((printed_of lossless_pair 1).delay f.sensor).0) (third-frame ∷ [])
unfolding promise.network_of site_of pair loss_network lossy
loss-waits keeps =
    let held = keeps (λ i. 0) loss-windows (soon_from 0) (pair-readings 5 1 1 1 0) (run loss_network (soon_from 0) first) (every-choice-is-a-run loss_network (soon_from 0) first) 2400 in
    rw third at (held.under_way 1 (lit< tt))

loss-breaks : ¬ Keeps lossy pair 1 lossless_pair
unfolding printed_of route_in no_line printed-line lossless_pair third-frame
loss-breaks keeps = by (loss-waits keeps)
  where
    by : All (λ f. 2400 ≤ f.made + ((printed_of lossless_pair 1).delay f.sensor).0) (third-frame ∷ []) → ⊥
    by (each h t) = omega (arith, h)

pub lowered-break : LoweredBreak
unfolding shortest shorter lossy
lowered-break = record {
  buffer = λ promised. pair-breaks (subst (λ (t : Tree). Keeps shortest t 1 low_pair) pair-listed (promised refl low_pair pair-stands));
  route = λ promised. route-breaks (subst (λ (t : Tree). Keeps shorter t 1 (low_hops 3515)) hop-listed (promised refl (low_hops 3515) route-stands));
  routes = λ promised. routes-break (subst (λ (t : Tree). Keeps shorter t 1 (low_hops 1919)) hop-listed (promised refl (low_hops 1919) routes-stand));
  loss = λ promised. loss-breaks (subst (λ (t : Tree). Keeps lossy t 1 lossless_pair) pair-listed (promised refl lossless_pair lossless-stands));
}
