-- What the lines of a node list that keep number 10 say of its tree. Assumes nothing.
use Rattle.std.specs.Prelude.{Option, Some, None}
use Rattle.tree_read_model.specs.declared.Entry.{Entry}
use mathlib.Core.Path.{◌≡◌, refl}
use mathlib.Core.Bool.{true, ◌&&◌, and-eq-true_iff, false≢true}
use mathlib.Core.Logic.{◌⊎◌, inl, inr}
use mathlib.Core.List.{List, [], ◌∷◌, map}
use Prim.Native.Nat.{ℕ, zero, suc, ◌+◌, ◌≤◌, ◌<◌}
use native.Mathlib.Omega.{arith}
use lib.Dec.{eqb, leb, ltb}
use lib.ListN.{length, get_or, length-map}
use borrow.Author.Tests.{eqb-true, leb-true, ltb-true, ne_eqb, not-false}
use Rattle.std.proofs.lemmas.Bool.{or_cases}
use Rattle.std.proofs.lemmas.List.{get_or-map}
use Rattle.refusals.specs.Conditions.{Unbroken}
use Rattle.settings_model.specs.Columns.{twelve, every_column, column_at}
use Rattle.tree_model.specs.Tree.{Ranged}
use Rattle.tree_model.specs.Laws.{Surveyed, Consecutive}
use Rattle.tree_model.proofs.PlainLists.{plain-list-surveyed}
use Rattle.tree_read_model.specs.Entries.{entry_in, parent_right, sensor_right, entry_right, line_right}
use Rattle.tree_read_model.specs.Survey.{parent_in, burst_in, rate_in, tree_from, lines_from}

-- what a line says that keeps the rules of node k
pub record Says (k : ℕ) (r : Option Entry) : Type 0 where
  pub few : k ≤ 254
  pub parent : parent_right k (parent_in r) ≡ true
  pub sensor : sensor_right (burst_in r) (rate_in r) ≡ true

pub says : (k : ℕ) (r : Option Entry) → entry_right k r ≡ true → Says k r
unfolding entry_right parent_in burst_in rate_in
says k None e = absurd (false≢true e)
says k (Some n) e =
    let d = (and-eq-true_iff (leb k 254 && eqb n.node k && parent_right k n.parent) (sensor_right n.burst n.rate)).0 e in
    let f = (and-eq-true_iff (leb k 254 && eqb n.node k) (parent_right k n.parent)).0 d.0 in
    let g = (and-eq-true_iff (leb k 254) (eqb n.node k)).0 f.0 in
    record { few = leb-true k 254 g.0; parent = f.1; sensor = d.1 }

-- every line of a list that is kept
pub each-says : (k : ℕ) (ls : List (List ℕ)) → Unbroken (lines_from k ls) → (i : ℕ) → i < length ls → Says (k + i) (entry_in (get_or ls i []))
unfolding lines_from line_right
each-says k [] u i h = absurd (omega arith)
each-says k (l ∷ ls) u zero h =
    let z : k + 0 ≡ k = omega arith in
    rw z (says k (entry_in l) (not-false _ u.0))
each-says k (l ∷ ls) u (suc i) h =
    let z : k + suc i ≡ suc k + i = omega arith in
    rw z (each-says (suc k) ls u.1 i (omega arith))

-- ---- rules as propositions

pub parent-root : (p : ℕ) → parent_right 1 p ≡ true → p ≡ 0
unfolding parent_right
parent-root p e = eqb-true p 0 e

pub parent-below : (k p : ℕ) → (k ≡ 1 → ⊥) → parent_right k p ≡ true → (1 ≤ p) × (p < k)
unfolding parent_right
parent-below k p h e =
    let f = rw (ne_eqb k 1 h) at e in
    let d = (and-eq-true_iff (ltb 0 p) (ltb p k)).0 f in
    (ltb-true 0 p d.0, ltb-true p k d.1)

pub record Sensor (b r : ℕ) : Type 0 where
  pub burst : b ≤ 255
  pub rate : r ≤ 4095
  pub both : r ≡ 0 → b ≡ 0

pub sensor-is : (b r : ℕ) → sensor_right b r ≡ true → Sensor b r
unfolding sensor_right column_at twelve every_column
sensor-is b r e = by (or_cases (eqb b 0 && eqb r 0) ((leb 1 b && leb b 255) && (leb 1 r && leb r 4095)) e)
  where
    by : (eqb b 0 && eqb r 0 ≡ true) ⊎ ((leb 1 b && leb b 255) && (leb 1 r && leb r 4095) ≡ true) → Sensor b r
    by (inl d) =
        let f = (and-eq-true_iff (eqb b 0) (eqb r 0)).0 d in
        let zb : b ≡ 0 = eqb-true b 0 f.0 in
        let zr : r ≡ 0 = eqb-true r 0 f.1 in
        record { burst = omega arith; rate = omega arith; both = λ z. zb }
    by (inr d) =
        let f = (and-eq-true_iff (leb 1 b && leb b 255) (leb 1 r && leb r 4095)).0 d in
        let g = (and-eq-true_iff (leb 1 b) (leb b 255)).0 f.0 in
        let h = (and-eq-true_iff (leb 1 r) (leb r 4095)).0 f.1 in
        record { burst = leb-true b 255 g.1; rate = leb-true r 4095 h.1; both = λ z. absurd (omega (arith, leb-true 1 r h.0)) }

-- ---- the tree

module _ (ls : List (List ℕ)) where
  pub tree-nodes : (tree_from ls).nodes ≡ length ls
  unfolding tree_from
  tree-nodes = let e : length (map (λ (l : List ℕ). parent_in (entry_in l)) ls) ≡ length ls = length-map ls (λ (l : List ℕ). parent_in (entry_in l)) in omega (arith, e)

  tree-parent : (i : ℕ) → i < length ls → (tree_from ls).parent (suc i) ≡ parent_in (entry_in (get_or ls i []))
  unfolding tree_from
  tree-parent i h = get_or-map (λ l. parent_in (entry_in l)) ls i [] 0 h

  tree-burst : (i : ℕ) → i < length ls → (tree_from ls).burst (suc i) ≡ burst_in (entry_in (get_or ls i []))
  unfolding tree_from
  tree-burst i h = get_or-map (λ l. burst_in (entry_in l)) ls i [] 0 h

  tree-rate : (i : ℕ) → i < length ls → (tree_from ls).rate (suc i) ≡ rate_in (entry_in (get_or ls i []))
  unfolding tree_from
  tree-rate i h = get_or-map (λ l. rate_in (entry_in l)) ls i [] 0 h

  module _ (u : Unbroken (lines_from 1 ls)) (some : 1 ≤ length ls) where
    here : (i : ℕ) → i < length ls → Says (suc i) (entry_in (get_or ls i []))
    here i h = let z : 1 + i ≡ suc i = omega arith in rw z at (each-says 1 ls u i h)

    parents : (i : ℕ) → i < length ls → parent_right (suc i) ((tree_from ls).parent (suc i)) ≡ true
    parents i h = rw (tree-parent i h) (here i h).parent

    sensors : (i : ℕ) → i < length ls → Sensor ((tree_from ls).burst (suc i)) ((tree_from ls).rate (suc i))
    sensors i h = rw (tree-burst i h, tree-rate i h) (sensor-is _ _ (here i h).sensor)

    pub consecutive : Consecutive (tree_from ls)
    consecutive = record { few = few (length ls) refl; root = parent-root ((tree_from ls).parent 1) (parents 0 some); parents = above }
      where
        few : (n : ℕ) → length ls ≡ n → (tree_from ls).nodes ≤ 254
        few zero e = absurd (omega arith)
        few (suc n) e = omega (arith, tree-nodes, e, (here n (omega arith)).few)

        above : (v : ℕ) → 2 ≤ v → v ≤ (tree_from ls).nodes → (1 ≤ (tree_from ls).parent v) × ((tree_from ls).parent v < v)
        above zero two most = absurd (omega arith)
        above (suc i) two most = parent-below (suc i) ((tree_from ls).parent (suc i)) (λ z. omega arith) (parents i (omega (arith, tree-nodes)))

    pub ranged : Ranged (tree_from ls)
    ranged = record { bursts = λ v one most. (at v one most).burst; rates = λ v one most. (at v one most).rate; both = λ v one most. (at v one most).both }
      where
        at : (v : ℕ) → 1 ≤ v → v ≤ (tree_from ls).nodes → Sensor ((tree_from ls).burst v) ((tree_from ls).rate v)
        at zero one most = absurd (omega arith)
        at (suc i) one most = sensors i (omega (arith, tree-nodes))

    pub list-surveyed : (sink : ℕ) → 1 ≤ sink → sink ≤ (tree_from ls).nodes → Surveyed (tree_from ls) sink
    unfolding tree_from
    list-surveyed sink one most =
        plain-list-surveyed (0 ∷ map (λ l. parent_in (entry_in l)) ls) (0 ∷ map (λ l. burst_in (entry_in l)) ls) (0 ∷ map (λ l. rate_in (entry_in l)) ls) sink consecutive ranged one most
