-- The printed lines of a surveyed tree, node by node. Assumes nothing.
use mathlib.Core.Path.{◌≡◌, refl, sym, ap, ◌∙◌}
use mathlib.Core.List.{List, [], ◌∷◌, ◌++◌}
use Prim.Native.Nat.{ℕ, zero, suc, ◌≤◌, ◌<◌}
use native.Mathlib.Nat.{le_antisymm}
use native.Mathlib.Decide.{ℕ_discrete}
use native.Mathlib.Omega.{arith}
use lib.ListN.{length, get_or, length-append, get_or-append}
use borrow.Author.Tests.{eq-eqb, ne_eqb}
use Rattle.measure.specs.declared.Rate.{Rate}
use Rattle.measure.specs.Measures.{slots, per_interval}
use Rattle.network.specs.Counting.{join}
use Rattle.links.specs.declared.Timing.{Timing}
use Rattle.links.specs.declared.Load.{Load}
use Rattle.links.specs.declared.Figures.{Figures}
use Rattle.links.specs.Link.{slots_of, figures_of, figures_by, reservation_of}
use Rattle.links.specs.Answers.{Timed}
use Rattle.links.proofs.LinkLaws.{slots-hold}
use Rattle.settings_model.specs.declared.Radio.{Radio}
use Rattle.plan_model.specs.Times.{timing_of}
use Rattle.plan_model.specs.Lines.{no_figures}
use Rattle.plan_model.specs.declared.NodeLine.{NodeLine}
use Rattle.tree_model.specs.Tree.{Tree, Plain}
use Rattle.tree_model.specs.Lines.{load_at, link_at, sink_figures, figures_at, route_at, line_at, lines}
use Rattle.tree_model.specs.Promise.{no_line, figures_in, route_in}
use Rattle.tree_model.proofs.PlainLists.{plain-as-in-e3}

-- lists with one entry for each number
module _ {A : Type 0} (f : ℕ → A) (d : A) where
  pub join-length : (n : ℕ) → length (join n (λ i. f i ∷ [])) ≡ n
  unfolding join
  join-length zero = refl
  join-length (suc n) = length-append (join n (λ i. f i ∷ [])) (f n ∷ []) ∙ omega (arith, join-length n)

  pub join-at : (n i : ℕ) → i < n → get_or (join n (λ i. f i ∷ [])) i d ≡ f i
  unfolding join
  join-at zero i h = absurd (omega arith)
  join-at (suc n) i h = by (ℕ_discrete i n) (join-at n i)
    where
      last : (l : List A) (k : ℕ) → length l ≡ k → get_or (l ++ f n ∷ []) k d ≡ f n
      last [] zero e = refl
      last [] (suc k) e = absurd (omega arith)
      last (x ∷ l) zero e = absurd (omega arith)
      last (x ∷ l) (suc k) e = last l k (omega arith)

      by : Dec (i ≡ n) → (i < n → get_or (join n (λ i. f i ∷ [])) i d ≡ f i) → get_or (join n (λ i. f i ∷ []) ++ f n ∷ []) i d ≡ f i
      by (yes e) g = rw e (last (join n (λ i. f i ∷ [])) n (join-length n))
      by (no m) g = get_or-append (join n (λ i. f i ∷ [])) (f n ∷ []) d i (omega (arith, join-length n, m)) ∙ g (omega (arith, m))

-- the line of node i + 1, where no number is missing and none stands for a branch
module _ (b : Radio) (t : Tree) (p : Plain t) (s : ℕ) where
  line-at : (i : ℕ) → i < t.nodes → get_or (lines b t s) i no_line ≡ line_at b t s (suc i)
  line-at i h = rw (plain-as-in-e3 b t s p).lines (join-at (λ i. line_at b t s (suc i)) no_line t.nodes i h)

  -- the figures of a link's line, of the sink's, and ROUTE
  pub link-printed : (i : ℕ) → i < t.nodes → (suc i ≡ s → ⊥) → figures_in (lines b t s) i ≡ link_at b t s (suc i)
  unfolding figures_in line_at figures_at
  link-printed i h n = ap (λ (l : NodeLine). l.line.figures) (line-at i h) ∙ rw (ne_eqb (suc i) s n)

  pub sink-printed : (i : ℕ) → i < t.nodes → suc i ≡ s → figures_in (lines b t s) i ≡ sink_figures b t s
  unfolding figures_in line_at figures_at
  sink-printed i h e = ap (λ (l : NodeLine). l.line.figures) (line-at i h) ∙ rw (eq-eqb (suc i) s e)

  pub route-printed : (i : ℕ) → i < t.nodes → (route_in (lines b t s) i).0 ≡ (route_at b t s (suc i)).0
  unfolding route_in line_at
  route-printed i h = ap (λ (l : NodeLine). l.route.0) (line-at i h)

module _ (b : Radio) (t : Tree) (s : ℕ) where
  -- a link with traffic, and one without
  pub link-used : (v : ℕ) → 1 ≤ (load_at b t s v).rate.0 → link_at b t s v ≡ figures_of (timing_of b) (load_at b t s v)
  unfolding link_at
  link-used v h = rw (ne_eqb (load_at b t s v).rate.0 0 (λ e. omega arith))

  pub link-unused : (v : ℕ) → (load_at b t s v).rate.0 ≡ 0 → link_at b t s v ≡ no_figures
  unfolding link_at
  link-unused v e = rw (eq-eqb (load_at b t s v).rate.0 0 e)

-- no rate, no slots
pub no-slots : (a : Timing) (ρ : Rate) → Timed a → ρ.0 ≡ 0 → slots_of a ρ ≡ slots 0
no-slots a ρ h e = ap slots (le_antisymm ((slots-hold a ρ h).least (slots 0) (omega arith)) (omega arith))

figures-slots : (a : Timing) (l : Load) → (figures_of a l).slots ≡ slots_of a l.rate
unfolding figures_of figures_by reservation_of
figures-slots a l = refl

none-slots : no_figures.slots ≡ slots 0
unfolding no_figures
none-slots = refl

-- SLOTS are those that the rate needs, also where it is 0
pub link-slots : (b : Radio) (t : Tree) (s v : ℕ) → Timed (timing_of b) → (link_at b t s v).slots ≡ slots_of (timing_of b) (load_at b t s v).rate
link-slots b t s v h = by (ℕ_discrete (load_at b t s v).rate.0 0)
  where
    by : Dec ((load_at b t s v).rate.0 ≡ 0) → (link_at b t s v).slots ≡ slots_of (timing_of b) (load_at b t s v).rate
    by (yes e) = ap (λ (f : Figures). f.slots) (link-unused b t s v e) ∙ none-slots ∙ sym (no-slots (timing_of b) (load_at b t s v).rate h e)
    by (no n) = ap (λ (f : Figures). f.slots) (link-used b t s v (omega (arith, n))) ∙ figures-slots (timing_of b) (load_at b t s v)

figures-rate : (a : Timing) (l : Load) → (figures_of a l).rate ≡ l.rate
unfolding figures_of figures_by
figures-rate a l = refl

none-rate : no_figures.rate ≡ per_interval 0
unfolding no_figures
none-rate = refl

-- and RATE is the load's
pub link-rate : (b : Radio) (t : Tree) (s v : ℕ) → (link_at b t s v).rate ≡ (load_at b t s v).rate
link-rate b t s v = by (ℕ_discrete (load_at b t s v).rate.0 0)
  where
    by : Dec ((load_at b t s v).rate.0 ≡ 0) → (link_at b t s v).rate ≡ (load_at b t s v).rate
    by (yes e) = ap (λ (f : Figures). f.rate) (link-unused b t s v e) ∙ none-rate ∙ ap per_interval (sym e)
    by (no n) = ap (λ (f : Figures). f.rate) (link-used b t s v (omega (arith, n))) ∙ figures-rate (timing_of b) (load_at b t s v)
