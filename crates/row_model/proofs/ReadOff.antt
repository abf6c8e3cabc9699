-- What is read off the lines of a row: the figures of each link where its line stands, and those of the sink. Assumes nothing.
use mathlib.Core.Path.{◌≡◌, refl, ap, ◌∙◌}
use mathlib.Core.Bool.{Bool, true, false, cond, ◌&&◌}
use mathlib.Core.List.{List, [], ◌∷◌, ◌++◌}
use Prim.Native.Nat.{ℕ, zero, suc, ◌≤◌, ◌<◌}
use native.Mathlib.Decide.{ℕ_discrete}
use native.Mathlib.Omega.{arith}
use lib.Dec.{eqb, ltb}
use borrow.Author.Tests.{lt-ltb, eq-eqb, ne_eqb}
use Rattle.network.specs.Counting.{join}
use Rattle.links.specs.declared.Figures.{Figures}
use Rattle.settings_model.specs.declared.Settings.{Settings}
use Rattle.plan_model.specs.declared.Kind.{Kind}
use Rattle.plan_model.specs.declared.Kind.TheVariants.{EndNode, Upward, Downward, Sink}
use Rattle.plan_model.specs.declared.Line.{Line}
use Rattle.row_model.specs.Lines.{end_link, up_link, down_link, sink_figures, end_lines, up_lines, down_lines, lines, figures_at}
use Rattle.plan_model.specs.Lines.{line, letter, same_kind}

-- the figures of the first line of that kind and depth, or z where there is none
unfoldable first_or : Kind → ℕ → Figures → List Line → Figures
first_or k d z [] = z
first_or k d z (l ∷ ls) = cond (same_kind l.kind k && eqb l.depth d) l.figures (first_or k d z ls)

-- what is not found in the lines in front is sought in those behind
read-append : (k : Kind) (d : ℕ) (l m : List Line) → figures_at k d (l ++ m) ≡ first_or k d (figures_at k d m) l
unfolding figures_at first_or
read-append k d [] m = refl
read-append k d (a ∷ l) m = ap (λ (f : Figures). cond (same_kind a.kind k && eqb a.depth d) a.figures f) (read-append k d l m)

first-append : (k : Kind) (d : ℕ) (z : Figures) (l m : List Line) → first_or k d z (l ++ m) ≡ first_or k d (first_or k d z m) l
unfolding first_or
first-append k d z [] m = refl
first-append k d z (a ∷ l) m = ap (λ (f : Figures). cond (same_kind a.kind k && eqb a.depth d) a.figures f) (first-append k d z l m)

module _ (s : Settings) where
  -- the lines are E, U, D and S, one behind the other
  read-lines : (k : Kind) (d : ℕ) → figures_at k d (lines s)
      ≡ first_or k d (first_or k d (first_or k d (figures_at k d (line Sink s.sink (sink_figures s) ∷ [])) (down_lines s s.sink)) (up_lines s s.h)) (end_lines s)
  unfolding lines
  read-lines k d =
      let e : List Line = end_lines s in
      let u : List Line = up_lines s s.h in
      let w : List Line = down_lines s s.sink in
      read-append k d (e ++ u ++ w) _ ∙ first-append k d _ (e ++ u) w ∙ first-append k d _ e u

  -- ---- the lines of other kinds are passed over

  end-other : (k : Kind) (d : ℕ) (z : Figures) → same_kind EndNode k ≡ false → first_or k d z (end_lines s) ≡ z
  unfolding first_or end_lines
  end-other k d z h = by (ltb 0 s.ne)
    where
      by : (b : Bool) → first_or k d z (cond b (line EndNode 0 (end_link s) ∷ []) []) ≡ z
      by true = rw h
      by false = refl

  up-other : (k : Kind) (d n : ℕ) (z : Figures) → same_kind Upward k ≡ false → first_or k d z (up_lines s n) ≡ z
  unfolding first_or up_lines
  up-other k d zero z h = refl
  up-other k d (suc n) z h = rw (h, up-other k d n z h)

  down-other : (k : Kind) (d n : ℕ) (z : Figures) → same_kind Downward k ≡ false → first_or k d z (down_lines s n) ≡ z
  unfolding first_or down_lines join
  down-other k d zero z h = refl
  down-other k d (suc n) z h = first-append k d z (down_lines s n) _ ∙ rw h (down-other k d n z h)

  -- ---- the line of a kind and a depth is found

  -- an upward line: the depths are different, so the first of its depth is the only one
  up-found : (i n : ℕ) (z : Figures) → 0 < i → i ≤ n → first_or Upward i z (up_lines s n) ≡ up_link s i
  unfolding first_or up_lines letter same_kind
  up-found i zero z h k = absurd (omega arith)
  up-found i (suc n) z h k = by (ℕ_discrete (suc n) i) (λ l. up-found i n z h l)
    where
      by : Dec (suc n ≡ i) → (i ≤ n → first_or Upward i z (up_lines s n) ≡ up_link s i) → first_or Upward i z (up_lines s (suc n)) ≡ up_link s i
      by (yes e) f = rw (eq-eqb (suc n) i e) (ap (up_link s) e)
      by (no e) f = rw (ne_eqb (suc n) i e) (f (omega arith))

  -- the lines D of the depths above i
  down-above : (i n : ℕ) (z : Figures) → n ≤ i → first_or Downward i z (down_lines s n) ≡ z
  unfolding first_or down_lines join letter same_kind
  down-above i zero z h = refl
  down-above i (suc n) z h = first-append Downward i z (down_lines s n) _ ∙ rw (ne_eqb n i (λ e. omega arith)) (down-above i n z (omega arith))

  -- a downward line
  down-found : (i n : ℕ) (z : Figures) → i < n → first_or Downward i z (down_lines s n) ≡ down_link s i
  unfolding first_or down_lines join letter same_kind
  down-found i zero z h = absurd (omega arith)
  down-found i (suc n) z h = first-append Downward i z (down_lines s n) _ ∙ by (ℕ_discrete n i) (λ l. down-found i n z l)
    where
      by : Dec (n ≡ i) → (i < n → first_or Downward i z (down_lines s n) ≡ down_link s i)
          → first_or Downward i (first_or Downward i z (line Downward n (down_link s n) ∷ [])) (down_lines s n) ≡ down_link s i
      by (yes e) f = rw (eq-eqb n i e) (down-above i n (down_link s n) (omega arith) ∙ ap (down_link s) e)
      by (no e) f = rw (ne_eqb n i e) (f (omega arith))

  -- ---- what is read off the whole plan

  pub reads_end : 0 < s.ne → figures_at EndNode 0 (lines s) ≡ end_link s
  unfolding first_or end_lines letter same_kind
  reads_end h = read-lines EndNode 0 ∙ rw (lt-ltb 0 s.ne h)

  pub reads_up : (i : ℕ) → 0 < i → i ≤ s.h → figures_at Upward i (lines s) ≡ up_link s i
  unfolding letter same_kind
  reads_up i h k = read-lines Upward i ∙ end-other Upward i _ refl ∙ up-found i s.h _ h k

  pub reads-down : (i : ℕ) → i < s.sink → figures_at Downward i (lines s) ≡ down_link s i
  unfolding letter same_kind
  reads-down i h = read-lines Downward i ∙ end-other Downward i _ refl ∙ up-other Downward i s.h _ refl ∙ down-found i s.sink _ h

  pub reads-sink : figures_at Sink s.sink (lines s) ≡ sink_figures s
  unfolding letter same_kind figures_at
  reads-sink =
      read-lines Sink s.sink ∙ end-other Sink s.sink _ refl ∙ up-other Sink s.sink s.h _ refl ∙ down-other Sink s.sink s.sink _ refl
      ∙ rw (eq-eqb s.sink s.sink refl)
