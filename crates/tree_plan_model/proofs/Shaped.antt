-- What depends on a tree's parents alone is the same of its shape. Assumes nothing.
use mathlib.Core.Path.{◌≡◌, refl, ap}
use mathlib.Core.Bool.{Bool, true, false}
use mathlib.Core.List.{List}
use Prim.Native.Nat.{ℕ, zero, suc}
use lib.Dec.{eqb}
use lib.ListN.{get_or}
use Rattle.settings_model.specs.declared.Radio.{Radio}
use Rattle.tree_model.specs.Tree.{Tree, tree_of, Rooted, is_number, is_router, routers}
use Rattle.tree_model.specs.Ways.{child_by, child_towards, or_else, next, kind_of, depth_by, depth_of}
use Rattle.tree_model.specs.Lines.{way_delay}
use Rattle.tree_model.specs.Checks.{routers_fit}
use Rattle.tree_read_model.specs.Survey.{sink_right}
use Rattle.tree_plan_model.specs.Inner.{shape, checks_before_slots}

module _ (ps bs rs : List ℕ) where
  abbrev T : Tree
  T = tree_of ps bs rs

  pub planted-shape : Rooted T → Rooted (shape ps)
  planted-shape p = record { few = p.few; root = p.root; listed = p.listed; smaller = p.smaller }

  child-same : (k c v : ℕ) → child_by k (shape ps) c v ≡ child_by k T c v
  unfolding child_by
  child-same zero c v = refl
  child-same (suc k) zero v = refl
  child-same (suc k) (suc c) v = by (eqb (get_or ps (suc c) 0) v) (child-same k (get_or ps (suc c) 0) v)
    where
      by : (b : Bool) → child_by k (shape ps) (get_or ps (suc c) 0) v ≡ child_by k T (get_or ps (suc c) 0) v
          → ◌≡◌ {A = ℕ} (elim b [ true ↦ suc c | false ↦ child_by k (shape ps) (get_or ps (suc c) 0) v ]) (elim b [ true ↦ suc c | false ↦ child_by k T (get_or ps (suc c) 0) v ])
      by true e = refl
      by false e = e

  below-same : (s v : ℕ) → child_towards (shape ps) s v ≡ child_towards T s v
  unfolding child_towards
  below-same s v = child-same T.nodes s v

  pub next-same : (s v : ℕ) → next (shape ps) s v ≡ next T s v
  unfolding next
  next-same s v = by (eqb v s)
    where
      by : (b : Bool) → ◌≡◌ {A = ℕ} (elim b [ true ↦ 0 | false ↦ or_else (child_towards (shape ps) s v) (get_or ps v 0) ]) (elim b [ true ↦ 0 | false ↦ or_else (child_towards T s v) (get_or ps v 0) ])
      by true = refl
      by false = ap (λ (c : ℕ). or_else c (get_or ps v 0)) (below-same s v)

  router-same : (v : ℕ) → is_router (shape ps) v ≡ is_router T v
  unfolding is_router
  router-same v = refl

  pub kind-same : (s v : ℕ) → kind_of (shape ps) s v ≡ kind_of T s v
  unfolding kind_of
  kind-same s v = rw (below-same s v, router-same v)

  depth-by-same : (k v : ℕ) → depth_by k (shape ps) v ≡ depth_by k T v
  unfolding depth_by
  depth-by-same zero v = refl
  depth-by-same (suc k) v = rw (depth-by-same k (get_or ps v 0))

  pub depth_same : (v : ℕ) → depth_of (shape ps) v ≡ depth_of T v
  unfolding depth_of
  depth_same v = depth-by-same v v

  pub way_same : (k : ℕ) (d : ℕ → ℕ) (s v : ℕ) → way_delay k d (shape ps) s v ≡ way_delay k d T s v
  unfolding way_delay
  way_same zero d s v = refl
  way_same (suc k) d s v = rw (next-same s v, way_same k d s (next T s v))

  -- the conditions before numbers 5 and 7
  pub sink-same : (s : ℕ) → sink_right (shape ps) s ≡ sink_right T s
  unfolding sink_right is_number is_router
  sink-same s = refl

  fit_same : (b : Radio) → routers_fit b (shape ps) ≡ routers_fit b T
  unfolding routers_fit routers is_router
  fit_same b = refl

  pub before-slots-same : (b : Radio) (s : ℕ) → checks_before_slots b (shape ps) s ≡ checks_before_slots b T s
  unfolding checks_before_slots
  before-slots-same b s = rw (sink-same s, fit_same b)
