-- From one depth to the next, in the form in which the functions add up. Assumes nothing.
use mathlib.Core.Path.{◌≡◌, refl, sym, ap₂, ◌∙◌, subst}
use Prim.Native.Nat.{ℕ, zero, suc, ◌+◌, ◌-◌, ◌<◌, ◌^◌}
use native.Mathlib.Numerals.{add-one}
use native.Mathlib.Omega.{arith}
use Rattle.links.specs.declared.Load.{Load}
use Rattle.links.specs.declared.Timing.{Timing}
use Rattle.links.specs.Link.{load, plus, times, load_up_to_64, after}
use Rattle.links.specs.Answers.{Timed}
use Rattle.settings_model.specs.declared.Settings.{Settings}
use Rattle.row_plan_model.specs.declared.Link.{Link}
use Rattle.row_model.specs.Times.{row_timing}
use Rattle.row_model.specs.Loads.{sensor, left, near, upward, downward}
use Rattle.row_model.specs.Bounds.{Sound, Bounded}
use Rattle.row_plan_model.specs.Inner.{coming, joined, left_by, link_of, link_up, link_down}
use Rattle.links.specs.Link.{no_load}
use Rattle.plan_model.proofs.TimeLaws.{timed}
use Rattle.row_model.proofs.LoadLaws.{upward-last, upward-step, downward-first, downward-step}
use Rattle.row_model.proofs.LoadBounds.{sensor-bounded, near-bounded, upward-bounded, upward-left-bounded, downward-bounded, downward-left-bounded}
use Rattle.row_plan_model.proofs.Made.{fits}
use Rattle.settings_model.specs.Checks.{radio_of}

-- ---- depths

-- a load with nothing coming down is the load itself
alone : (a b : Load) (n : ℕ) → joined a b n no_load ≡ plus a (times n b)
alone a b n = ap₂ load (omega arith) (omega arith)

-- the load of depth i, from the load that left depth i + 1 upward
upward-joined : (s : Settings) (i : ℕ) → i < s.h → joined (near s) (left s (upward s (suc i))) s.nr no_load ≡ upward s i
upward-joined s i h = alone (near s) (left s (upward s (suc i))) s.nr ∙ sym (upward-step s i h)

-- and downward
downward-joined : (s : Settings) (i : ℕ) → joined (near s) (left s (upward s (suc i))) (s.nr - 1) (coming s i) ≡ downward s i
unfolding coming
downward-joined s zero = alone (near s) (left s (upward s 1)) (s.nr - 1) ∙ sym (downward-first s)
downward-joined s (suc i) = sym (downward-step s i)

-- nothing comes down to the root
pub coming-first : (s : Settings) → coming s 0 ≡ no_load
unfolding coming
coming-first s = refl

-- ---- links

-- the load behind an upward link, and behind a downward one
left_up : (s : Settings) (j : ℕ) → left_by (link_up s j) ≡ left s (upward s j)
unfolding left after link_up link_of
left_up s j = refl

left_down : (s : Settings) (j : ℕ) → left_by (link_down s j) ≡ left s (downward s j)
unfolding left after link_down link_of
left_down s j = refl

module _ (s : Settings) (S : Sound s) where
  -- a link as it is made, from a load that is the definition's
  pub link-made : (t : Timing) (a b : Load) (x : Link) → Bounded b → t ≡ row_timing s → a ≡ b → (Timed t → a.rate.0 < 2 ^ 40 → x ≡ link_of t a) → x ≡ link_of (row_timing s) b
  link-made t a b x h et ea make =
      make (rw et (timed (radio_of s) S.checked.radio)) (rw ea (omega (arith, h.rate))) ∙ ap₂ link_of et ea

  -- the end nodes' link
  pub end-link-made : (t : Timing) (a : Load) (x : Link) → t ≡ row_timing s → a ≡ sensor s → (Timed t → a.rate.0 < 2 ^ 40 → x ≡ link_of t a) → x ≡ link_of (row_timing s) (sensor s)
  end-link-made t a x = link-made t a (sensor s) x (sensor-bounded s S)

  -- the link of the deepest routers
  pub last_made : (t : Timing) (a : Load) (x : Link) → t ≡ row_timing s → a ≡ near s → (Timed t → a.rate.0 < 2 ^ 40 → x ≡ link_of t a) → x ≡ link_up s s.h
  unfolding link_up
  last_made t a x et ea make =
      link-made t a (near s) x (near-bounded s S) et ea make ∙ rw (upward-last s s.h (omega arith))

  -- what left the link below depth i
  left_below : (i : ℕ) (b : Link) → b ≡ link_up s (i + 1) → left_by b ≡ left s (upward s (suc i))
  left_below i b eb = rw (eb, add-one i) (left_up s (suc i))

  -- the link of depth i, from that of depth i + 1
  pub up-made : (i : ℕ) (t : Timing) (a d : Load) (b x : Link) → i < s.h → t ≡ row_timing s → a ≡ near s → b ≡ link_up s (i + 1) → d ≡ no_load
      → (Timed t → Bounded (left_by b) → Bounded (joined a (left_by b) s.nr d) → x ≡ link_of t (joined a (left_by b) s.nr d)) → x ≡ link_up s i
  unfolding link_up
  up-made i t a d b x h et ea eb ed make =
      let l : left_by b ≡ left s (upward s (suc i)) = left_below i b eb in
      let e : joined a (left_by b) s.nr d ≡ upward s i = rw (ea, l, ed) (upward-joined s i h) in
      make (rw et (timed (radio_of s) S.checked.radio)) (subst Bounded (sym l) (upward-left-bounded s S (suc i))) (subst Bounded (sym e) (upward-bounded s S i)) ∙ ap₂ link_of et e

  -- the downward link of depth i
  pub down-made : (i : ℕ) (t : Timing) (a d : Load) (b x : Link) → i < s.sink → t ≡ row_timing s → a ≡ near s → b ≡ link_up s (i + 1) → d ≡ coming s i
      → (Timed t → Bounded (left_by b) → Bounded (joined a (left_by b) (s.nr - 1) d) → x ≡ link_of t (joined a (left_by b) (s.nr - 1) d)) → x ≡ link_down s i
  unfolding link_down
  down-made i t a d b x h et ea eb ed make =
      let l : left_by b ≡ left s (upward s (suc i)) = left_below i b eb in
      let e : joined a (left_by b) (s.nr - 1) d ≡ downward s i = rw (ea, l, ed) (downward-joined s i) in
      make (rw et (timed (radio_of s) S.checked.radio)) (subst Bounded (sym l) (upward-left-bounded s S (suc i))) (subst Bounded (sym e) (downward-bounded s S i h)) ∙ ap₂ link_of et e

  -- what it leaves comes down to the next depth
  pub coming-made : (i : ℕ) (v : Link) (x : Load) → i < s.sink → v ≡ link_down s i → x ≡ load_up_to_64 (left_by v) → x ≡ coming s (i + 1)
  unfolding coming
  coming-made i v x h ev e = e ∙ rw (ev, left_down s i, add-one i) (fits (left s (downward s i)) (downward-left-bounded s S i h))
