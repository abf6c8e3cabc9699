-- No condition of numbers 3 to 7 is broken exactly where settings can be planned. Assumes nothing.
use mathlib.Core.Path.{◌≡◌, refl}
use mathlib.Core.Bool.{Bool, true, false, ◌&&◌, false≢true}
use mathlib.Core.List.{List, ◌++◌}
use Prim.Native.Nat.{ℕ, zero, suc, ◌+◌, ◌-◌, ◌≤◌, ◌<◌}
use lib.Dec.{ltb}
use lib.Pow.{pow_mono}
use native.Mathlib.Decide.{ℕ_discrete}
use native.Mathlib.Omega.{arith}
use borrow.Author.Tests.{ltb-true, ltb-false, lt-ltb, le-ltb, eq-eqb, ne_eqb, not-true}
use Rattle.refusals.specs.declared.Refusal.{Refusal}
use Rattle.refusals.specs.Conditions.{Condition, Unbroken}
use Rattle.refusals.proofs.Unbroken.{unbroken-append, unbroken-left, unbroken-right}
use Rattle.settings_model.specs.declared.Settings.{Settings}
use Rattle.settings_model.specs.Checks.{radio_of, checks}
use Rattle.settings_model.specs.Laws.{Checked}
use Rattle.settings_model.proofs.LawsHold.{unbroken-where-checked}
use Rattle.row_model.specs.Times.{reservable_at}
use Rattle.row_model.specs.Checks.{reservations, routers, routers_fit, used_off_path, used_on_path, has_off_path, has_on_path, off_path_at, on_path_at, used_at, used_from, conditions}
use Rattle.plan_model.specs.Times.{superframes}
use Rattle.row_model.specs.Bounds.{Sound}
use Rattle.row_model.specs.Laws.{Plannable}

-- a condition on what is used of l, asked only where b holds
asked : (b : Bool) (l u : ℕ) → (b && ltb l u) ≡ false → b ≡ true → u ≤ l
asked true l u e h = ltb-false l u e
asked false l u e h = absurd (false≢true h)

kept : (b : Bool) (l u : ℕ) → (b ≡ true → u ≤ l) → (b && ltb l u) ≡ false
kept true l u f = le-ltb l u (f refl)
kept false l u f = refl

module _ (s : Settings) where
  -- all depths have a router off the sink's path, but the root only where it is the sink
  off-path : (i : ℕ) → (i ≡ 0 → s.sink ≡ 0) → has_off_path s i ≡ true
  unfolding has_off_path
  off-path i f = by (ℕ_discrete i 0)
    where
      by : Dec (i ≡ 0) → has_off_path s i ≡ true
      by (yes e) = rw (eq-eqb i 0 e, le-ltb 0 s.sink (omega (arith, f e)))
      by (no n) = rw (ne_eqb i 0 n)

  root-is-sink : (i : ℕ) → has_off_path s i ≡ true → i ≡ 0 → s.sink ≡ 0
  unfolding has_off_path
  root-is-sink i h e =
      let t = rw (eq-eqb i 0 e) at h in
      omega (arith, ltb-false 0 s.sink (not-true _ t))

  -- ---- the depths one by one

  -- no condition on the slots of depth i is broken
  abbrev Held : ℕ → Type 0
  Held i = Unbroken (used_at s i)

  held-each : (n i : ℕ) → Unbroken (used_from s n i) → (j : ℕ) → i ≤ j → j < i + n → Held j
  unfolding used_from
  held-each zero i u j l h = absurd (omega arith)
  held-each (suc n) i u j l h = by (ℕ_discrete i j) (held-each n (suc i) (unbroken-right (used_at s i) (used_from s n (suc i)) u) j)
    where
      by : Dec (i ≡ j) → (suc i ≤ j → j < suc i + n → Held j) → Held j
      by (yes e) f = rw e at (unbroken-left (used_at s i) (used_from s n (suc i)) u)
      by (no e) f = f (omega arith) (omega arith)

  held_all : (n i : ℕ) → ((j : ℕ) → j < i + n → Held j) → Unbroken (used_from s n i)
  unfolding used_from
  held_all zero i f = tt
  held_all (suc n) i f = unbroken-append (used_at s i) (used_from s n (suc i)) (f i (omega arith)) (held_all n (suc i) (λ j h. f j (omega arith)))

  -- ---- all conditions

  abbrev before-6 : List (Condition Refusal)
  before-6 = checks s ++ reservations s

  abbrev before-7 : List (Condition Refusal)
  before-7 = before-6 ++ routers_fit s

  pub unbroken-plannable : Unbroken (conditions s) → Plannable s
  unfolding conditions reservations routers_fit off_path_at on_path_at used_at has_on_path
  unbroken-plannable u =
      let to-6 : Unbroken before-7 = unbroken-left before-7 (used_from s (suc s.h) 0) u in
      let to-5 : Unbroken before-6 = unbroken-left before-6 (routers_fit s) to-6 in
      let checked = (unbroken-where-checked s).0 (unbroken-left (checks s) (reservations s) to-5) in
      let five : Unbroken (reservations s) = unbroken-right (checks s) (reservations s) to-5 in
      let six : Unbroken (routers_fit s) = unbroken-right before-6 (routers_fit s) to-6 in
      let seven : (j : ℕ) → j < suc s.h → Held j = λ j h. held-each (suc s.h) 0 (unbroken-right before-7 (used_from s (suc s.h) 0) u) j (omega arith) (omega arith) in
      record {
        checked = checked;
        reservations = ltb-false 7 _ five.0;
        routers = ltb-false (superframes (radio_of s)) (routers s) six.0;
        off_path = λ i h z. asked (has_off_path s i) _ _ (seven i (omega arith)).0 (off-path i z);
        on_path = λ i h. asked (has_on_path s i) _ _ (seven i (omega (arith, checked.sink_depth))).1.0 (lt-ltb i s.sink h);
      }

  pub plannable-unbroken : Plannable s → Unbroken (conditions s)
  unfolding conditions reservations routers_fit off_path_at on_path_at used_at has_on_path
  plannable-unbroken P =
      unbroken-append before-7 (used_from s (suc s.h) 0)
      (unbroken-append before-6 (routers_fit s)
      (unbroken-append (checks s) (reservations s) ((unbroken-where-checked s).1 P.checked) (le-ltb 7 _ P.reservations, tt))
      (le-ltb (superframes (radio_of s)) (routers s) P.routers, tt))
      (held_all (suc s.h) 0 (λ j h. (off j (omega arith), (on j, tt))))
    where
      off : (j : ℕ) → j ≤ s.h → (has_off_path s j && ltb (reservable_at s j).0 (used_off_path s j).0) ≡ false
      off j h = kept (has_off_path s j) _ _ (λ t. P.off_path j h (root-is-sink j t))

      on : (j : ℕ) → (has_on_path s j && ltb (reservable_at s j).0 (used_on_path s j).0) ≡ false
      on j = kept (has_on_path s j) _ _ (λ t. P.on_path j (ltb-true j s.sink t))

  -- numbers 3 to 6 leave at most 2^14 routers
  pub few-routers : Checked s → routers s ≤ superframes (radio_of s) → Sound s
  unfolding superframes
  few-routers C h =
      let most : s.bo - s.so ≤ 14 = omega (arith, C.radio.bo) in
      record { checked = C; few = omega (arith, pow_mono most) }
