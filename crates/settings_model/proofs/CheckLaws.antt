-- Conditions of numbers 3 and 4 as propositions. Assumes nothing.
use mathlib.Core.Path.{◌≡◌, ◌∙◌}
use mathlib.Core.Bool.{false, not, ◌&&◌, and-eq-true_iff, and-true, and-false, and_comm}
use mathlib.Core.List.{List, [], ◌∷◌, ◌++◌}
use Prim.Native.Nat.{ℕ, ◌+◌, ◌≤◌, ◌<◌}
use native.Mathlib.Omega.{arith}
use native.Mathlib.Decide.{dec_le}
use lib.Dec.{leb, ltb, eqb}
use borrow.Author.Tests.{leb-true, le-leb, ltb-false, lt-ltb, le-ltb, eqb-false, eq-eqb, ne_eqb, not-false}
use Rattle.refusals.specs.Conditions.{Unbroken}
use Rattle.settings_model.specs.declared.Settings.{Settings}
use Rattle.refusals.proofs.Unbroken.{unbroken-append, unbroken-left, unbroken-right}
use Rattle.settings_model.specs.declared.Radio.{Radio}
use Rattle.settings_model.specs.Columns.{twelve, every_column, column_at}
use Rattle.settings_model.specs.Checks.{radio_of, ranged, values_of, radio_ranged, orders_at_odds, shape_at_odds, frame_at_odds, at_odds, radio_at_odds, radio_checks}
use Rattle.settings_model.specs.Laws.{CheckedRadio, Checked}

-- a value in range
in-range : (l h v : ℕ) → not (leb l v && leb v h) ≡ false → (l ≤ v) × (v ≤ h)
in-range l h v e =
    let g = (and-eq-true_iff (leb l v) (leb v h)).0 (not-false (leb l v && leb v h) e) in
    (leb-true l v g.0, leb-true v h g.1)

range-in : (l h v : ℕ) → l ≤ v → v ≤ h → not (leb l v && leb v h) ≡ false
range-in l h v p q = rw (le-leb l v p, le-leb v h q)

-- none of a with some of b, and the other way round
none-some : (a b : ℕ) → (eqb a 0 && ltb 0 b) ≡ false → 0 < b → 0 < a
none-some a b e h =
    let e' = rw (lt-ltb 0 b h, and-true (eqb a 0)) at e in
    let n = eqb-false a 0 e' in
    omega arith

some-none : (a b : ℕ) → (ltb 0 a && eqb b 0) ≡ false → 0 < a → 0 < b
some-none a b e h =
    let e' = rw (lt-ltb 0 a h) at e in
    let n = eqb-false b 0 e' in
    omega arith

not-none-some : (a b : ℕ) → (0 < b → 0 < a) → (eqb a 0 && ltb 0 b) ≡ false
not-none-some a b f = by (dec_le 1 b) where
  by : Dec (1 ≤ b) → (eqb a 0 && ltb 0 b) ≡ false
  by (yes h) = rw (ne_eqb a 0 (λ z. let g = f h in absurd (omega arith)))
  by (no n) = rw (le-ltb 0 b (omega arith), and-false (eqb a 0))

not-some-none : (a b : ℕ) → (0 < a → 0 < b) → (ltb 0 a && eqb b 0) ≡ false
not-some-none a b f = and_comm (ltb 0 a) (eqb b 0) ∙ not-none-some b a f

-- both none
some-of-two : (a b : ℕ) → (eqb a 0 && eqb b 0) ≡ false → 0 < a + b
some-of-two a b e = by (dec_le 1 a) where
  by : Dec (1 ≤ a) → 0 < a + b
  by (yes h) = omega arith
  by (no n) =
      let e' = rw (eq-eqb a 0 (omega arith)) at e in
      let m = eqb-false b 0 e' in
      omega arith

not-both-none : (a b : ℕ) → 0 < a + b → (eqb a 0 && eqb b 0) ≡ false
not-both-none a b h = by (dec_le 1 a) where
  by : Dec (1 ≤ a) → (eqb a 0 && eqb b 0) ≡ false
  by (yes p) = rw (ne_eqb a 0 (λ z. absurd (omega arith)))
  by (no n) = rw (ne_eqb b 0 (λ z. absurd (omega arith)), and-false (eqb a 0))

-- some of a with fewer than two of b
two-for-some : (a b : ℕ) → (ltb 0 a && ltb b 2) ≡ false → 0 < a → 2 ≤ b
two-for-some a b e h =
    let e' = rw (lt-ltb 0 a h) at e in
    ltb-false b 2 e'

not-some-below-two : (a b : ℕ) → (0 < a → 2 ≤ b) → (ltb 0 a && ltb b 2) ≡ false
not-some-below-two a b f = by (dec_le 1 a) where
  by : Dec (1 ≤ a) → (ltb 0 a && ltb b 2) ≡ false
  by (yes h) = rw (le-ltb b 2 (f h), and-false (ltb 0 a))
  by (no n) = rw (le-ltb 0 a (omega arith))

-- ---- what is set on every radio

module _ (b : Radio) where
  pub orders-agreed : Unbroken (orders_at_odds b) → b.so ≤ b.bo
  unfolding orders_at_odds
  orders-agreed o = ltb-false b.bo b.so o.0

  pub orders-agree : b.so ≤ b.bo → Unbroken (orders_at_odds b)
  unfolding orders_at_odds
  orders-agree h = (le-ltb b.bo b.so h, tt)

  pub frame-agreed : Unbroken (frame_at_odds b) → (b.head + b.payload ≤ 127) × (0 < b.loss → 0 < b.ack)
  unfolding frame_at_odds
  frame-agreed o = (ltb-false 127 (b.head + b.payload) o.0, some-none b.loss b.ack o.1.0)

  pub frame-agrees : b.head + b.payload ≤ 127 → (0 < b.loss → 0 < b.ack) → Unbroken (frame_at_odds b)
  unfolding frame_at_odds
  frame-agrees h k = (le-ltb 127 (b.head + b.payload) h, (not-some-none b.loss b.ack k, tt))

  abbrev order_values : List ℕ
  order_values = b.bo ∷ b.so ∷ []

  abbrev frame_values : List ℕ
  frame_values = b.head ∷ b.payload ∷ b.ack ∷ b.loss ∷ []

  -- no condition is broken where they are checked, and the other way round
  pub unbroken-radio : Unbroken (radio_checks b) → CheckedRadio b
  unfolding twelve every_column column_at ranged radio_ranged radio_at_odds radio_checks
  unbroken-radio u =
      let r = unbroken-left (radio_ranged b) (radio_at_odds b) u in
      let o = unbroken-right (radio_ranged b) (radio_at_odds b) u in
      let low = unbroken-left (ranged 0 order_values) (ranged 9 frame_values) r in
      let high = unbroken-right (ranged 0 order_values) (ranged 9 frame_values) r in
      let g = frame-agreed (unbroken-right (orders_at_odds b) (frame_at_odds b) o) in
      record {
        bo = (in-range 0 14 b.bo low.0).1;
        so = (in-range 0 14 b.so low.1.0).1;
        head = in-range 5 126 b.head high.0;
        payload = in-range 1 122 b.payload high.1.0;
        ack = (in-range 0 1 b.ack high.1.1.0).1;
        loss = (in-range 0 7 b.loss high.1.1.1.0).1;
        orders = orders-agreed (unbroken-left (orders_at_odds b) (frame_at_odds b) o);
        frame = g.0;
        acknowledged = g.1;
      }

  pub radio-unbroken : CheckedRadio b → Unbroken (radio_checks b)
  unfolding twelve every_column column_at ranged radio_ranged radio_at_odds radio_checks
  radio-unbroken k =
      unbroken-append (radio_ranged b) (radio_at_odds b)
      (unbroken-append (ranged 0 order_values) (ranged 9 frame_values)
      (range-in 0 14 b.bo (omega arith) k.bo, (range-in 0 14 b.so (omega arith) k.so, tt)) (
        range-in 5 126 b.head k.head.0 k.head.1,
        (
          range-in 1 122 b.payload k.payload.0 k.payload.1,
          (range-in 0 1 b.ack (omega arith) k.ack, (range-in 0 7 b.loss (omega arith) k.loss, tt)),
        ),
      ))
      (unbroken-append (orders_at_odds b) (frame_at_odds b) (orders-agree k.orders) (frame-agrees k.frame k.acknowledged))

-- ---- a row

module _ (s : Settings) where
  shape-agreed : Unbroken (shape_at_odds s)
      → (0 < s.h → 0 < s.nr) × (0 < s.nr → 0 < s.h) × (0 < s.ne + s.own) × (s.sink ≤ s.h) × (0 < s.sink → 2 ≤ s.nr)
  unfolding shape_at_odds
  shape-agreed o = (
    none-some s.nr s.h o.0,
    some-none s.nr s.h o.1.0,
    some-of-two s.ne s.own o.1.1.0,
    ltb-false s.h s.sink o.1.1.1.0,
    two-for-some s.sink s.nr o.1.1.1.1.0,
  )

  shape-agrees : Checked s → Unbroken (shape_at_odds s)
  unfolding shape_at_odds
  shape-agrees k = (
    not-none-some s.nr s.h k.children,
    (
      not-some-none s.nr s.h k.depth,
      (
        not-both-none s.ne s.own k.sensors,
        (le-ltb s.h s.sink k.sink_depth, (not-some-below-two s.sink s.nr k.sink_branches, tt)),
      ),
    ),
  )

  pub agrees : Checked s → Unbroken (at_odds s)
  unfolding at_odds
  agrees k =
      unbroken-append (orders_at_odds (radio_of s) ++ shape_at_odds s) (frame_at_odds (radio_of s))
      (unbroken-append (orders_at_odds (radio_of s)) (shape_at_odds s) (orders-agree (radio_of s) k.radio.orders) (shape-agrees k))
      (frame-agrees (radio_of s) k.radio.frame k.radio.acknowledged)

  -- settings of which no condition is broken are checked, and the other way round
  pub unbroken-checked : Unbroken (ranged 0 (values_of s)) → Unbroken (at_odds s) → Checked s
  unfolding twelve every_column column_at ranged values_of at_odds
  unbroken-checked r o =
      let front = unbroken-left (orders_at_odds (radio_of s) ++ shape_at_odds s) (frame_at_odds (radio_of s)) o in
      let g = shape-agreed (unbroken-right (orders_at_odds (radio_of s)) (shape_at_odds s) front) in
      let f = frame-agreed (radio_of s) (unbroken-right (orders_at_odds (radio_of s) ++ shape_at_odds s) (frame_at_odds (radio_of s)) o) in
      record {
        radio = record {
          bo = (in-range 0 14 s.bo r.0).1;
          so = (in-range 0 14 s.so r.1.0).1;
          head = in-range 5 126 s.head r.1.1.1.1.1.1.1.1.1.0;
          payload = in-range 1 122 s.payload r.1.1.1.1.1.1.1.1.1.1.0;
          ack = (in-range 0 1 s.ack r.1.1.1.1.1.1.1.1.1.1.1.0).1;
          loss = (in-range 0 7 s.loss r.1.1.1.1.1.1.1.1.1.1.1.1.0).1;
          orders = orders-agreed (radio_of s) (unbroken-left (orders_at_odds (radio_of s)) (shape_at_odds s) front);
          frame = f.0;
          acknowledged = f.1;
        };
        h = (in-range 0 12 s.h r.1.1.0).1;
        nr = (in-range 0 7 s.nr r.1.1.1.0).1;
        ne = (in-range 0 7 s.ne r.1.1.1.1.0).1;
        own = (in-range 0 1 s.own r.1.1.1.1.1.0).1;
        sink = (in-range 0 12 s.sink r.1.1.1.1.1.1.0).1;
        burst = in-range 1 255 s.burst r.1.1.1.1.1.1.1.0;
        rate = in-range 1 4095 s.rate r.1.1.1.1.1.1.1.1.0;
        children = g.0;
        depth = g.1;
        sensors = g.2;
        sink_depth = g.3;
        sink_branches = g.4;
      }

  pub checked-ranged : Checked s → Unbroken (ranged 0 (values_of s))
  unfolding twelve every_column column_at ranged values_of
  checked-ranged k = (
    range-in 0 14 s.bo (omega arith) k.radio.bo,
    (
      range-in 0 14 s.so (omega arith) k.radio.so,
      (
        range-in 0 12 s.h (omega arith) k.h,
        (
          range-in 0 7 s.nr (omega arith) k.nr,
          (
            range-in 0 7 s.ne (omega arith) k.ne,
            (
              range-in 0 1 s.own (omega arith) k.own,
              (
                range-in 0 12 s.sink (omega arith) k.sink,
                (
                  range-in 1 255 s.burst k.burst.0 k.burst.1,
                  (
                    range-in 1 4095 s.rate k.rate.0 k.rate.1,
                    (
                      range-in 5 126 s.head k.radio.head.0 k.radio.head.1,
                      (
                        range-in 1 122 s.payload k.radio.payload.0 k.radio.payload.1,
                        (
                          range-in 0 1 s.ack (omega arith) k.radio.ack,
                          (range-in 0 7 s.loss (omega arith) k.radio.loss, tt),
                        ),
                      ),
                    ),
                  ),
                ),
              ),
            ),
          ),
        ),
      ),
    ),
  )
