-- The numbers of one line, as they are put and read. Assumes nothing.
use mathlib.Core.Path.{◌≡◌, refl, sym, ◌∙◌}
use mathlib.Core.List.{List, ◌++◌}
use Prim.Native.Nat.{ℕ, ◌+◌, ◌≤◌, ◌<◌, min}
use native.Mathlib.Decide.{dec_le}
use native.Mathlib.Omega.{arith}
use lib.ListN.{length, get_or, take, drop, set}
use native.Mathlib.Numerals.{add-one}
use lib.Seq.{sets, set_out, take-suc, length-take-le, get_or-append-add}
use Rattle.buffer.proofs.Putting.{sets-byte}
use Rattle.std.proofs.lemmas.List.{get_or-drop}
use Rattle.measure.specs.Measures.{symbols, slots, frames, frame_symbols, per_interval}
use Rattle.plan_model.specs.declared.Kind.{Kind}
use Rattle.plan_model.specs.declared.Kind.TheVariants.{EndNode, Upward, Downward, Sink}
use Rattle.plan_model.specs.declared.Line.{Line}
use Rattle.plan_model.specs.Lines.{line}
use Rattle.line_table_model.specs.Rows.{code_of, kind_from, numbers_of, line_in}

-- ---- as the functions put and read them

-- a place above m counts as m, where a table of at most m numbers has no room either
pub set-lowered : (e : List ℕ) (m p q x : ℕ) → length e ≤ m → q ≡ min p m → set e q x ≡ set e p x
set-lowered e m p q x h z = by (dec_le p m) where
  by : Dec (p ≤ m) → set e q x ≡ set e p x
  by (yes l) = let w : q ≡ p = omega arith in rw w
  by (no l) = set_out e q x (omega arith) ∙ sym (set_out e p x (omega arith))

-- one number more, put behind those before it
pub numbers-next : (e : List ℕ) (at : ℕ) (ns : List ℕ) (k : ℕ) → k < length ns → set (sets e at (take k ns)) (at + k) (get_or ns k 0) ≡ sets e at (take (k + 1) ns)
numbers-next e at ns k h =
    let z : length (take k ns) ≡ k = length-take-le k ns (omega arith) in
    let w = rw z at (sets-byte e at (take k ns) (get_or ns k 0)) in
    rw (add-one k, take-suc ns k 0 h) w

-- a line made of nine numbers as they were read is the one at that position
pub line_made : (ns : List ℕ) (at : ℕ) (k : Kind) (d a b s f l u y : ℕ) → k ≡ kind_from (get_or ns at 0) → d ≡ get_or ns (at + 1) 0 → a ≡ get_or ns (at + 2) 0 → b ≡ get_or ns (at + 3) 0
    → s ≡ get_or ns (at + 4) 0 → f ≡ get_or ns (at + 5) 0 → l ≡ get_or ns (at + 6) 0 → u ≡ get_or ns (at + 7) 0 → y ≡ get_or ns (at + 8) 0
    → line k d (record { rate = per_interval a; burst = frame_symbols b; slots = slots s; frames = frames f; latency = symbols l; buffer = frames u; delay = symbols y }) ≡ line_in ns at
unfolding line_in
line_made ns at k d a b s f l u y ek ed ea eb es ef el eu ey = rw (ek, ed, ea, eb, es, ef, el, eu, ey)

-- a line at a position depends on the nine numbers from there on
line_same : (ns ms : List ℕ) (at to : ℕ) → ((k : ℕ) → get_or ns (at + k) 0 ≡ get_or ms (to + k) 0) → line_in ns at ≡ line_in ms to
unfolding line_in
line_same ns ms at to e =
    let a : at + 0 ≡ at = omega arith in
    let t : to + 0 ≡ to = omega arith in
    let first : get_or ns at 0 ≡ get_or ms to 0 = rw (a, t) at (e 0) in
    rw (first, e 1, e 2, e 3, e 4, e 5, e 6, e 7, e 8)

-- so the line at a position is the first of what stands from there on
pub line-dropped : (ns : List ℕ) (at : ℕ) → line_in (drop at ns) 0 ≡ line_in ns at
line-dropped ns at = line_same (drop at ns) ns 0 at (λ k. let z : 0 + k ≡ k = omega arith in rw z (get_or-drop at ns k 0))

-- ---- read back

kind-back : (k : Kind) → kind_from (code_of k) ≡ k
unfolding kind_from code_of
kind-back EndNode = refl
kind-back Upward = refl
kind-back Downward = refl
kind-back Sink = refl

pub numbers-length : (l : Line) → length (numbers_of l) ≡ 9
unfolding numbers_of
numbers-length l = refl

-- a line from its own numbers, at the front
pub line-back : (l : Line) (ys : List ℕ) → line_in (numbers_of l ++ ys) 0 ≡ l
unfolding line_in numbers_of
line-back l ys = rw (kind-back l.kind)

-- and behind other numbers
pub line-behind : (xs ys : List ℕ) (m : ℕ) → line_in (xs ++ ys) (length xs + m) ≡ line_in ys m
line-behind xs ys m = line_same (xs ++ ys) ys (length xs + m) m (λ k. let e : length xs + m + k ≡ length xs + (m + k) = omega arith in rw e (get_or-append-add xs ys (m + k) 0))
