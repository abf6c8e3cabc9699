-- The busy period of a link: since some symbol every start was used. From it follow the queue and what has left it. Assumes nothing.
use mathlib.Core.Path.{◌≡◌, refl, ap, ◌∙◌}
use mathlib.Core.Logic.{◌≢◌}
use mathlib.Core.List.{List}
use Prim.Native.Nat.{ℕ, zero, suc, ◌+◌, ◌-◌, ◌≤◌, ◌<◌, min}
use native.Mathlib.Nat.{le_refl}
use native.Mathlib.Numerals.{sub-one}
use native.Mathlib.Decide.{dec_le}
use native.Mathlib.Omega.{arith}
use borrow.Author.Tests.{lt-ltb}
use Rattle.network.specs.Counting.{total, count}
use Rattle.network.specs.Model.{Network}
use Rattle.network.specs.Readings.{Reading}
use Rattle.network.specs.Oracle.{is_start, run}
use Rattle.network.proofs.Answers.{bit_le}
use Rattle.network.proofs.Lists.{count-ap, All-imp}
use Rattle.network.proofs.Serving.{came_before}
use Rattle.network.proofs.Pace.{starts}
use Rattle.network.proofs.Steps.{orderly}
use Rattle.network.proofs.Accounting.{any, waits, on_air, come, leave, came, gone, waits-follow, waits-total, air-total, come-total, left}

-- In symbol u a queue gets a u, and a start takes one of those that were there before, if there are any. Then since some
-- symbol s every start was used.
record Busy (w a st : ℕ → ℕ) (u : ℕ) : Type 0 where
  from : ℕ
  before : from ≤ u
  used : w u + total st u + total a (from - 1) ≡ total a u + total st from

busy : (w a st : ℕ → ℕ) → w 0 ≡ 0 → ((u : ℕ) → st u ≤ 1) → ((u : ℕ) → w (suc u) ≡ (w u - st u) + a u) → (u : ℕ) → Busy w a st u
unfolding total
busy w a st z one step zero = record { from = 0; before = le_refl 0; used = omega arith }
busy w a st z one step (suc u) = go (dec_le (st u) (w u)) (busy w a st z one step u)
  where
    go : Dec (st u ≤ w u) → Busy w a st u → Busy w a st (suc u)
    go (yes k) b = record { from = b.from; before = omega arith; used = omega (arith, step u, b.used) }
    go (no k) b = record { from = suc u; before = le_refl (suc u); used = simp sub-one (omega (arith, step u, one u)) }

module _ (N : Network) (l : List Reading) (pick : ℕ → ℕ → ℕ) where
  waits-busy : (c v u : ℕ) → v ≢ N.sink → Busy (waits N l pick (came_before c) v) (come N l pick (came_before c) v) (starts N v) u
  unfolding waits run count starts
  waits-busy c v u ns = busy (waits N l pick (came_before c) v) (come N l pick (came_before c) v) (starts N v) refl (λ i. bit_le (is_start N v i)) (λ i. waits-follow N l pick c v i ns) u

  waits-any : (v u c : ℕ) → v ≢ N.sink → u ≤ c → waits N l pick (came_before c) v u ≡ waits N l pick any v u
  unfolding waits any came_before
  waits-any v u c ns h = count-ap (came_before c) any ((run N l pick u).waiting v) (All-imp (λ f k. lt-ltb f.came c (omega arith)) (orderly N l pick v u ns).earlier)

  -- The queue before symbol u, of the frames that came before symbol c: since symbol `from` every start took one of them.
  pub record Backlog (c v u : ℕ) : Type 0 where
    pub from : ℕ
    pub before : from ≤ u - N.exchange
    pub used : waits N l pick (came_before c) v u + on_air N l pick (came_before c) v u + total (starts N v) (u - N.exchange) + came N l pick v (min (from - 1) c) ≡ came N l pick v (min u c) + total (starts N v) from

  pub backlog : (c v u : ℕ) → v ≢ N.sink → 0 < N.exchange → Backlog c v u
  backlog c v u ns x =
      let z : ℕ = u - N.exchange in
      let b : Busy (waits N l pick (came_before c) v) (come N l pick (came_before c) v) (starts N v) z = waits-busy c v z ns in
      record {
        from = b.from;
        before = b.before;
        used = omega (
          arith,
          b.used,
          waits-total N l pick (came_before c) v u ns,
          air-total N l pick (came_before c) v u ns,
          left N l pick (came_before c) v u ns x,
          waits-total N l pick (came_before c) v z ns,
          come-total N l pick c v u,
          come-total N l pick c v (b.from - 1),
        );
      }

  -- What left N l pick before symbol u: since symbol `from` every start sent a frame, and none left N l pick that came after its last start.
  pub record Output (v u : ℕ) : Type 0 where
    pub from : ℕ
    pub before : from ≤ u - N.exchange
    pub used : gone N l pick v u + total (starts N v) from ≡ total (starts N v) (u - N.exchange) + came N l pick v (from - 1)
    pub most : gone N l pick v u ≤ came N l pick v (u - N.exchange)

  pub output : (v u : ℕ) → v ≢ N.sink → 0 < N.exchange → Output v u
  unfolding gone came
  output v u ns x =
      let z : ℕ = u - N.exchange in
      let b : Busy (waits N l pick (came_before z) v) (come N l pick (came_before z) v) (starts N v) z = waits-busy z v z ns in
      let so_far : b.from ≤ z = b.before in
      let all : min z z ≡ z = omega arith in
      let few : min (b.from - 1) z ≡ b.from - 1 = omega arith in
      let now : total (come N l pick (came_before z) v) z ≡ total (come N l pick any v) z = come-total N l pick z v z ∙ ap (λ (k : ℕ). total (come N l pick any v) k) all in
      let then : total (come N l pick (came_before z) v) (b.from - 1) ≡ total (come N l pick any v) (b.from - 1) = come-total N l pick z v (b.from - 1) ∙ ap (λ (k : ℕ). total (come N l pick any v) k) few in
      let sent : waits N l pick any v z + total (leave N l pick any v) u ≡ total (come N l pick any v) z = omega (arith, left N l pick any v u ns x, waits-total N l pick any v z ns) in
      record {
        from = b.from;
        before = so_far;
        used = omega (arith, b.used, waits-any v z z ns (le_refl z));
        most = omega arith;
      }
