-- The table of exchange times as the entry for C hands it out. Assumes nothing.
use mathlib.Core.Path.{◌≡◌, refl, ap, sym, ◌∙◌}
use Prim.Native.Nat.{ℕ, ◌+◌, ◌-◌, ◌*◌, ◌≤◌}
use mathlib.Core.Bool.{Bool}
use native.Mathlib.Decide.{dec_le}
use native.Mathlib.Omega.{arith}
use lib.Dec.{eqb}
use borrow.Author.Tests.{le-leb}
use Rattle.measure.specs.declared.Symbols.{Symbols}
use Rattle.superframe_model.specs.Exchange.{exchange, exchange_for}
use Rattle.superframe_model.specs.ExchangeTable.{entry_for, entry_index}
use Rattle.superframe_model.proofs.ExchangeLaws.{exchange-for-octets, exchange-most}
use Rattle.superframe_model.proofs.TableLaws.{table-rule}
use Rattle.calls_model.specs.Exchanges.{exchange_asked}
use Rattle.calls_model.specs.Laws.{HandsOutTheTable}

-- within 6 and 127 octets: X is the rule's, and at most the longest exchange
module _ (m : ℕ) (acked : Bool) (low : 6 ≤ m) (high : m ≤ 127) where
  pub exchange_inside : exchange_for m acked ≡ exchange m acked
  exchange_inside = exchange-for-octets m acked low high

  pub exchange_bound : (exchange_for m acked).0 ≤ 340
  exchange_bound = let z : (exchange_for m acked).0 ≡ (exchange m acked).0 = ap (λ (y : Symbols). y.0) exchange_inside in omega (arith, z, exchange-most m acked high)

asked_is : (m ack : ℕ) → 6 ≤ m → m ≤ 127 → ack ≤ 1 → (exchange m (eqb ack 1)).0 ≡ exchange_asked m ack
unfolding exchange_asked
asked_is m ack low high h = rw (le-leb 6 m low, le-leb m 127 high, le-leb ack 1 h)

-- the place of m octets counts ACK itself
place_is : (m ack : ℕ) → ack ≤ 1 → entry_index m (eqb ack 1) ≡ 2 * (m - 6) + ack
unfolding entry_index
place_is m ack h = elim (dec_le ack 0) [
  | yes l ↦ let z : ack ≡ 0 = omega arith in rw z refl
  | no f ↦ let z : ack ≡ 1 = omega arith in rw z refl
]

pub hands-out-the-table : HandsOutTheTable
hands-out-the-table m ack low high h =
    sym (asked_is m ack low high h) ∙ ap (λ (x : Symbols). x.0) (sym (table-rule m (eqb ack 1) low high)) ∙ ap (λ (i : ℕ). (entry_for i).0) (place_is m ack h)
