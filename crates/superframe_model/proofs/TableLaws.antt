-- The table of exchange times: the rule at each entry. Assumes nothing.
use mathlib.Core.Path.{◌≡◌, ap, ◌∙◌}
use mathlib.Core.Bool.{Bool, true, false, cond}
use Prim.Native.Nat.{ℕ, zero, suc, ◌+◌, ◌-◌, ◌*◌, ◌^◌, ◌≤◌, ◌<◌}
use native.Mathlib.Omega.{arith}
use lib.ListN.{get_or}
use borrow.Author.Tests.{lt-ltb, le-ltb}
use Rattle.measure.specs.declared.Symbols.{Symbols}
use Rattle.measure.specs.Measures.{symbols}
use Rattle.superframe_model.specs.Exchange.{exchange}
use Rattle.superframe_model.proofs.ExchangeLaws.{exchange-most}
use Rattle.superframe_model.specs.ExchangeTable.{entries_from, exchange_table, entry_for, entry_index, InOrder}

-- the rule, from any count of octets on
rule-from : (m n k : ℕ) (a : Bool) → k < n → get_or (entries_from m n) (2 * k + cond a 1 0) 0 ≡ (exchange (m + k) a).0
unfolding entries_from
rule-from m zero k a h = absurd (omega arith)
rule-from m (suc n) zero true h = ap (λ (x : ℕ). (exchange x true).0) (omega arith)
rule-from m (suc n) zero false h = ap (λ (x : ℕ). (exchange x false).0) (omega arith)
rule-from m (suc n) (suc k) a h =
    let z : 2 * suc k + cond a 1 0 ≡ suc (suc (2 * k + cond a 1 0)) = omega arith in
    let s : suc m + k ≡ m + suc k = omega arith in
    rw z (rule-from (suc m) n k a (omega arith) ∙ ap (λ (x : ℕ). (exchange x a).0) s)

one : (a : Bool) → cond a 1 0 ≤ 1
one true = omega arith
one false = omega arith

-- "each entry is document 01's X": of m octets, at its place
pub table-rule : (m : ℕ) (a : Bool) → 6 ≤ m → m ≤ 127 → entry_for (entry_index m a) ≡ exchange m a
unfolding entry_for entry_index exchange_table exchange
table-rule m a low high =
    let s : 6 + (m - 6) ≡ m = omega arith in
    rw (lt-ltb (entry_index m a) 244 (omega (arith, one a))) (ap symbols (rule-from 6 122 (m - 6) a (omega arith) ∙ ap (λ (x : ℕ). (exchange x a).0) s))

-- what is answered where there is an entry, and where there is none
pub entry-is : (i : ℕ) → i < 244 → symbols (get_or exchange_table i 0) ≡ entry_for i
unfolding entry_for
entry-is i h = rw (lt-ltb i 244 h)

pub entry-none : (i : ℕ) → 244 ≤ i → symbols 340 ≡ entry_for i
unfolding entry_for
entry-none i h = rw (le-ltb i 244 h)

-- so what is answered for an entry is in the table's order
pub in_order : (i : ℕ) (x : Symbols) → x ≡ entry_for i → (x ≡ entry_for i) × InOrder i x
unfolding InOrder
in_order i x e = (e, λ m a low high at. e ∙ ap entry_for at ∙ table-rule m a low high)

-- no entry is longer than 340
most-from : (m n i : ℕ) → m + n ≤ 128 → get_or (entries_from m n) i 0 ≤ 340
unfolding entries_from
most-from m zero i h = omega arith
most-from m (suc n) zero h = exchange-most m false (omega arith)
most-from m (suc n) (suc zero) h = exchange-most m true (omega arith)
most-from m (suc n) (suc (suc i)) h = most-from (suc m) n i (omega arith)

pub table_fits : (i : ℕ) → get_or exchange_table i 0 < 2 ^ 64
unfolding exchange_table
table_fits i = omega (arith, most-from 6 122 i (omega arith))
