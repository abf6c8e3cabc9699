-- The table of exchange times (document 02, E4): its order and its rule. Assumes nothing: these are definitions.
use Rattle.std.specs.Prelude.{ℕ, zero, suc, ◌+◌, ◌-◌, ◌*◌, ◌≤◌, ◌≡◌, Bool, true, false, cond, List, [], ◌∷◌, ltb, get_or}
use Rattle.measure.specs.declared.Symbols.{Symbols}
use Rattle.measure.specs.Measures.{symbols}
use Rattle.superframe_model.specs.Exchange.{exchange}

-- "each entry is document 01's X, M by M, without acknowledgement and then with": those of n counts of octets, from m on
unfoldable pub entries_from : ℕ → ℕ → List ℕ
entries_from m zero = []
entries_from m (suc n) = (exchange m false).0 ∷ (exchange m true).0 ∷ entries_from (suc m) n

-- "244 entries, for M from 6 to 127": 122 counts of octets from 6 on
unfoldable pub exchange_table : List ℕ
exchange_table = entries_from 6 122

-- what is answered for any entry, counted from 0: 340, the longest of all, where there is none
unfoldable pub entry_for : ℕ → Symbols
entry_for i = symbols (cond (ltb i 244) (get_or exchange_table i 0) 340)

-- the entry at which X of m octets stands
unfoldable pub entry_index : ℕ → Bool → ℕ
entry_index m acknowledged = 2 * (m - 6) + cond acknowledged 1 0

-- the order, for those who hold the table against a print: where x stands at entry i, and X of m octets stands there, x is that X
unfoldable pub InOrder : ℕ → Symbols → Type 0
InOrder i x = (m : ℕ) (acknowledged : Bool) → 6 ≤ m → m ≤ 127 → i ≡ entry_index m acknowledged → x ≡ exchange m acknowledged
