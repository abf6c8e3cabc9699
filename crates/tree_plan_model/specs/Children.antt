-- Lists of children: a node's first child, and each child's next sibling, in a table of kin. Assumes nothing: these are definitions.
use Rattle.std.specs.Prelude.{◌≡◌, ◌⊎◌, Bool, ◌&&◌, ◌||◌, List, ℕ, ◌+◌, ◌≤◌, ◌<◌, eqb, ltb, length, get_or}

-- A table of kin has three parts of 256 numbers: entry v of each is node v's parent, first child and next sibling, 0 where there is none.
abbrev pub first_child : List ℕ → ℕ → ℕ
first_child ks v = get_or ks (256 + v) 0

abbrev pub next_sibling : List ℕ → ℕ → ℕ
next_sibling ks v = get_or ks (512 + v) 0

-- is it the root, or has it a first child?
unfoldable pub router_in : List ℕ → ℕ → Bool
router_in ks v = eqb v 1 || (ltb v 256 && ltb 0 (first_child ks v))

-- c is the least child of v behind k, or 0 where there is none
pub record Least (ps : List ℕ) (v k c : ℕ) : Type 0 where
  pub behind : 1 ≤ c → k < c
  pub known : 1 ≤ c → c < length ps
  pub child : 1 ≤ c → get_or ps c 0 ≡ v
  pub some : (u : ℕ) → k < u → u < length ps → get_or ps u 0 ≡ v → 1 ≤ c
  pub least : (u : ℕ) → k < u → u < length ps → get_or ps u 0 ≡ v → c ≤ u

-- the children behind k are linked, of the nodes whose parents are these; number 0 has no parent
pub record LinkedFrom (ps : List ℕ) (k : ℕ) (ks : List ℕ) : Type 0 where
  pub front : get_or ks 0 0 ≡ 0
  pub parents : (v : ℕ) → k < v → v < length ps → get_or ks v 0 ≡ get_or ps v 0
  pub first : (v : ℕ) → v < 256 → Least ps v k (first_child ks v)
  pub next : (w : ℕ) → k < w → w < length ps → Least ps (get_or ps w 0) w (next_sibling ks w)

-- all are
abbrev pub Linked : List ℕ → List ℕ → Type 0
Linked ps ks = LinkedFrom ps 0 ks

-- ---- neighbours

abbrev pub Beside : List ℕ → ℕ → ℕ → Type 0
Beside ps v u = (get_or ps u 0 ≡ v) ⊎ (get_or ps v 0 ≡ u)

-- c is the least neighbour of v behind k, or 0 where there is none
pub record Nearest (ps : List ℕ) (v k c : ℕ) : Type 0 where
  pub behind : 1 ≤ c → k < c
  pub known : 1 ≤ c → c < length ps
  pub beside : 1 ≤ c → Beside ps v c
  pub some : (u : ℕ) → k < u → u < length ps → Beside ps v u → 1 ≤ c
  pub least : (u : ℕ) → k < u → u < length ps → Beside ps v u → c ≤ u
