-- The figures that document 01 states of time on the air, each beside what the definitions give, in one table. Assumes nothing.
use Rattle.std.specs.Prelude.{◌≡◌, true, false, List, [], ◌∷◌, ◌++◌, map, ℕ, ◌^◌}
use Prim.Native.String.{String}
use Rattle.measure.specs.Measures.{frames, slots, per_interval}
use Rattle.superframe_model.specs.Orders.{beacon_interval, superframe, slot, beacon_length, contention, reservable}
use Rattle.superframe_model.specs.Exchange.{exchange}
use Rattle.superframe_model.specs.Loss.{lossy_exchange}
use Rattle.superframe_model.specs.Reservation.{frames_in, slots_for, latency}

-- what the figures are of, what the definitions give, and what the document or the standard states
pub record Figures : Type 0 where
  pub of : String
  pub ours : List ℕ
  pub stated : List ℕ

unfoldable pub orders : List ℕ
orders = 0 ∷ 1 ∷ 2 ∷ 3 ∷ 4 ∷ 5 ∷ 6 ∷ 7 ∷ 8 ∷ 9 ∷ 10 ∷ 11 ∷ 12 ∷ 13 ∷ 14 ∷ []

unfoldable pub given : String → List ℕ → List ℕ → Figures
given t a b = record { of = t; ours = a; stated = b }

unfoldable pub figures : List Figures
figures =
    given "X for M = 18, 19, 127, and 127 acknowledged"
    ((exchange 18 false).0 ∷ (exchange 19 false).0 ∷ (exchange 127 false).0 ∷ (exchange 127 true).0 ∷ [])
    (60 ∷ 90 ∷ 306 ∷ 340 ∷ [])
    ∷ given "X + LOSS × (X + 20) for LOSS 0, 1, 2 and 7, M = 127 acknowledged; LOSS 1 and 7 with M = 18 and 19 (E5)"
    (map (λ loss. (lossy_exchange 127 true loss).0) (0 ∷ 1 ∷ 2 ∷ 7 ∷ [])
    ++ map (λ loss. (lossy_exchange 18 true loss).0) (1 ∷ 7 ∷ [])
    ++ map (λ loss. (lossy_exchange 19 true loss).0) (1 ∷ 7 ∷ []))
    (340 ∷ 700 ∷ 1060 ∷ 2860 ∷ 208 ∷ 892 ∷ 268 ∷ 1132 ∷ [])
    ∷ given "beacons for g = 0 to 7"
    (map (λ g. (beacon_length g).0) (0 ∷ 1 ∷ 2 ∷ 3 ∷ 4 ∷ 5 ∷ 6 ∷ 7 ∷ []))
    (38 ∷ 46 ∷ 52 ∷ 58 ∷ 64 ∷ 70 ∷ 76 ∷ 82 ∷ [])
    ∷ given "contention slots for SO 0 to 14, with g = 0"
    (map (λ so. (contention so 0).0) orders)
    (8 ∷ 4 ∷ 2 ∷ 1 ∷ 1 ∷ 1 ∷ 1 ∷ 1 ∷ 1 ∷ 1 ∷ 1 ∷ 1 ∷ 1 ∷ 1 ∷ 1 ∷ [])
    ∷ given "with g = 1"
    (map (λ so. (contention so 1).0) orders)
    (9 ∷ 5 ∷ 3 ∷ 2 ∷ 1 ∷ 1 ∷ 1 ∷ 1 ∷ 1 ∷ 1 ∷ 1 ∷ 1 ∷ 1 ∷ 1 ∷ 1 ∷ [])
    ∷ given "with g = 7"
    (map (λ so. (contention so 7).0) orders)
    (9 ∷ 5 ∷ 3 ∷ 2 ∷ 1 ∷ 1 ∷ 1 ∷ 1 ∷ 1 ∷ 1 ∷ 1 ∷ 1 ∷ 1 ∷ 1 ∷ 1 ∷ [])
    ∷ given "L for SO 0 to 14, with g = 0"
    (map (λ so. (reservable so 0).0) orders)
    (8 ∷ 12 ∷ 14 ∷ 15 ∷ 15 ∷ 15 ∷ 15 ∷ 15 ∷ 15 ∷ 15 ∷ 15 ∷ 15 ∷ 15 ∷ 15 ∷ 15 ∷ [])
    ∷ given "with g = 1"
    (map (λ so. (reservable so 1).0) orders)
    (7 ∷ 11 ∷ 13 ∷ 14 ∷ 15 ∷ 15 ∷ 15 ∷ 15 ∷ 15 ∷ 15 ∷ 15 ∷ 15 ∷ 15 ∷ 15 ∷ 15 ∷ [])
    ∷ given "L for SO 0, with g = 10, 11, 70, 71 and 2^80"
    (map (λ g. (reservable 0 g).0) (10 ∷ 11 ∷ 70 ∷ 71 ∷ 2 ^ 80 ∷ []))
    (7 ∷ 6 ∷ 1 ∷ 0 ∷ 0 ∷ [])
    ∷ given "BI for BO 0 (15.36 ms), 8 (P1) and 14 (251.65824 s); SD and S for SO 0 and 4"
    ((beacon_interval 0).0 ∷ (beacon_interval 8).0 ∷ (beacon_interval 14).0 ∷ (superframe 0).0 ∷ (superframe 4).0 ∷ (slot 0).0 ∷ (slot 4).0 ∷ [])
    (960 ∷ 245760 ∷ 15728640 ∷ 960 ∷ 15360 ∷ 60 ∷ 960 ∷ [])
    ∷ given "P1, RATE 1, SO 4, M = 26: k, m, T"
    ((slots_for (per_interval 1) (slot 4) (exchange 26 false)).0
    ∷ (frames_in (slots 1) (slot 4) (exchange 26 false)).0
    ∷ (latency (beacon_interval 8) (frames 9) (exchange 26 false)).0
    ∷ [])
    (1 ∷ 9 ∷ 245032 ∷ [])
    ∷ given "P3, RATE 1, SO 0, M = 26: k, m, and T for m = 1"
    ((slots_for (per_interval 1) (slot 0) (exchange 26 false)).0
    ∷ (frames_in (slots 2) (slot 0) (exchange 26 false)).0
    ∷ (latency (beacon_interval 0) (frames 1) (exchange 26 false)).0
    ∷ [])
    (2 ∷ 1 ∷ 1064 ∷ [])
    ∷ given "P5 and P6, RATE 1 and 2, SO 0, M = 18: k"
    ((slots_for (per_interval 1) (slot 0) (exchange 18 false)).0
    ∷ (slots_for (per_interval 2) (slot 0) (exchange 18 false)).0
    ∷ [])
    (1 ∷ 2 ∷ [])
    ∷ []

-- the theorem; proofs/FiguresHold proves it by computing both sides
unfoldable pub FiguresHold : Type 0
FiguresHold = map (λ f. f.ours) figures ≡ map (λ f. f.stated) figures
