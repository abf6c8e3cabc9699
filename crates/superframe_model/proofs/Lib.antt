-- Laws about the definitions of specs/. The layers above cite these and unfold no definition of this crate. Assumes nothing.
-- BI, SD, S, the beacon, the contention period, L
pub mod OrderLaws
-- X
pub mod ExchangeLaws
-- the table of exchange times: the rule at each entry
pub mod TableLaws
-- X with loss
pub mod LossLaws
-- m, k, T
pub mod ReservationLaws
-- document 01's figures
pub mod FiguresHold
