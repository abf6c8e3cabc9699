-- What a reader must believe of time on the air, in document 01's order. Assumes nothing.
-- BI, SD, S, the beacon, the contention period, L
pub mod Orders
-- X
pub mod Exchange
-- the table of exchange times, its order and its rule
pub mod ExchangeTable
-- an exchange in which tries of its frame may fail
pub mod Loss
-- m, k, the rate of a reservation, T
pub mod Reservation
-- document 01's figures, computed in one table
pub mod Figures
