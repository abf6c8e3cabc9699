-- Definitions of answers to rows. Assumes nothing.
-- what a reader must believe: a row's outcome from its bytes
pub mod Outcomes
-- a row without LOSS and with LOSS 0
pub mod Laws
-- document 01's examples of refusals 1 to 7, and which of several answers, computed in one table
pub mod Examples
