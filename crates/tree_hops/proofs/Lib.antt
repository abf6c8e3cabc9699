-- Proofs of where frames go next. Assumes nothing.
-- one node's numbers behind another's
pub mod Hopping
-- the outcome, and what is put beside it
pub mod Outcomes
