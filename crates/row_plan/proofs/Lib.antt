-- Proofs of the plans of surveyed trees. Assumes nothing.
-- what is decided, printed
pub mod Printing
