-- Proofs of the plans of surveyed trees. Assumes nothing.
-- what is decided, as lines of a table
pub mod Printing
