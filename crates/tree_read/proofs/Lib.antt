-- Proofs of the reading of a node's line. Assumes nothing.
-- a line's values, one after another
pub mod Values
