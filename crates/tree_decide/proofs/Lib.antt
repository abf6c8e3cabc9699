-- Proofs of what is decided of a surveyed tree. Assumes nothing.
-- a node's line and its parts
pub mod Lining
-- lines and hops, one behind another
pub mod Rowing
-- the whole
pub mod Deciding
