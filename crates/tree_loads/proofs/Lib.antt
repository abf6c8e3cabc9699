-- Proofs of the loads of a surveyed tree. Assumes nothing.
-- the first entries of a table
pub mod Prefix
-- a list that was read, and its loads
pub mod Holding
-- the notes of the walk
pub mod Notes
-- a node's neighbours, one after another
pub mod Turns
-- and along the lists of children
pub mod Neighbours
