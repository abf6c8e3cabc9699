-- Proofs of the reading of node lists. Assumes nothing.
-- a node line, taken or not
pub mod Takes
-- node lines, one after another
pub mod Reading
-- routers
pub mod Routers
