-- Proofs of the depths and ways of a surveyed tree. Assumes nothing.
-- one entry of a table put
pub mod Putting
-- depths
pub mod Deepening
-- the figures of a link
pub mod Figuring
-- ways
pub mod Routing
-- from stage to stage
pub mod Staging
