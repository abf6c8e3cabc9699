-- Proofs of the slots of a surveyed tree's routers. Assumes nothing.
-- the scatter-add law
pub mod Scatter
-- the pass over the links
pub mod Passing
-- numbers 5 and 7
pub mod Fitting
-- all conditions
pub mod Stages
