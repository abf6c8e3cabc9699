-- Proofs of the linking of children. Assumes nothing.
-- the children, one after another, and what a table of kin says
pub mod Linking
