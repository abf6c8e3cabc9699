-- Lemmas of this crate's proofs. Assumes nothing.
-- what `split` has left of a row
pub mod Parting
