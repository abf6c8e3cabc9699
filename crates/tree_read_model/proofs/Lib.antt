-- Laws of node lists. Assumes nothing.
-- lines that keep number 10 and their tree
pub mod Listed
-- the laws
pub mod LawsHold
-- all that a text's outcome is computed with
pub mod Computing
-- the examples, computed
pub mod ExamplesHold
