-- Laws about the definitions of specs/. Assumes nothing.
-- texts that are the same
pub mod Sameness
-- bytes cut into pieces, from the first cut on
pub mod Cutting
-- the line at a position
pub mod LineLaws
-- a line put together again from its values
pub mod Joining
-- texts parted again into the values or lines that made them
pub mod Parting
-- the laws of specs/Laws
pub mod LawsHold
-- the examples
pub mod ExamplesHold
