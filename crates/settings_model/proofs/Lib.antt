-- Laws about the definitions of specs/. Assumes nothing.
-- number 3, column by column
pub mod Ranging
-- the columns' ranges, as the code's tests tell them
pub mod Ranges
-- numbers 3 and 4 as propositions
pub mod CheckLaws
-- the laws of specs/Laws
pub mod LawsHold
-- the examples of specs/Examples
pub mod ExamplesHold
-- to unfold all that these conditions are computed with
pub mod Computing
