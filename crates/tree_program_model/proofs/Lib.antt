-- Laws about the definitions of specs/. Assumes nothing.
-- numbers 9, 10 and 2, and all that is printed, as code finds them
pub mod Outputs
-- what holds of what is printed
pub mod LawsHold
-- the examples, computed
pub mod ExamplesHold
