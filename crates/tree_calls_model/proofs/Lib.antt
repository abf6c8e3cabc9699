-- Laws about the definitions of specs/. Assumes nothing.
-- demand 3
pub mod LawsHold
-- texts that break the promise
pub mod Breaks
-- the examples
pub mod ExamplesHold
