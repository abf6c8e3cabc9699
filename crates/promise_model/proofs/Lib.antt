-- Laws about the definitions of specs/. Assumes nothing.
-- every frame was made by a reading
pub mod Makers
-- the law of specs/Laws
pub mod LawsHold
-- the examples of specs/Examples
pub mod ExamplesHold
