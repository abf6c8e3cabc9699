-- Laws about the definitions of specs/. Assumes nothing.
-- demand 3
pub mod LawsHold
-- a row without LOSS and with LOSS 0
pub mod WithoutLoss
-- a text that breaks the promise
pub mod Breaks
-- a plan without LOSS breaks the promise of a row with LOSS
pub mod LossBreaks
-- the examples
pub mod ExamplesHold
