-- Laws about the definitions of specs/. Assumes nothing.
-- number 2, column by column
pub mod Writing
-- after the first values of a row were taken
pub mod Taking
-- what a row is, by the verdicts on its conditions
pub mod RowCases
-- lists of as many numbers as columns
pub mod Elements
-- a row's text from its values
pub mod OneText
-- the laws of specs/Laws
pub mod LawsHold
-- a row without LOSS and with LOSS 0
pub mod WithoutLoss
-- document 01's examples
pub mod ExamplesHold
