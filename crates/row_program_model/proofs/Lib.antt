-- Laws about the definitions of specs/. Assumes nothing.
-- numbers 9 and 1 of an input, and the text of a row, as code finds them
pub mod Inputs
-- the steps end, and print all of the output
pub mod LawsHold
-- rows without LOSS and with LOSS 0
pub mod WithoutLoss
-- P1 to P10 and small inputs, computed
pub mod ExamplesHold
