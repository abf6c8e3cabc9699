-- Laws about the definitions of specs/. Assumes nothing.
-- the outcome of a row is that of the row that was read
pub mod Reading
-- a row without LOSS and with LOSS 0
pub mod WithoutLoss
-- all that the answer to a row's bytes is computed with
pub mod Computing
-- the examples
pub mod ExamplesHold
