-- What a reader must believe of a whole input, in reading order. Assumes nothing.
-- what is printed for it
pub mod Output
-- P1 to P10 from bytes to bytes, and small inputs, computed
pub mod Examples
-- the output piece by piece
pub mod Steps
-- what holds of the pieces, for a program that writes them
pub mod Laws
