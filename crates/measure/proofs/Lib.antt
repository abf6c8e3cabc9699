-- Laws about the definitions of specs/. The layers above cite these and unfold no definition of this crate. Assumes nothing.
-- numbers that fit 64 bits
pub mod Limits
-- quotients rounded up
pub mod Rounding
-- what the conversions between measures come to
pub mod Conversions
