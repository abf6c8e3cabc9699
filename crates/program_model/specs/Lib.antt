-- What a reader must believe of all programs, in reading order. Assumes nothing.
-- the limit of an input, and what is printed of an outcome
pub mod Printed
-- what a program is asked by its arguments
pub mod Arguments
-- arguments and what they ask, computed in one table
pub mod Examples
