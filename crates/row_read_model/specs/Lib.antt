-- What a reader must believe of rows of settings, in reading order. Assumes nothing.
-- the lines of names
pub mod Names
-- a row: values, conditions 1 and 2 before those of settings, the answer
pub mod Rows
-- what holds of rows, for the layers above
pub mod Laws
-- document 01's examples and edge cases, computed in one table
pub mod Examples
