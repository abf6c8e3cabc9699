-- A row's plan as numbers in a table. Assumes nothing.
-- a line's numbers, and those of many lines
pub mod Rows
