-- Laws about the stages of planning a surveyed tree. Assumes nothing.
-- a tree and its shape
pub mod Shaped
-- the conditions, part after part
pub mod Answers
-- notes, read
pub mod Noting
-- a tree and its tables
pub mod Tabled
