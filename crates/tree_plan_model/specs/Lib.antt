-- What the stages of planning a surveyed tree answer and presume of one another. Assumes nothing.
-- the reading of a list
pub mod Lists
-- lists of children
pub mod Children
-- the walk
pub mod Inner
-- a tree's tables
pub mod Tables
-- depths and ways
pub mod Filled
-- stage after stage
pub mod Stages
-- where frames go next
pub mod Hops
