-- A surveyed tree's plan as numbers in a table. Assumes nothing.
-- a node's numbers, and a tree's
pub mod NodeRows
