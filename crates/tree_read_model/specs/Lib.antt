-- What a reader must believe of node lists, in reading order. Assumes nothing.
-- the line of names, a node's line and its rules
pub mod Entries
-- the tree of a text, number 10, the outcome
pub mod Survey
-- what holds of node lists, for the layers above
pub mod Laws
-- texts and what they come to, computed
pub mod Examples
