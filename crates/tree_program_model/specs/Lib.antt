-- What a reader must believe of what program `plan_tree` prints, in reading order. Assumes nothing.
-- what is printed for arguments and an input
pub mod Output
-- P1 and P2 from words and bytes to bytes, and the order of refusals, computed
pub mod Examples
-- what holds of it
pub mod Laws
