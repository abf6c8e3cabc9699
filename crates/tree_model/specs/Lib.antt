-- What a reader must believe of surveyed trees, in reading order. Assumes nothing.
-- nodes, routers, neighbours
pub mod Tree
-- the way to the sink, whose superframe a link lies in, KIND and DEPTH
pub mod Ways
-- loads
pub mod Loads
-- the lines, ROUTE
pub mod Lines
-- numbers 3 to 7
pub mod Checks
-- planned, or the first refusal
pub mod Outcome
-- demand 3: the run of the tree, and what holds in it
pub mod Promise
-- demands 2 and 3 as short statements
pub mod Laws
-- trees, their plans, refusals and slots, computed
pub mod Examples
-- hypotheses that are met, with traffic, a queue that is full, and a frame that crosses two links
pub mod Witness
