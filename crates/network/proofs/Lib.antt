-- The proofs of the statements in specs/. Assumes nothing.
-- facts about tests
pub mod Answers
-- laws of sums
pub mod Sums
-- laws of counts and lists
pub mod Lists
-- one turn of a link
pub mod Serving
-- the test for a start
pub mod StartTest
-- how many starts a stretch of symbols has
pub mod Pace
-- what one symbol does to each node
pub mod Steps
-- the frames at a node, counted
pub mod Accounting
-- busy periods: queues and what has left them
pub mod Backlogs
-- loads, queues and stays
pub mod Bounds
-- delays over a route
pub mod Routes
-- the sink's stretches
pub mod AtSink
-- no frame is lost
pub mod NoLoss
-- the rule at a start, as relation and as function
pub mod Rules
-- runs and the function of an oracle
pub mod Oracles
-- the theorem
pub mod Theorem
-- the computed examples
pub mod ExamplesHold
-- hypotheses that are met together
pub mod Witnesses
-- one symbol of a run
pub mod Moments
-- symbols in a stretch of symbols
pub mod Stretches
