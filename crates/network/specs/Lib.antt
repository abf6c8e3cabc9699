-- What a reader must believe of the run and its bounds, in reading order. Assumes nothing.
-- sums, counts and lists
pub mod Counting
-- network, frame, exchange on the air, state, queue
pub mod Model
-- what sensors make
pub mod Readings
-- the run: starts, one symbol, states from empty queues on
pub mod Run
-- the run as a function of an oracle, which computes
pub mod Oracle
-- token buckets, loads, and the hypotheses on a network's figures
pub mod Loads
-- the claim, and the theorem's statement
pub mod Claim
-- small runs, computed in one table
pub mod Examples
-- hypotheses that are met, with traffic, and a queue that is full
pub mod Witness
